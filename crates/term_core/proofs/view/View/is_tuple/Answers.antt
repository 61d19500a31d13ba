use Rattle.std.proofs.Common.{ap, sym}
use Rattle.std.specs.Prelude.{nat_eq}
use Rattle.term_core.proofs.LimitLemmas.{item_count-items_of}
use Rattle.term_core.proofs.PartLemmas.{shown-no_tuple}
use Rattle.term_core.proofs.view.View.is_tuple.Goals as goal

pub returns-in-Tuple : goal.returns-in-Tuple
returns-in-Tuple g c =
    rw (c.in-Tuple.is, c.from.ensures)
    (ap (λ n. nat_eq n c.args.size) (sym (item_count-items_of c.in-Tuple.elements.now)))

pub returns-in_default : goal.returns-in_default
returns-in_default g c = sym (shown-no_tuple _ _ c.requires c.in_default.not-Tuple)
