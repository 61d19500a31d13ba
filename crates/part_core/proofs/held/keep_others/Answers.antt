use Rattle.std.proofs.Common.{rules}
use Rattle.std.proofs.lemmas.Fn.{filter_same}
use Rattle.std.specs.Prelude.{not}
use Rattle.term_operand.specs.Order.{is_same}
use Rattle.part_core.proofs.held.keep_others.Goals as goal

pub returns : goal.returns
returns g c =
    filter_same _ (λ u. not (is_same c.args.object.now u)) _ (λ x b f' k. search rules) _ _ c.retain.ensures.filtered
