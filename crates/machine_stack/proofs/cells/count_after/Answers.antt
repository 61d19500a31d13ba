use Rattle.std.proofs.Common.{ap, ◌∙◌}
use Rattle.std.specs.Option.{option_copied}
use Rattle.term_core.specs.Datum.{cell_count}
use Rattle.term_build.specs.Rest.{rest_of}
use Rattle.term_core.specs.Term.{tail_of}
use Rattle.term_core.proofs.LimitLemmas.{list-length}
use Rattle.machine_stack.proofs.CellLemmas.{tail_below}
use Rattle.machine_stack.proofs.cells.count_after.Goals as goal

pub returns-in-List : goal.returns-in-List
returns-in-List g c =
    let list = c.in-List in
    let tail = option_copied list.field-1 in (
      list-length list.elements.now tail list.ensures.split.1 ∙ ap cell_count list.ensures.value,
      tail_below list.elements.now (tail_of tail) (rest_of c.args.count c.args.list.now) list.ensures.value list.ensures.split.0 list.ensures.term.shallow,
    )
