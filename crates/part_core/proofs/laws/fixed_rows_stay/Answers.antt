use Rattle.part_core.proofs.HistoryLemmas.{legal_rest_from, state_more}
use Rattle.std.proofs.Common.{sym, subst}
use Rattle.part_core.specs.Rows.{opening}
use Rattle.part_core.specs.Laws.{Stays}
use Rattle.part_core.specs.Legal.{state_after}
use Rattle.part_core.proofs.StayLemmas.{stays_from}
use Rattle.part_core.proofs.laws.fixed_rows_stay.Goals as goal

pub returns : goal.returns
returns c = λ o past more legal fixed.
    subst (Stays o (state_after o past)) (sym (state_more o (opening o) past more)) (stays_from o (state_after o past) more (legal_rest_from o (opening o) past more legal) fixed)
