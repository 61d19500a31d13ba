use Rattle.part_core.proofs.ChosenLemmas.{holds_is}
use Rattle.part_rows.proofs.objects.holds.Goals as goal

pub returns-clause-holds : goal.returns-clause-holds
returns-clause-holds g c =
    holds_is c.args.machine.now.code c.args.object.now c.in_ok-holds.holds c.in_ok-holds.ensures.value
