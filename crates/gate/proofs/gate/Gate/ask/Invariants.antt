use Rattle.part_core.specs.Ops.{act_of, entries_made}
use Rattle.gate.proofs.gate.Gate.ask.Given as goal

abbrev pub ghosts-put_back : goal.ghosts-put_back
ghosts-put_back g a = record { more = entries_made a._number (act_of a._asked.now.value) a._answer.now }
