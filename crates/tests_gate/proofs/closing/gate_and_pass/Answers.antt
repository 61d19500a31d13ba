use Rattle.gate.specs.Views.{Ticket}
use Rattle.gate.proofs.ClosedLemmas.{last_made}
use Rattle.tests_gate.proofs.closing.gate_and_pass.Goals as goal

pub returns : goal.returns
returns g c =
    (last_made (λ (t : Ticket). t.gate) _ _ _ _ c.in-Some.gate c.requires.made c.in-Some.ensures.items c.in-Some-pop.pass c.in-Some-pop.ensures.items).1
