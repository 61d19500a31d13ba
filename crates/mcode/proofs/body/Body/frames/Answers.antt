use Rattle.std.proofs.Common.{subst}
use Rattle.mcode.specs.Program.{IsProgram}
use Rattle.mcode.proofs.BuildLemmas.{seen_program}
use Rattle.mcode.proofs.body.Body.frames.Goals as goal

pub returns-in-Some-clause-within : goal.returns-in-Some-clause-within
returns-in-Some-clause-within g c =
    subst IsProgram c.self.view_is (seen_program _ _ _ c.self.invariant)
