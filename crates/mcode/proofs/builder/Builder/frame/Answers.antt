use Rattle.std.proofs.Common.{refl}
use Rattle.mcode.proofs.builder.Builder.frame.Goals as goal

pub returns-in-Some-clause-refused : goal.returns-in-Some-clause-refused
returns-in-Some-clause-refused g c = (refl, rw (← c.self.view_is, ← c.frames.ensures.value) c.in-Some.ensures.refused)
