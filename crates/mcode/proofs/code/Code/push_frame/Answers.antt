use Rattle.mcode.proofs.BuildLemmas.{code_whole}
use Rattle.mcode.proofs.code.Code.push_frame.Goals as goal

pub invariant_of-self : goal.invariant_of-self
invariant_of-self g c =
    code_whole _ _ _ c.self.invariant.seen.constants c.push_frame.ensures.within c.self.invariant.routine_count c.self.invariant.routines
