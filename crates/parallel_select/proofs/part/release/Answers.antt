use Rattle.std.proofs.Math.Logic.{∥∥₁_map}
use Rattle.std.proofs.lemmas.Bool.{lt-ltb}
use Rattle.parallel_select.proofs.part.release.Goals as goal

pub unfix_at-requires-clause-granted : goal.unfix_at-requires-clause-granted
unfix_at-requires-clause-granted g c =
    ∥∥₁_map (c.requires.held c.if-own.true) (λ s. (s.0, s.1, lt-ltb 0 _ s.2))
