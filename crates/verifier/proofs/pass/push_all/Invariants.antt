-- The kinds so far are pushed.
use Rattle.std.specs.Prelude.{◌≡◌, take, reverse}
use Rattle.verifier.proofs.pass.push_all.Given as goal

abbrev pub invariant-loop-place : goal.invariant-loop-place
invariant-loop-place g l = l.shape ≡ record { kinds = reverse (take l.place l.kinds); bound = l.fn.shape.bound }
