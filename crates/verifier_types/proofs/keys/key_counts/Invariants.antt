-- The keys of the constants so far are counted.
use Rattle.std.specs.Prelude.{◌≡◌, map, take}
use Rattle.verifier_types.specs.Needed.{keys_counted}
use Rattle.verifier_types.proofs.keys.key_counts.Given as goal

abbrev pub invariant-loop-constant : goal.invariant-loop-constant
invariant-loop-constant g l = l.counts.items ≡ map keys_counted (take l.constant-index l.constants)
