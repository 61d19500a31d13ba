-- The routines so far are known.
use Rattle.std.specs.Prelude.{◌<◌}
use Rattle.verifier.specs.Verified.{IsKnown, AreTables}
use Rattle.verifier.proofs.verification.learn_routines.Given as goal

abbrev pub invariant-loop-number : goal.invariant-loop-number
invariant-loop-number g l =
    (0 < l.number) × IsKnown l.code l.number l.known.depths.items l.known.budgets.items
    × AreTables l.code l.number l.known.tables.items
