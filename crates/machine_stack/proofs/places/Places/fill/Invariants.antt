-- There are no more places than are to be, and none that was added was made.
use Rattle.std.specs.Prelude.{◌≤◌, ◌-◌, IsTrue, length}
use Rattle.machine_stack.proofs.places.Places.fill.Given as goal

abbrev pub invariant-loop-self : goal.invariant-loop-self
invariant-loop-self g l = (length l.self.terms ≤ l.count) × (IsTrue l.fn.self.borrowed → IsTrue l.self.borrowed)

abbrev pub decreases-loop-self : goal.decreases-loop-self
decreases-loop-self g l = l.count - length l.self.terms
