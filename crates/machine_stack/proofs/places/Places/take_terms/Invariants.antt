-- The values so far are those that were at the top, and what is left is below them.
use Rattle.std.specs.Prelude.{◌≡◌, ◌-◌, length, take, drop}
use Rattle.machine_stack.specs.Stack.{stack_at}
use Rattle.machine_stack.proofs.places.Places.take_terms.Given as goal

abbrev pub invariant-loop-taken : goal.invariant-loop-taken
invariant-loop-taken g l =
    (length l.self.terms ≡ length l.fn.self.terms)
    × (l.terms.items ≡ take l.taken (stack_at l.fn.self.terms l.height))
    × (stack_at l.self.terms (l.height - l.taken) ≡ drop l.taken (stack_at l.fn.self.terms l.height))
