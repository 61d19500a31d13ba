-- The values so far are those that were at the top, in the same order, and what is left is below them.
use Rattle.std.specs.Prelude.{◌≡◌, ◌-◌, length, take, drop}
use Rattle.machine_stack.specs.Stack.{stack_at}
use Rattle.machine_bodies.proofs.activation.hand_over.Given as goal

abbrev pub invariant-loop-handed : goal.invariant-loop-handed
invariant-loop-handed g l =
    record {
      places : length l.from.terms ≡ length l.fn.from.terms;
      room : length l.to.terms ≡ length l.fn.to.terms;
      left : stack_at l.from.terms (l.height - l.handed) ≡ drop l.handed (stack_at l.fn.from.terms l.height);
      handed : take l.handed (stack_at l.to.terms l.count) ≡ take l.handed (stack_at l.fn.from.terms l.height);
    }
