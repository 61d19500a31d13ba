use Rattle.std.proofs.Common.{◌≡◌, ◌-◌}
use Rattle.machine_bodies.specs.Going.{Going}
use Rattle.machine_bodies.proofs.bodies.run_bodies.Given as goal

abbrev pub invariant-loop-run : goal.invariant-loop-run
invariant-loop-run g l =
    record {
      code : l.run.code.now ≡ l.code;
      going : Going l.code l.object l.run.current l.run.waiting.items l.executed;
    }

abbrev pub decreases-loop-run : goal.decreases-loop-run
decreases-loop-run g l = 2147483648 - l.executed
