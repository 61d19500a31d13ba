use Rattle.std.specs.Int.{w64}
use Rattle.std.proofs.lemmas.Int.{to_z-of_z}
use Rattle.prims.proofs.ShiftLemmas.{over_power_negative, over_power_positive}
use Rattle.prims.proofs.shifts.over_power.Goals as goal

pub returns-then-value-lt0 : goal.returns-then-value-lt0
returns-then-value-lt0 c =
    over_power_negative c.args.value c.args.by c.ranges.value c.if-by-lt64.false
    (rw (to_z-of_z w64 c.args.value c.ranges.value) at c.if-value-lt0.true)

pub returns-else-value-lt0 : goal.returns-else-value-lt0
returns-else-value-lt0 c =
    over_power_positive c.args.value c.args.by c.ranges.value c.if-by-lt64.false
    (rw (to_z-of_z w64 c.args.value c.ranges.value) at c.if-value-lt0.false)
