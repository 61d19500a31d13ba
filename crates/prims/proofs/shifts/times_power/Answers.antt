use Rattle.std.proofs.Common.{pos, ◌∙◌, ap, sym, arith}
use Rattle.std.specs.Int.{w64}
use Rattle.std.proofs.lemmas.Int.{to_z-of_z}
use Rattle.prims.proofs.FittingLemmas.{fitting_outside, fitting-result_ok}
use Rattle.prims.proofs.ShiftLemmas.{shifted_out, wide_product, power_is}
use Rattle.prims.specs.Fitting.{fitting}
use Rattle.prims.proofs.shifts.times_power.Goals as goal

pub returns-then-by-gt63 : goal.returns-then-by-gt63
returns-then-by-gt63 c =
    sym (fitting_outside _ (shifted_out c.args.value c.args.by c.if-value-eq0.false c.if-by-gt63.true))

pub returns : goal.returns
returns c =
    let value = c.from.ensures ∙ to_z-of_z w64 c.args.value c.ranges.value in
    let power = c.from-2.ensures ∙ ap pos (power_is c.args.by (omega arith)) in
    c.ok.ensures.value
    ∙ fitting-result_ok c.try_from.result _ c.try_from.ensures
    ∙ ap fitting (wide_product c.from.result c.from-2.result c.args.value c.args.by value power c.ranges.value (omega arith))
