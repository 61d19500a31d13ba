use Rattle.std.proofs.Common.{◌-◌, refl, length, arith}
use Rattle.part_core.specs.declared.kind.TableKind.TheVariants.{Set}
use Rattle.part_plain.proofs.ShownLemmas.{grown_base}
use Rattle.part_plain.proofs.rows.slots_after.Goals as goal

pub returns-then-before-rows-clause-base : goal.returns-then-before-rows-clause-base
returns-then-before-rows-clause-base g c =
    grown_base (length c.args.rows.now - 1) (length c.args.rows.now) c.args.slots c.slots_with_row.result c.requires (c.slots_with_row.ensures Set (length c.args.rows.now - 1) refl (omega (arith, c.if-before-rows.true)))

pub returns-then-before-rows-clause-slots : goal.returns-then-before-rows-clause-slots
returns-then-before-rows-clause-slots g c = λ few.
    c.slots_with_row.ensures Set c.args.before refl (omega (arith, c.if-before-rows.true, few))
