use Rattle.std.proofs.Common.{◌-◌, length, refl, arith}
use Rattle.part_core.specs.declared.kind.TableKind.TheVariants.{Set}
use Rattle.part_hash.proofs.AddLemmas.{doubled_where}
use Rattle.part_hash.proofs.adding.are_too_few.Goals as goal

pub returns : goal.returns
returns g c =
    doubled_where c.args.count (length c.args.slots.now) c.slots_with_row.result c.requires.base (c.slots_with_row.ensures Set (c.args.count - 1) refl (omega (arith, c.requires.some)))
