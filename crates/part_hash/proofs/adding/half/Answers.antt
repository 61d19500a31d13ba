use Rattle.std.proofs.Common.{sym, subst}
use Rattle.part_hash.specs.Slots.{AreRising}
use Rattle.part_hash.proofs.PlaceLemmas.{rising_filtered}
use Rattle.part_hash.proofs.adding.half.Goals as goal

pub of-requires : goal.of-requires
of-requires g c = subst AreRising (sym c.in_ok-places.ensures) (rising_filtered _ c.places.result.now c.places.ensures.rising)
