use Rattle.std.proofs.Common.{◌≡◌, ◌-◌, ap, sym, ◌∙◌, subst, length, take, drop}
use Rattle.std.proofs.Math.Seq.{take-length}
use Rattle.std.specs.Prelude.{List}
use Rattle.std.proofs.lemmas.List.{length-drop}
use Rattle.part_rows.specs.declared.place.Place.{Place}
use Rattle.part_hash.specs.Slots.{AreRising}
use Rattle.part_hash.proofs.PlaceLemmas.{rising_dropped}
use Rattle.part_hash.proofs.places.Slot.from_front.Goals as goal

pub returns-clause-rising : goal.returns-clause-rising
returns-clause-rising g c =
    let places : List Place = c.deref.result.now in
    let rest : take (length places - c.self.inside.front) (drop c.self.inside.front places) ≡ drop c.self.inside.front places = ap (λ n. take n (drop c.self.inside.front places)) (sym (length-drop c.self.inside.front places)) ∙ take-length (drop c.self.inside.front places) in
    subst AreRising (sym rest) (rising_dropped c.self.inside.front places (subst AreRising (sym c.deref.ensures.value) c.self.invariant.0))
