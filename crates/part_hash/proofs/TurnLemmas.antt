-- In which slots rows of a class stand.
use Rattle.std.proofs.Common.{◌≡◌, ℕ, ◌<◌, ◌≤◌, ◌+◌, ◌*◌, ◌/◌, ◌%◌, refl, ap, sym, subst, ◌∙◌, arith}
use Rattle.std.specs.Prelude.{◌==◌}
use Rattle.std.proofs.lemmas.Bool.{eqb-true}
use Rattle.std.proofs.lemmas.Nat.Gcd.{dvd_of_mod-eq-zero}
use Prim.Native.Nat.{◌∣◌}
use Rattle.std.proofs.Math.Nat.{add-mul, mul-le-mul_right, mod-mod_of_dvd, mod-one, mod_self, mod-lt, mod-add-div', div-mul_cancel, div-lt_iff_lt-mul}
use Rattle.term_core.specs.Datum.{Datum}
use Rattle.term_core.specs.KeyHash.{key_hash}
use Rattle.part_core.specs.declared.settings.Settings.{Settings}
use Rattle.part_core.specs.Settings.{class_at}
use Rattle.part_core.proofs.KeyLemmas.{by_test}
use Rattle.part_hash.specs.Places.{spread, slot_at}
use Rattle.part_hash.specs.Classes.{slot_of_class, step_of}

-- the step divides the slots, and the class by the base is known by it
pub step_divides : (count base : ℕ) → step_of count base ∣ count
step_divides count base =
    by_test (count % base == 0) _
    (λ whole. rw whole (dvd_of_mod-eq-zero base {n = count} (eqb-true (count % base) 0 whole)))
    (λ part. rw part (dvd_of_mod-eq-zero 1 {n = count} (mod-one count)))

pub step_some : (count base : ℕ) → 0 < base → 0 < step_of count base
step_some count base some =
    by_test (count % base == 0) _ (λ whole. rw whole some) (λ part. rw part (omega arith))

-- what is equal by the base is so by the step
same_by_step : (h class count base : ℕ) → h % base ≡ class → (h % count) % step_of count base ≡ class % step_of count base
same_by_step h class count base is =
    mod-mod_of_dvd (step_of count base) {b = count} h (step_divides count base) ∙ by_test (count % base == 0) _
    (λ whole. rw whole (sym (mod-mod_of_dvd base {b = base} h (dvd_of_mod-eq-zero base {n = base} (mod_self base))) ∙ ap (λ n. n % base) is))
    (λ part. rw part (mod-one h ∙ sym (mod-one class)))

-- the turn at which the slot of a key of a class comes
abbrev pub turn_of : Settings → ℕ → ℕ → Datum → ℕ
turn_of o count base k = slot_at o count k / step_of count base

pub spread_is : (o : Settings) → 0 < o.parts → spread o ≡ o.parts
spread_is o some = by_test (o.parts == 0) _ (λ none. absurd (omega (arith, some, eqb-true o.parts 0 none))) (λ parts. rw parts refl)

pub slot_comes : (o : Settings) (count base class : ℕ) (k : Datum) → 0 < o.parts → class_at o base k ≡ class → slot_at o count k ≡ slot_of_class count base class (turn_of o count base k)
slot_comes o count base class k some is =
    let h : ℕ = key_hash k / spread o in
    let same : h % base ≡ class = ap (λ d. (key_hash k / d) % base) (spread_is o some) ∙ is in
    sym (ap (λ n. n + (h % count) / step_of count base * step_of count base) (sym (same_by_step h class count base same)) ∙ mod-add-div' (h % count) (step_of count base))

pub turn_within : (o : Settings) (count base : ℕ) (k : Datum) → 0 < count → 0 < base → turn_of o count base k < count / step_of count base
turn_within o count base k some based =
    (div-lt_iff_lt-mul {k = step_of count base} {x = slot_at o count k} {y = count / step_of count base} (step_some count base based)).1
    (subst (λ n. slot_at o count k < n) (sym (div-mul_cancel (step_of count base) {m = count} (step_divides count base))) (mod-lt (key_hash k / spread o) some))

-- such a slot is there
pub slot_there : (count base class turn : ℕ) → 0 < base → turn < count / step_of count base → slot_of_class count base class turn < count
slot_there count base class turn some below =
    let step : ℕ = step_of count base in
    let whole : count / step * step ≡ count = div-mul_cancel step {m = count} (step_divides count base) in
    let next : (turn + 1) * step ≤ count / step * step = mul-le-mul_right step (omega (arith, below)) in
    let over : (turn + 1) * step ≡ turn * step + 1 * step = add-mul turn 1 step in
    omega (arith, whole, next, over, mod-lt class (step_some count base some))
