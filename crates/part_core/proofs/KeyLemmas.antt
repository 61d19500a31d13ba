-- Keys that are the same, and keys in their order.
use Rattle.std.proofs.Common.{◌≡◌, refl, ap, sym, ◌∙◌}
use Rattle.std.specs.Prelude.{Bool, true, false, Decides}
use Rattle.std.specs.Cmp.{IsEquivalence}
use Rattle.std.specs.declared.cmp.Ordering.TheVariants.{Less, Greater}
use Rattle.std.specs.Ordering.{is_lt, ordering_reverse}
use Rattle.std.proofs.lemmas.Cmp.{eq_by_cmp_equiv, tied_itself}
use Rattle.term_core.specs.Datum.{Datum}
use Rattle.term_core.specs.Order.{datum_cmp}
use Rattle.term_core.specs.OrderLaws.{datum_cmp_total, datum_cmp-same, datum_eq-same}
use Rattle.term_operand.specs.Order.{is_same}
use Rattle.part_core.specs.Visits.{is_beyond}

pub by_test : (b : Bool) (P : Type 0) → (b ≡ true → P) → (b ≡ false → P) → P
by_test true P f g = f refl
by_test false P f g = g refl

pub same_keys : IsEquivalence is_same
same_keys = eq_by_cmp_equiv datum_cmp_total

pub same_is : (j k : Datum) → is_same j k ≡ true → j ≡ k
same_is j k h = datum_eq-same j k h

pub same_from : (j k : Datum) → j ≡ k → is_same j k ≡ true
same_from j k e = rw (datum_cmp-same e) refl

pub same_decides : (j k : Datum) → Decides (is_same j k) (j ≡ k)
same_decides j k = (same_is j k, same_from j k)

-- a test returns the same for equal keys
pub alike : (c : Datum → Bool) (j k : Datum) → is_same j k ≡ true → c k ≡ c j
alike c j k h = ap c (sym (same_is j k h))

-- a key that is equal to l isn't equal to j, if j isn't equal to l
pub same_not : (j k l : Datum) → is_same j l ≡ false → is_same k l ≡ true → is_same k j ≡ false
same_not j k l apart h = same_keys.symm k j ∙ ap (is_same j) (same_is k l h) ∙ apart

-- no key is after itself
pub not_behind_itself : (k : Datum) → is_beyond k k ≡ false
not_behind_itself k = ap is_lt (tied_itself datum_cmp_total k)

-- a key that is below another isn't after it
pub below_not_behind : (j k : Datum) → datum_cmp j k ≡ Less → is_beyond k j ≡ false
below_not_behind j k h = ap is_lt (datum_cmp_total.antisymm k j ∙ ap ordering_reverse h)

pub greater_below : (j k : Datum) → datum_cmp j k ≡ Greater → datum_cmp k j ≡ Less
greater_below j k h = datum_cmp_total.antisymm k j ∙ ap ordering_reverse h
