-- Look-ups in a map, whose keys are in ascending order.
use Rattle.std.proofs.Common.{◌≡◌, ℕ, zero, suc, ◌<◌, ◌≤◌, List, [], ◌∷◌, length, get_or, false, cond, refl, sym, ◌∙◌, ap, subst, arith, ◌⊎◌, inl, inr, Some, None}
use Rattle.std.specs.declared.cmp.Ordering.{Ordering}
use Rattle.std.specs.declared.cmp.Ordering.TheVariants.{Less, Equal, Greater}
use Rattle.std.specs.Ordering.{is_eq, ordering_index, ordering_reverse}
use Rattle.std.specs.List.Sorted.{IsNonDecreasingBy, IsPartitionPoint}
use Rattle.term_core.specs.Datum.{Datum, entries_of}
use Rattle.term_core.specs.Limits.{ArePairsSound}
use Rattle.term_core.specs.Order.{datum_cmp}
use Rattle.term_core.specs.OrderLaws.{datum_cmp_total, datum_cmp-equal, IsBelow-less}
use Rattle.prims.specs.Maps.{value_at}

-- a key is below each key that follows it
keys_rise : (x : Datum × Datum) (xs : List (Datum × Datum)) → ArePairsSound (entries_of (x ∷ xs)) → (j : ℕ) (d : Datum × Datum) → j < length xs → datum_cmp x.0 (get_or xs j d).0 ≡ Less
keys_rise x [] sound j d within = absurd (omega arith)
keys_rise x (y ∷ ys) sound zero d within = IsBelow-less x.0 y.0 sound.2
keys_rise x (y ∷ ys) sound (suc j) d within =
    datum_cmp_total.trans x.0 y.0 (get_or ys j d).0 (IsBelow-less x.0 y.0 sound.2) (keys_rise y ys sound.3 j d (omega arith))

-- the value of a key that is at a place is the value there
pub value_found : (key : Datum) (xs : List (Datum × Datum)) (i : ℕ) (d : Datum × Datum) → ArePairsSound (entries_of xs) → i < length xs → datum_cmp (get_or xs i d).0 key ≡ Equal → Some (get_or xs i d).1 ≡ value_at key (entries_of xs)
value_found key [] i d sound within same = absurd (omega arith)
value_found key (x ∷ xs) zero d sound within same =
    sym (ap (λ o. cond (is_eq o) (Some x.1) (value_at key (entries_of xs))) same)
value_found key (x ∷ xs) (suc i) d sound within same =
    let below = keys_rise x xs sound i d (omega arith) in
    let less = subst (λ k. datum_cmp x.0 k ≡ Less) (datum_cmp-equal (get_or xs i d).0 key same) below in
    value_found key xs i d sound.3 (omega arith) same
    ∙ sym (ap (λ o. cond (is_eq o) (Some x.1) (value_at key (entries_of xs))) less)

-- a key that is equal to none has no value
pub value_missing : (key : Datum) (xs : List (Datum × Datum)) → ((j : ℕ) (d : Datum × Datum) → j < length xs → is_eq (datum_cmp (get_or xs j d).0 key) ≡ false) → None ≡ value_at key (entries_of xs)
value_missing key [] other = refl
value_missing key (x ∷ xs) other =
    value_missing key xs (λ j d within. other (suc j) d (omega arith))
    ∙ sym (ap (λ b. cond b (Some x.1) (value_at key (entries_of xs))) (other zero x (omega arith)))

-- of two ascending terms the second compares no lower with a third
index_rises : (a b key : Datum) → datum_cmp a b ≡ Less → ordering_index (datum_cmp a key) ≤ ordering_index (datum_cmp b key)
index_rises a b key below = by (datum_cmp a key) refl
  where
    greater : datum_cmp key b ≡ Less → datum_cmp b key ≡ Greater
    greater less = datum_cmp_total.antisymm b key ∙ ap ordering_reverse less

    by : (o : Ordering) → datum_cmp a key ≡ o → ordering_index o ≤ ordering_index (datum_cmp b key)
    by Less e = omega arith
    by Equal e = rw (greater (sym (datum_cmp_total.congr a key b e) ∙ below)) (omega arith)
    by Greater e =
        rw (greater (datum_cmp_total.trans key a b (datum_cmp_total.antisymm key a ∙ ap ordering_reverse e) below)) (omega arith)

before_or_not : (j i : ℕ) → (j < i) ⊎ (i ≤ j)
before_or_not j zero = inr (omega arith)
before_or_not zero (suc i) = inl (omega arith)
before_or_not (suc j) (suc i) = elim (before_or_not j i) [ inl h ↦ inl (omega arith) | inr h ↦ inr (omega arith) ]

-- a key between a place with only smaller keys before it and only greater ones from there on has no value
pub value_between : (key : Datum) (xs : List (Datum × Datum)) (i : ℕ) → IsPartitionPoint (λ y. datum_cmp y.0 key ≡ Less) (λ y. datum_cmp y.0 key ≡ Greater) xs i → None ≡ value_at key (entries_of xs)
value_between key xs i apart =
    value_missing key xs (λ j d within. elim (before_or_not j i) [
      | inl h ↦ ap is_eq (apart.0 j d (omega arith) h)
      | inr h ↦ ap is_eq (apart.1 j d h within)
    ])

pub keys_partition : (key : Datum) (xs : List (Datum × Datum)) → ArePairsSound (entries_of xs) → IsNonDecreasingBy (λ y. ordering_index (datum_cmp y.0 key)) xs
keys_partition key [] sound i j d rising within = absurd (omega arith)
keys_partition key (x ∷ xs) sound zero zero d rising within = omega arith
keys_partition key (x ∷ xs) sound zero (suc j) d rising within =
    index_rises x.0 (get_or xs j d).0 key (keys_rise x xs sound j d (omega arith))
keys_partition key (x ∷ xs) sound (suc i) zero d rising within = absurd (omega arith)
keys_partition key (x ∷ xs) sound (suc i) (suc j) d rising within =
    keys_partition key xs sound.3 i j d (omega arith) (omega arith)
