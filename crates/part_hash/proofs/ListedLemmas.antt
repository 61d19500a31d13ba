-- What slots list.
use Rattle.std.proofs.Common.{◌≡◌, ℕ, ◌<◌, ◌+◌, ◌*◌, ◌/◌, ◌%◌, ◌^◌, List, [], ◌∷◌, ◌++◌, refl, ap, sym, subst, ◌∙◌, length, get_or, set, length-set, get_or-set_same, get_or-set_other, arith, eq-eqb}
use Rattle.std.specs.Prelude.{Bool, true, false, not, ◌==◌, if◌then◌else◌, None, All, filter, map, nat_eq}
use Rattle.std.specs.List.{list_all, list_any, range_with_len}
use Rattle.std.specs.Map.{values_of}
use Rattle.std.proofs.lemmas.Bool.{true≢false, and_parts, eqb-true}
use Rattle.std.proofs.lemmas.List.{append-nil, map-append, get_or_read}
use Rattle.std.proofs.lemmas.List.Elements.{All-filter, All-head, All-tail, filter-append}
use Rattle.std.proofs.lemmas.List.FromFn.{get_or-map-range_with_len, length-map-range_with_len}
use Rattle.std.proofs.Math.Nat.{mod-mod_of_dvd, mul-mod_left, mod-lt}
use Rattle.std.proofs.lemmas.Nat.Gcd.{dvd_of_mod-eq-zero}
use Rattle.slab.specs.Slab.{Slab, Updates}
use Rattle.term_core.specs.Datum.{Datum}
use Rattle.term_core.specs.KeyHash.{key_hash}
use Rattle.term_operand.specs.Order.{is_same}
use Rattle.part_core.specs.declared.settings.Settings.{Settings}
use Rattle.part_core.specs.Rows.{Row, has_row}
use Rattle.part_core.specs.States.{IsBase}
use Rattle.part_core.specs.Visits.{bases}
use Rattle.part_core.proofs.KeyLemmas.{by_test, same_is}
use Rattle.part_rows.specs.declared.place.Place.{Place}
use Rattle.part_hash.specs.Places.{Kept, Standing, is_standing, low_of, slot_at, spread, places_where, places_in}
use Rattle.part_hash.specs.Slots.{Adds, AreListed, AreListedWithGone, IsAdded, IsListed, Listing, Relists, half_at, listing_at, no_listing, with_gone}
use Rattle.part_hash.specs.Standing.{AreLow}
use Rattle.part_hash.proofs.StandLemmas.{IsOwn}
use Rattle.part_hash.proofs.SlotLemmas.{listed_behind, listed_less, listed_lost, listed_on}

-- the first `count` slots list the places of their rows
abbrev Lists : Settings → Slab Kept → ℕ → ℕ → List Listing → List Standing → Type 0
Lists o slab made count slots list = (j : ℕ) → j < count → IsListed slab made (listing_at slots j) (places_in o count j list)

-- ---- a row is added

where_more : (q : Datum → Bool) (list : List Standing) (e : Standing) → places_where q (list ++ e ∷ []) ≡ places_where q list ++ (if q e.1.0 then e.0 ∷ [] else [])
where_more q list e =
    ap (map (λ (f : Standing). f.0)) (filter-append (λ (f : Standing). q f.1.0) list (e ∷ []))
    ∙ map-append (λ (f : Standing). f.0) (filter (λ (f : Standing). q f.1.0) list) (filter (λ (f : Standing). q f.1.0) (e ∷ []))
    ∙ ap (λ ps. places_where q list ++ ps) (of (q e.1.0))
  where
    of : (b : Bool) → map (λ (f : Standing). f.0) (if b then e ∷ [] else []) ≡ (if b then e.0 ∷ [] else [])
    of true = refl
    of false = refl

-- a place is appended to those of the slot of its row's hash
pub listed_more : (o : Settings) (slab new : Slab Kept) (slots : List Listing) (list : List Standing) (p : Place) (row : Row) (hash number : ℕ) (before after : Listing) → 0 < length slots → hash ≡ key_hash row.0 → number ≡ (hash / spread o) % length slots → before ≡ get_or slots number before → Adds slab p before after → IsAdded slab new p row → AreListed o slab p.made slots list → AreListed o new (p.made + 1) (set slots number after) (list ++ (p, row) ∷ [])
listed_more o slab new slots list p row hash number before after some is at there adds added listed =
    subst (λ n. Lists o new (p.made + 1) n (set slots number after) (list ++ (p, row) ∷ [])) (sym (length-set slots number after)) each
  where
    within : number < length slots
    within = subst (λ n. n < length slots) (sym at) (mod-lt (hash / spread o) some)

    own : number ≡ slot_at o (length slots) row.0
    own = at ∙ ap (λ h. (h / spread o) % length slots) is

    old : listing_at slots number ≡ before
    old = sym (get_or_read slots number before within there no_listing)

    each : Lists o new (p.made + 1) (length slots) (set slots number after) (list ++ (p, row) ∷ [])
    each j below = by_test (number == j) _
        (λ here. let same : number ≡ j = eqb-true number j here in
        let passes : (slot_at o (length slots) row.0 == j) ≡ true = eq-eqb _ _ (sym own ∙ same) in
        let was : IsListed slab p.made before (places_in o (length slots) j list) = subst (λ v. IsListed slab p.made v (places_in o (length slots) j list)) (ap (listing_at slots) (sym same) ∙ old) (listed j below) in
        let now : IsListed new (p.made + 1) after (places_in o (length slots) j list ++ p ∷ []) = subst (λ v. IsListed new (p.made + 1) v (places_in o (length slots) j list ++ p ∷ [])) (sym adds.is) (listed_behind slab new p row adds.before (places_in o (length slots) j list) added (adds.kept.listed p.made (places_in o (length slots) j list) was)) in
        let slot : listing_at (set slots number after) j ≡ after = ap (listing_at (set slots number after)) (sym same) ∙ get_or-set_same slots number after no_listing within in
        let places : places_in o (length slots) j (list ++ (p, row) ∷ []) ≡ places_in o (length slots) j list ++ p ∷ [] = where_more (λ k. slot_at o (length slots) k == j) list (p, row) ∙ ap (λ b. places_in o (length slots) j list ++ (if b then p ∷ [] else [])) passes in
        subst (λ ps. IsListed new (p.made + 1) (listing_at (set slots number after) j) ps) (sym places) (subst (λ v. IsListed new (p.made + 1) v (places_in o (length slots) j list ++ p ∷ [])) (sym slot) now))
        (λ other. let fails : (slot_at o (length slots) row.0 == j) ≡ false = ap (λ i. i == j) (sym own) ∙ other in
        let slot : listing_at (set slots number after) j ≡ listing_at slots j = get_or-set_other slots number j after no_listing (λ e. true≢false (sym (eq-eqb _ _ (sym e)) ∙ other)) in
        let places : places_in o (length slots) j (list ++ (p, row) ∷ []) ≡ places_in o (length slots) j list = where_more (λ k. slot_at o (length slots) k == j) list (p, row) ∙ ap (λ b. places_in o (length slots) j list ++ (if b then p ∷ [] else [])) fails ∙ append-nil (places_in o (length slots) j list) in
        subst (λ ps. IsListed new (p.made + 1) (listing_at (set slots number after) j) ps) (sym places) (subst (λ v. IsListed new (p.made + 1) v (places_in o (length slots) j list)) (sym slot) (listed_on slab new p row (listing_at slots j) (places_in o (length slots) j list) added (listed j below))))

-- a slot that lists what it listed, among the others
pub listed_kept : (o : Settings) (slab : Slab Kept) (made : ℕ) (slots : List Listing) (list : List Standing) (number : ℕ) (before after : Listing) → number < length slots → before ≡ get_or slots number before → Relists slab before after → AreListed o slab made slots list → AreListed o slab made (set slots number after) list
listed_kept o slab made slots list number before after within there relists listed =
    subst (λ n. Lists o slab made n (set slots number after) list) (sym (length-set slots number after)) each
  where
    old : listing_at slots number ≡ before
    old = sym (get_or_read slots number before within there no_listing)

    each : Lists o slab made (length slots) (set slots number after) list
    each j below = by_test (number == j) _
        (λ here. let same : number ≡ j = eqb-true number j here in
        let slot : listing_at (set slots number after) j ≡ after = ap (listing_at (set slots number after)) (sym same) ∙ get_or-set_same slots number after no_listing within in
        subst (λ v. IsListed slab made v (places_in o (length slots) j list)) (sym slot) (relists.listed made (places_in o (length slots) j list) (subst (λ v. IsListed slab made v (places_in o (length slots) j list)) (ap (listing_at slots) (sym same) ∙ old) (listed j below))))
        (λ other. let slot : listing_at (set slots number after) j ≡ listing_at slots j = get_or-set_other slots number j after no_listing (λ e. true≢false (sym (eq-eqb _ _ (sym e)) ∙ other)) in
        subst (λ v. IsListed slab made v (places_in o (length slots) j list)) (sym slot) (listed j below))

-- ---- twice as many slots

-- of places of rows that pass a test, those whose low part passes a narrower one
narrowed : (o : Settings) (p q : Datum → Bool) (t : ℕ → Bool) → ((k : Datum) → q k ≡ true → p k ≡ true) → ((k : Datum) → t (low_of o k) ≡ q k) → (list : List Standing) → AreLow o list → filter (λ (e : Place). t e.low) (places_where p list) ≡ places_where q list
narrowed o p q t within is [] low = refl
narrowed o p q t within is (e ∷ list) low =
    let here : t e.0.low ≡ q e.1.0 = ap t (All-head (λ (f : Standing). f.0.low ≡ low_of o f.1.0) e list low) ∙ is e.1.0 in
    let rest : filter (λ (f : Place). t f.low) (places_where p list) ≡ places_where q list = narrowed o p q t within is list (All-tail (λ (f : Standing). f.0.low ≡ low_of o f.1.0) e list low) in
    by_test (q e.1.0) _
    (λ passed. let also : p e.1.0 ≡ true = within e.1.0 passed in
    let narrow : t e.0.low ≡ true = here ∙ passed in rw (also, passed, narrow) (ap (λ ps. e.0 ∷ ps) rest))
    (λ failed. let fails : t e.0.low ≡ false = here ∙ failed in
    by_test (p e.1.0) _ (λ also. rw (also, failed, fails) rest) (λ none. rw (none, failed) rest))

-- tests one after the other, in either order
commutes : (s t : Place → Bool) (places : List Place) → filter s (filter t places) ≡ filter t (filter s places)
commutes s t [] = refl
commutes s t (p ∷ places) =
    by_test (s p) _
    (λ one. by_test (t p) _
    (λ two. rw (one, two, one) (ap (λ ps. p ∷ ps) (commutes s t places)))
    (λ no. rw (one, no) (commutes s t places)))
    (λ none. by_test (t p) _
    (λ two. rw (none, two, none) (commutes s t places))
    (λ no. rw (none, no) (commutes s t places)))

-- the slot among fewer of a slot among twice as many
halved : (h count : ℕ) → (h % (2 * count)) % count ≡ h % count
halved h count =
    mod-mod_of_dvd count {b = 2 * count} h (dvd_of_mod-eq-zero count {n = 2 * count} (mul-mod_left 2 count))

-- numbers of slots that a set can have, twice, divide 2^32
divides : (xs : List ℕ) (n : ℕ) → list_all (λ x. (2 ^ 32) % (2 * x) == 0) xs ≡ true → list_any (nat_eq n) xs ≡ true → (2 ^ 32) % (2 * n) ≡ 0
divides [] n all there = cc
divides (x ∷ xs) n all there =
    let parts = and_parts ((2 ^ 32) % (2 * x) == 0) (list_all (λ y. (2 ^ 32) % (2 * y) == 0) xs) all in
    by_test (nat_eq n x) _
    (λ holds. ap (λ m. (2 ^ 32) % (2 * m)) (eqb-true n x holds) ∙ eqb-true _ _ parts.0)
    (λ fails. divides xs n parts.1 (rw fails at there))

base_divides : (n : ℕ) → IsBase n → (2 ^ 32) % (2 * n) ≡ 0
base_divides n base = divides bases n refl base

pub lists_doubled : (o : Settings) (slab : Slab Kept) (made : ℕ) (slots : List Listing) (list : List Standing) → 0 < length slots → IsBase (length slots) → AreLow o list → AreListed o slab made slots list → AreListed o slab made (map (half_at slots) (range_with_len 0 (2 * length slots))) list
lists_doubled o slab made slots list some base low listed =
    subst (λ n. Lists o slab made n (map (half_at slots) (range_with_len 0 (2 * length slots))) list) (sym (length-map-range_with_len (half_at slots) 0 (2 * length slots))) each
  where
    within : (j : ℕ) (k : Datum) → (slot_at o (2 * length slots) k == j) ≡ true → (slot_at o (length slots) k == j % length slots) ≡ true
    within j k there =
        eq-eqb _ _ (sym (halved (key_hash k / spread o) (length slots)) ∙ ap (λ i. i % length slots) (eqb-true (slot_at o (2 * length slots) k) j there))

    by_low : (j : ℕ) (k : Datum) → (low_of o k % (2 * length slots) == j) ≡ (slot_at o (2 * length slots) k == j)
    by_low j k =
        ap (λ n. n == j) (mod-mod_of_dvd (2 * length slots) {b = 2 ^ 32} (key_hash k / spread o) (dvd_of_mod-eq-zero (2 * length slots) {n = 2 ^ 32} (base_divides (length slots) base)))

    each : Lists o slab made (2 * length slots) (map (half_at slots) (range_with_len 0 (2 * length slots))) list
    each j below =
        let was = listed (j % length slots) (mod-lt j some) in
        let old : Listing = listing_at slots (j % length slots) in
        let slot : listing_at (map (half_at slots) (range_with_len 0 (2 * length slots))) j ≡ half_at slots j = get_or-map-range_with_len (half_at slots) 0 (2 * length slots) j j no_listing below (omega arith) in
        subst (λ v. IsListed slab made v (places_in o (2 * length slots) j list)) (sym slot) (record {
          there = commutes (is_standing slab) (λ (p : Place). p.low % (2 * length slots) == j) old.0
              ∙ ap (filter (λ (p : Place). p.low % (2 * length slots) == j)) was.there
              ∙ narrowed o (λ k. slot_at o (length slots) k == j % length slots) (λ k. slot_at o (2 * length slots) k == j) (λ n. n % (2 * length slots) == j) (within j) (by_low j) list low;
          gone = omega arith;
          passed = λ k d low high. absurd (omega (arith, high));
          below = All-filter (λ (p : Place). p.low % (2 * length slots) == j) (λ (p : Place). p.made < made) old.0 was.below;
          front = omega arith;
        })

-- ---- a row is taken out

-- rows of other keys
abbrev pub is_other : Datum → Standing → Bool
is_other key e = not (is_same key e.1.0)

abbrev pub others : Datum → List Standing → List Standing
others key list = filter (is_other key) list

-- places of rows of other keys
own_places : (q : Datum → Bool) (at : ℕ) (key : Datum) (list : List Standing) → All (IsOwn at key) list → filter (λ (p : Place). not (p.at == at)) (places_where q list) ≡ places_where q (others key list)
own_places q at key [] owns = refl
own_places q at key (e ∷ list) owns =
    let own : (e.0.at == at) ≡ is_same key e.1.0 = All-head (IsOwn at key) e list owns in
    let rest : filter (λ (p : Place). not (p.at == at)) (places_where q list) ≡ places_where q (others key list) = own_places q at key list (All-tail (IsOwn at key) e list owns) in
    by_test (is_same key e.1.0) _
    (λ same. let here : (e.0.at == at) ≡ true = own ∙ same in
    by_test (q e.1.0) _ (λ passed. rw (passed, same, here) rest) (λ failed. rw (failed, same) rest))
    (λ other. let there : (e.0.at == at) ≡ false = own ∙ other in
    by_test (q e.1.0) _ (λ passed. rw (passed, other, there, passed) (ap (λ ps. e.0 ∷ ps) rest)) (λ failed. rw (failed, other, failed) rest))

-- the key's row has a place in its slot
some_place : (q : Datum → Bool) (at : ℕ) (key : Datum) (list : List Standing) → q key ≡ true → All (IsOwn at key) list → has_row (values_of list) key ≡ true → 0 < length (filter (λ (p : Place). p.at == at) (places_where q list))
some_place q at key [] passes owns has = absurd (true≢false (sym has))
some_place q at key (e ∷ list) passes owns has =
    let own : (e.0.at == at) ≡ is_same key e.1.0 = All-head (IsOwn at key) e list owns in
    by_test (is_same key e.1.0) _
    (λ same. let here : (e.0.at == at) ≡ true = own ∙ same in
    let passed : q e.1.0 ≡ true = ap q (sym (same_is key e.1.0 same)) ∙ passes in
    rw (passed, here) (omega arith))
    (λ other. let there : (e.0.at == at) ≡ false = own ∙ other in
    let rest : 0 < length (filter (λ (p : Place). p.at == at) (places_where q list)) = some_place q at key list passes (All-tail (IsOwn at key) e list owns) (rw other at has) in
    by_test (q e.1.0) _ (λ passed. rw (passed, there) rest) (λ failed. rw failed rest))

-- the slots list what is left, with one more gone in the slot of the key
pub listed_gone : (o : Settings) (slab new : Slab Kept) (made : ℕ) (slots : List Listing) (list : List Standing) (at : ℕ) (key : Datum) → Updates slab new at None → All (IsOwn at key) list → has_row (values_of list) key ≡ true → AreListed o slab made slots list → AreListedWithGone o new made slots (slot_at o (length slots) key) (others key list)
listed_gone o slab new made slots list at key updates owns has listed = λ j below.
    by_test (slot_at o (length slots) key == j) _
    (λ here. rw here (subst (λ ps. IsListed new made (with_gone (listing_at slots j)) ps) (own_places (λ k. slot_at o (length slots) k == j) at key list owns)
    (listed_lost slab new at made (listing_at slots j) (places_in o (length slots) j list) updates (some_place (λ k. slot_at o (length slots) k == j) at key list here owns has) (listed j below))))
    (λ other. rw other (subst (λ ps. IsListed new made (listing_at slots j) ps) (own_places (λ k. slot_at o (length slots) k == j) at key list owns)
    (listed_less slab new at made (listing_at slots j) (places_in o (length slots) j list) updates (listed j below))))

-- a slot that lists with one more gone what it is to list
pub listed_lose : (o : Settings) (slab : Slab Kept) (made : ℕ) (slots : List Listing) (list : List Standing) (number : ℕ) (before after : Listing) → number < length slots → before ≡ get_or slots number before → Relists slab (with_gone before) after → AreListedWithGone o slab made slots number list → AreListed o slab made (set slots number after) list
listed_lose o slab made slots list number before after within there relists listed =
    subst (λ n. Lists o slab made n (set slots number after) list) (sym (length-set slots number after)) each
  where
    old : listing_at slots number ≡ before
    old = sym (get_or_read slots number before within there no_listing)

    each : Lists o slab made (length slots) (set slots number after) list
    each j below = by_test (number == j) _
        (λ here. let same : number ≡ j = eqb-true number j here in
        let slot : listing_at (set slots number after) j ≡ after = ap (listing_at (set slots number after)) (sym same) ∙ get_or-set_same slots number after no_listing within in
        let was : IsListed slab made (with_gone (listing_at slots j)) (places_in o (length slots) j list) = rw here at (listed j below) in
        subst (λ v. IsListed slab made v (places_in o (length slots) j list)) (sym slot) (relists.listed made (places_in o (length slots) j list) (subst (λ v. IsListed slab made (with_gone v) (places_in o (length slots) j list)) (ap (listing_at slots) (sym same) ∙ old) was)))
        (λ other. let slot : listing_at (set slots number after) j ≡ listing_at slots j = get_or-set_other slots number j after no_listing (λ e. true≢false (sym (eq-eqb _ _ (sym e)) ∙ other)) in
        let was : IsListed slab made (listing_at slots j) (places_in o (length slots) j list) = rw other at (listed j below) in
        subst (λ v. IsListed slab made v (places_in o (length slots) j list)) (sym slot) was)
