-- Rows that are written, and dead ones that are noted.
use Rattle.std.proofs.Common.{◌≡◌, ◌≢◌, ℕ, ◌<◌, ◌≤◌, ◌+◌, zero, suc, List, [], ◌∷◌, ◌++◌, refl, ap, sym, subst, ◌∙◌, length, get_or, get_or-set_same, get_or-set_other, arith, eq-eqb}
use Rattle.std.specs.Prelude.{Bool, true, false, not, ◌==◌, ◌||◌, cond, if◌then◌else◌, Option, Some, None, All, filter, is_some, map, nat_lt, slice_index_or}
use Rattle.std.specs.List.{IsDistinct}
use Rattle.std.specs.Map.{lookup, values_of}
use Rattle.std.specs.Option.{option_map, option_map_or}
use Rattle.std.proofs.lemmas.Bool.{true≢false, eqb-true, ltb-true, ltb-false, not-true}
use Rattle.std.proofs.lemmas.List.{length-map}
use Rattle.std.proofs.lemmas.List.Elements.{All-head, All-tail, All-cons, All-map}
use Rattle.std.proofs.lemmas.List.Sums.{sum_by-set}
use Rattle.slab.specs.Slab.{Slab, Updates, get, slab_len, with_value}
use Rattle.term_core.specs.Datum.{Datum}
use Rattle.term_operand.specs.Order.{is_same}
use Rattle.hash_index.specs.declared.cell.Cell.{Cell}
use Rattle.hash_index.specs.Index.{Has}
use Rattle.part_core.specs.declared.settings.Settings.{Settings}
use Rattle.part_core.specs.Rows.{Row, has_row, is_empty, is_live, rows_at_key}
use Rattle.part_core.proofs.KeyLemmas.{by_test, same_is}
use Rattle.part_core.proofs.RowLemmas.{lookup_by, keys_by}
use Rattle.part_rows.specs.declared.place.Place.{Place}
use Rattle.part_hash.specs.declared.store.Store.{Store}
use Rattle.part_hash.specs.Mixed.{mixed}
use Rattle.part_hash.specs.Places.{Kept, Standing, is_standing, low_of, places_in, places_where, if_made, standing}
use Rattle.part_hash.specs.Slots.{AreListed, Listing, is_gone, listing_at}
use Rattle.part_hash.specs.Standing.{AreAt, IsRising, Stands, is_noted}
use Rattle.part_hash.proofs.StandLemmas.{IsOwn, None≢Some, all_none, all_own, some_is}

-- ---- a slab with another value at a key

none_past : {X : Type 0} (xs : List (Option X)) (i : ℕ) → length xs ≤ i → slice_index_or xs i None ≡ None
none_past [] i over = refl
none_past (x ∷ xs) zero over = absurd (omega (arith, over))
none_past (x ∷ xs) (suc i) over = none_past xs i (omega (arith, over))

-- a key beyond the slots has no row
pub there_below : (slab : Slab Kept) (at : ℕ) (s : Kept) → get slab at ≡ Some s → at < length slab.slots
there_below slab at s there =
    by_test (nat_lt at (length slab.slots)) _ (λ inside. ltb-true _ _ inside) (λ outside. absurd (None≢Some (sym (none_past slab.slots at (ltb-false at (length slab.slots) outside)) ∙ there)))

pub past_slots : (slab : Slab Kept) (at : ℕ) → length slab.slots ≤ at → get slab at ≡ None
past_slots slab at over = none_past slab.slots at over

pub updates_with : (slab new : Slab Kept) (at : ℕ) (s t : Kept) → get slab at ≡ Some s → new ≡ with_value slab at t → Updates slab new at (Some t)
updates_with slab new at s t there is = subst (λ (n : Slab Kept). Updates slab n at (Some t)) (sym is) (record {
  changed = get_or-set_same slab.slots at (Some t) None (there_below slab at s there);
  others = λ i other. get_or-set_other slab.slots at i (Some t) None other;
})

pub count_with : (slab new : Slab Kept) (at : ℕ) (s t : Kept) → get slab at ≡ Some s → new ≡ with_value slab at t → slab_len new ≡ slab_len slab
count_with slab new at s t there is =
    let one : ◌≡◌ {A = ℕ} (cond (is_some (get slab at)) 1 0) 1 = ap (λ (x : Option Kept). cond (is_some x) 1 0) there in
    let sum = sum_by-set (λ (x : Option Kept). cond (is_some x) 1 0) slab.slots at (Some t) None (there_below slab at s there) in
    ap slab_len is ∙ omega (arith, one, sum)

-- ---- the same at other objects of a key

abbrev written : Datum → List Datum → Standing → Standing
written key os e = (e.0, (e.1.0, if is_same key e.1.0 then os else e.1.1))

written_rows : (key : Datum) (os : List Datum) (list : List Standing) → rows_at_key key (λ _. os) (values_of list) ≡ values_of (map (written key os) list)
written_rows key os [] = refl
written_rows key os (e ∷ list) = ap (λ rs. (written key os e).1 ∷ rs) (written_rows key os list)

written_places : (q : Datum → Bool) (key : Datum) (os : List Datum) (list : List Standing) → places_where q (map (written key os) list) ≡ places_where q list
written_places q key os [] = refl
written_places q key os (e ∷ list) =
    by_test (q e.1.0) _ (λ passed. rw passed (ap (λ ps. e.0 ∷ ps) (written_places q key os list))) (λ failed. rw failed (written_places q key os list))

written_rising : (key : Datum) (os : List Datum) (list : List Standing) → IsRising list → IsRising (map (written key os) list)
written_rising key os [] rising = rising
written_rising key os (e ∷ list) rising =
    (All-map (λ (f : Standing). e.0.made < f.0.made) (written key os) list rising.0, written_rising key os list rising.1)

written_at : (slab new : Slab Kept) (at made : ℕ) (key : Datum) (os : List Datum) (s : Kept) → get slab at ≡ Some s → s.1 ≡ made → Updates slab new at (Some ((key, os), made)) → (list : List Standing) → All (IsOwn at key) list → AreAt slab list → AreAt new (map (written key os) list)
written_at slab new at made key os s there is updates [] owns stands = all_none (λ (e : Standing). get new e.0.at ≡ Some (e.1, e.0.made))
written_at slab new at made key os s there is updates (e ∷ list) owns stands =
    All-cons (λ (f : Standing). get new f.0.at ≡ Some (f.1, f.0.made)) (written key os e) (map (written key os) list) here
    (written_at slab new at made key os s there is updates list (All-tail (IsOwn at key) e list owns) (All-tail (λ (f : Standing). get slab f.0.at ≡ Some (f.1, f.0.made)) e list stands))
  where
    stood : get slab e.0.at ≡ Some (e.1, e.0.made)
    stood = All-head (λ (f : Standing). get slab f.0.at ≡ Some (f.1, f.0.made)) e list stands

    here : get new e.0.at ≡ Some ((written key os e).1, e.0.made)
    here = by_test (is_same key e.1.0) _
        (λ it. let same : e.0.at ≡ at = eqb-true e.0.at at (All-head (IsOwn at key) e list owns ∙ it) in
        let number : made ≡ e.0.made = sym is ∙ ap (λ (t : Kept). t.1) (some_is (sym there ∙ ap (get slab) (sym same) ∙ stood)) in
        rw it (ap (get new) same ∙ updates.changed ∙ ap (λ (k : Datum). Some ((k, os), made)) (same_is key e.1.0 it) ∙ ap (λ n. Some ((e.1.0, os), n)) number))
        (λ other. rw other (updates.others e.0.at (λ same. true≢false (sym (eq-eqb _ _ same) ∙ All-head (IsOwn at key) e list owns ∙ other)) ∙ stood))

has_written : (key : Datum) (os : List Datum) (k : Datum) (rows : List Row) → has_row (rows_at_key key (λ _. os) rows) k ≡ has_row rows k
has_written key os k rows =
    ap is_some (lookup_by (λ j before. if is_same key j then os else before) k rows) ∙ of (lookup (is_same k) rows)
  where
    of : (found : Option (List Datum)) → is_some (option_map (λ before. if is_same key k then os else before) found) ≡ is_some found
    of None = refl
    of (Some before) = refl

-- each key of the slab has a row made as before, of the same key
same_kept : (slab new : Slab Kept) (at : ℕ) (s t : Kept) → get slab at ≡ Some s → t.0.0 ≡ s.0.0 → t.1 ≡ s.1 → Updates slab new at (Some t) → (i : ℕ) (r : Kept) → get new i ≡ Some r → (u : Kept) × (get slab i ≡ Some u) × (r.0.0 ≡ u.0.0) × (r.1 ≡ u.1)
same_kept slab new at s t there key made updates i r here =
    by_test (i == at) _
    (λ same. let is : i ≡ at = eqb-true i at same in
    let it : t ≡ r = some_is (sym updates.changed ∙ ap (get new) (sym is) ∙ here) in
    (s, ap (get slab) is ∙ there, ap (λ (v : Kept). v.0.0) (sym it) ∙ key, ap (λ (v : Kept). v.1) (sym it) ∙ made))
    (λ other. (r, sym (updates.others i (λ e. true≢false (sym (eq-eqb _ _ e) ∙ other))) ∙ here, refl, refl))

-- where a row stands, one stands that was written
same_there : (slab new : Slab Kept) (at : ℕ) (s t : Kept) → get slab at ≡ Some s → t.1 ≡ s.1 → Updates slab new at (Some t) → (p : Place) → is_standing new p ≡ is_standing slab p
same_there slab new at s t there made updates p =
    by_test (p.at == at) _
    (λ same. let is : p.at ≡ at = eqb-true p.at at same in
    ap (λ (f : Option Kept). is_some (if_made p.made f)) (ap (get new) is ∙ updates.changed)
    ∙ by_test (s.1 == p.made) _
    (λ own. let also : (t.1 == p.made) ≡ true = ap (λ n. n == p.made) made ∙ own in rw also (sym (stood is ∙ rw own refl)))
    (λ other. let also : (t.1 == p.made) ≡ false = ap (λ n. n == p.made) made ∙ other in rw also (sym (stood is ∙ rw other refl))))
    (λ other. ap (λ (f : Option Kept). is_some (if_made p.made f)) (updates.others p.at (λ e. true≢false (sym (eq-eqb _ _ e) ∙ other))))
  where
    stood : p.at ≡ at → is_standing slab p ≡ is_some (if_made p.made (Some s))
    stood is = ap (λ (f : Option Kept). is_some (if_made p.made f)) (ap (get slab) is ∙ there)

same_standing : (slab new : Slab Kept) → ((p : Place) → is_standing new p ≡ is_standing slab p) → (places : List Place) → (standing new places ≡ standing slab places) × (length (filter (is_gone new) places) ≡ length (filter (is_gone slab) places))
same_standing slab new same [] = (refl, refl)
same_standing slab new same (p ∷ places) =
    let rest = same_standing slab new same places in
    by_test (is_standing slab p) _
    (λ stands. let also : is_standing new p ≡ true = same p ∙ stands in rw (stands, also) (ap (λ ps. p ∷ ps) rest.0, rest.1))
    (λ gone. let also : is_standing new p ≡ false = same p ∙ gone in rw (gone, also) (rest.0, ap suc rest.1))

-- slots list what they listed where the same places stand
pub listed_same : (o : Settings) (slab new : Slab Kept) (made : ℕ) (slots : List Listing) (list more : List Standing) → ((p : Place) → is_standing new p ≡ is_standing slab p) → ((j : ℕ) → places_in o (length slots) j more ≡ places_in o (length slots) j list) → AreListed o slab made slots list → AreListed o new made slots more
listed_same o slab new made slots list more same places listed = λ j below.
    let was = listed j below in
    let v : Listing = listing_at slots j in
    let both = same_standing slab new same v.0 in record {
      there = both.0 ∙ was.there ∙ sym (places j);
      gone = omega (arith, was.gone, both.1);
      passed = λ k d low high. same (get_or v.0 k d) ∙ was.passed k d low high;
      below = was.below;
      front = was.front;
    }

-- a row whose objects are others stands where it stood
pub stands_written : {A : Type 0} (o : Settings) (s t : Store A) (rows : List Row) (at made : ℕ) (key : Datum) (before os : List Datum) → Stands o s rows → get s.rows at ≡ Some ((key, before), made) → t.rows ≡ with_value s.rows at ((key, os), made) → t.index ≡ s.index → t.seed ≡ s.seed → t.slots.items ≡ s.slots.items → t.made ≡ s.made → t.dying.items ≡ s.dying.items → t.lost ≡ s.lost → (is_live (key, os) ≡ false → is_noted s.lost s.dying.items at ≡ true) → Stands o t (rows_at_key key (λ _. os) rows)
stands_written {A} o s t rows at made key before os stands there is index seed slots later dying lost dead = record {
  list = map (written key os) stands.list;
  are = ap (rows_at_key key (λ _. os)) stands.are ∙ written_rows key os stands.list;
  placed = record {
    stands = written_at s.rows t.rows at made key os ((key, before), made) there refl updates stands.list owns stands.placed.stands;
    rising = written_rising key os stands.list stands.placed.rising;
    below = subst (λ n. All (λ (e : Standing). e.0.made < n) (map (written key os) stands.list)) (sym later) (All-map (λ (e : Standing). e.0.made < s.made) (written key os) stands.list stands.placed.below);
    low = All-map (λ (e : Standing). e.0.low ≡ low_of o e.1.0) (written key os) stands.list stands.placed.low;
  };
  listed = subst (λ (vs : List Listing). AreListed o t.rows t.made vs (map (written key os) stands.list)) (sym slots)
      (subst (λ n. AreListed o t.rows n s.slots.items (map (written key os) stands.list)) (sym later)
      (listed_same o s.rows t.rows s.made s.slots.items stands.list (map (written key os) stands.list) (same_there s.rows t.rows at ((key, before), made) ((key, os), made) there refl updates) (λ j. written_places _ key os stands.list) stands.listed));
  found = record {
    those = λ i r here. let u = kept i r here in has_written key os r.0.0 rows ∙ ap (has_row rows) u.2 ∙ stands.found.those i u.0 u.1;
    once = λ i j r q here there_q same. let u = kept i r here in let v = kept j q there_q in stands.found.once i j u.0 v.0 u.1 v.1 (ap (λ k. is_same k v.0.0.0) (sym u.2) ∙ ap (is_same r.0.0) (sym v.2) ∙ same);
    known = λ i r here. let u = kept i r here in subst (λ m. Has t.index m i) (ap (mixed s.seed) (sym u.2) ∙ ap (λ n. mixed n r.0.0) (sym seed)) (subst (λ (x : List Cell × ℕ). Has x (mixed s.seed u.0.0.0) i) (sym index) (stands.found.known i u.0 u.1));
  };
  apart = subst (λ ks. IsDistinct is_same ks) (sym (keys_by (λ j was. if is_same key j then os else was) rows)) stands.apart;
  count = count_with s.rows t.rows at ((key, before), made) ((key, os), made) there is ∙ stands.count ∙ sym (length-map rows (λ (r : Row). (r.0, if is_same key r.0 then os else r.1)));
  noted = λ i gone. ap (λ b. is_noted b t.dying.items i) lost ∙ ap (λ ns. is_noted s.lost ns i) dying ∙ by_test (i == at) _
      (λ same. let own : i ≡ at = eqb-true i at same in
      let it : is_live (key, os) ≡ false = not-true (is_live (key, os)) (sym (ap (λ (f : Option Kept). option_map_or (λ (r : Kept). not (is_live r.0)) f false) (ap (get t.rows) own ∙ updates.changed)) ∙ gone) in
      ap (is_noted s.lost s.dying.items) own ∙ dead it)
      (λ other. stands.noted i (ap (λ (f : Option Kept). option_map_or (λ (r : Kept). not (is_live r.0)) f false) (sym (updates.others i (λ e. true≢false (sym (eq-eqb _ _ e) ∙ other)))) ∙ gone));
}
  where
    updates : Updates s.rows t.rows at (Some ((key, os), made))
    updates = updates_with s.rows t.rows at ((key, before), made) ((key, os), made) there is

    owns : All (IsOwn at key) stands.list
    owns = all_own s.rows s.index s.seed rows stands.list at ((key, before), made) stands.placed.stands stands.found there

    kept : (i : ℕ) (r : Kept) → get t.rows i ≡ Some r → (u : Kept) × (get s.rows i ≡ Some u) × (r.0.0 ≡ u.0.0) × (r.1 ≡ u.1)
    kept = same_kept s.rows t.rows at ((key, before), made) ((key, os), made) there refl refl updates

-- the same, where what becomes of the rows is known by an equation
pub written_as : {A : Type 0} (o : Settings) (s t : Store A) (rows after : List Row) (at made : ℕ) (key : Datum) (before os : List Datum) → rows_at_key key (λ _. os) rows ≡ after → Stands o s rows → get s.rows at ≡ Some ((key, before), made) → t.rows ≡ with_value s.rows at ((key, os), made) → t.index ≡ s.index → t.seed ≡ s.seed → t.slots.items ≡ s.slots.items → t.made ≡ s.made → t.dying.items ≡ s.dying.items → t.lost ≡ s.lost → (is_live (key, os) ≡ false → is_noted s.lost s.dying.items at ≡ true) → Stands o t after
written_as {A} o s t rows after at made key before os same stands there is index seed slots later dying lost dead =
    subst (λ rs. Stands o t rs) same (stands_written o s t rows at made key before os stands there is index seed slots later dying lost dead)

-- ---- notes

-- a row that has objects needs no note
pub live_noted : (k : Datum) (os : List Datum) (lost : Bool) (ns : List ℕ) (at : ℕ) → is_empty os ≡ false → is_live (k, os) ≡ false → is_noted lost ns at ≡ true
live_noted k [] lost ns at some dead = absurd (true≢false some)
live_noted k (t ∷ os) lost ns at some dead = absurd (true≢false dead)
