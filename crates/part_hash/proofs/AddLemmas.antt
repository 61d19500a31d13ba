-- Rows that are added.
use Rattle.std.proofs.Common.{◌≡◌, ◌≢◌, ℕ, ◌<◌, ◌+◌, ◌-◌, zero, suc, List, [], ◌∷◌, ◌++◌, refl, ap, sym, subst, ◌∙◌, length-append, arith, ◌⊎◌, inl, inr, eq-eqb}
use Rattle.std.specs.Prelude.{true, false, if◌then◌else◌, ◌==◌, ◌*◌, nat_lt, not, ◌&&◌, Option, Some, None, All, IsTrue, is_some, unwrap_or}
use Rattle.std.specs.Option.{option_map_or}
use Rattle.std.proofs.lemmas.Bool.{true≢false, eqb-true, ltb-true, lt-ltb}
use Rattle.std.proofs.lemmas.List.{map-append}
use Rattle.std.proofs.lemmas.List.Elements.{All-head, All-nil, All-tail, All-push, All-weaker}
use Rattle.slab.specs.Slab.{Slab, Updates, get, slab_len}
use Rattle.term_core.specs.Datum.{Datum}
use Rattle.term_core.specs.Datum.Datum.{nil}
use Rattle.term_operand.specs.Order.{is_same}
use Rattle.term_core.specs.Parts.{field_of}
use Rattle.hash_index.specs.declared.cell.Cell.{Cell}
use Rattle.hash_index.specs.Index.{AreMixed, Has, HasIn, Puts, cells}
use Rattle.part_core.specs.declared.kind.TableKind.TheVariants.{Set}
use Rattle.part_core.specs.declared.settings.Settings.{Settings}
use Rattle.part_core.specs.Rows.{Row, has_row, is_live}
use Rattle.part_core.specs.After.{most_slots, slots_after}
use Rattle.part_core.specs.Settings.{is_object}
use Rattle.part_core.specs.States.{IsBase}
use Rattle.part_core.proofs.KeyLemmas.{by_test, same_is, same_keys}
use Rattle.part_core.proofs.RowLemmas.{keys_new_distinct}
use Rattle.part_core.proofs.StepLemmas.{slots_grow}
use Rattle.part_rows.specs.declared.place.Place.{Place}
use Rattle.part_hash.specs.declared.store.Store.{Store}
use Rattle.part_hash.specs.Mixed.{mixed}
use Rattle.part_hash.specs.Places.{Kept, Standing, if_made, low_of}
use Rattle.part_hash.specs.Slots.{AreListed, IsAdded, Listing}
use Rattle.part_hash.specs.Standing.{ArePlaced, IsRising, Stands, is_noted}
use Rattle.part_hash.specs.Swept.{is_dead_at}
use Rattle.part_hash.proofs.StandLemmas.{None≢Some, some_is}

-- a row after the others was created last
rising_more : (list : List Standing) (e : Standing) → IsRising list → All (λ f. f.0.made < e.0.made) list → IsRising (list ++ e ∷ [])
rising_more [] e rising below = (All-nil (λ (f : Standing). e.0.made < f.0.made), tt)
rising_more (f ∷ list) e rising below =
    (All-push (λ (g : Standing). f.0.made < g.0.made) list e rising.0 (All-head (λ (g : Standing). g.0.made < e.0.made) f list below), rising_more list e rising.1 (All-tail (λ (g : Standing). g.0.made < e.0.made) f list below))

-- rows to which one was appended still have each key that they had
has_before : (k : Datum) (rows : List Row) (r : Row) → has_row rows k ≡ true → has_row (rows ++ r ∷ []) k ≡ true
has_before k [] r there = absurd (true≢false (sym there))
has_before k (s ∷ rows) r there =
    by_test (is_same k s.0) _ (λ here. rw here refl) (λ other. rw other (has_before k rows r (rw other at there)))

has_last : (k : Datum) (rows : List Row) (r : Row) → is_same k r.0 ≡ true → has_row (rows ++ r ∷ []) k ≡ true
has_last k [] r same = rw same refl
has_last k (s ∷ rows) r same = by_test (is_same k s.0) _ (λ here. rw here refl) (λ other. rw other (has_last k rows r same))

-- a vacant key of the slab is no row's
not_there : (slab : Slab Kept) (at i : ℕ) (s : Kept) → get slab at ≡ None → get slab i ≡ Some s → i ≢ at
not_there slab at i s vacant there same = None≢Some (sym vacant ∙ ap (get slab) (sym same) ∙ there)

-- what is in the slab after the insertion was in it before, or is the row
from : (slab new : Slab Kept) (at i : ℕ) (row : Kept) (s : Kept) → Updates slab new at (Some row) → get new i ≡ Some s → ((i ≡ at) × (row ≡ s)) ⊎ (get slab i ≡ Some s)
from slab new at i row s updates here =
    by_test (i == at) _
    (λ same. let is : i ≡ at = eqb-true i at same in inl (is, some_is (sym updates.changed ∙ ap (get new) (sym is) ∙ here)))
    (λ other. inr (sym (updates.others i (λ e. true≢false (sym (eq-eqb _ _ e) ∙ other))) ∙ here))

-- the row is at its place, and rows that were created before are at theirs
pub is_added : (slab new : Slab Kept) (p : Place) (row : Row) → get slab p.at ≡ None → Updates slab new p.at (Some (row, p.made)) → IsAdded slab new p row
is_added slab new p row vacant updates = record {
  here = let own : (p.made == p.made) ≡ true = eq-eqb p.made p.made refl in
      ap (if_made p.made) updates.changed ∙ rw own refl;
  others = λ q before. by_test (q.at == p.at) _
      (λ same. let is : q.at ≡ p.at = eqb-true q.at p.at same in
      let later : (p.made == q.made) ≡ false = by_test (p.made == q.made) _ (λ e. absurd (omega (arith, before, eqb-true p.made q.made e))) (λ f. f) in
      ap (if_made q.made) (ap (get new) is ∙ updates.changed) ∙ rw later (sym (ap (if_made q.made) (ap (get slab) is ∙ vacant))))
      (λ other. ap (if_made q.made) (updates.others q.at (λ e. true≢false (sym (eq-eqb _ _ e) ∙ other))));
}

-- a row that was added stands
pub stands_more : {A : Type 0} (o : Settings) (s t : Store A) (rows : List Row) (row : Row) (p : Place) (stands : Stands o s rows) → has_row rows row.0 ≡ false → is_live row ≡ true → get s.rows p.at ≡ None → p.made ≡ s.made → p.low ≡ low_of o row.0 → Updates s.rows t.rows p.at (Some (row, p.made)) → slab_len t.rows ≡ slab_len s.rows + 1 → Puts (cells s.index) (cells t.index) (mixed s.seed row.0) p.at → t.seed ≡ s.seed → t.made ≡ s.made + 1 → t.dying.items ≡ s.dying.items → t.lost ≡ s.lost → AreListed o t.rows (p.made + 1) t.slots.items (stands.list ++ (p, row) ∷ []) → Stands o t (rows ++ row ∷ [])
stands_more {A} o s t rows row p stands none live vacant made low updates count puts seed later dying lost listed = record {
  list = stands.list ++ (p, row) ∷ [];
  are = ap (λ (rs : List Row). rs ++ row ∷ []) stands.are ∙ sym (map-append (λ (e : Standing). e.1) stands.list ((p, row) ∷ []));
  placed = record {
    stands = All-push (λ (e : Standing). get t.rows e.0.at ≡ Some (e.1, e.0.made)) stands.list (p, row)
        (All-weaker (λ (e : Standing). get s.rows e.0.at ≡ Some (e.1, e.0.made)) (λ (e : Standing). get t.rows e.0.at ≡ Some (e.1, e.0.made)) (λ e there. updates.others e.0.at (not_there s.rows p.at e.0.at (e.1, e.0.made) vacant there) ∙ there) stands.list stands.placed.stands)
        updates.changed;
    rising = rising_more stands.list (p, row) stands.placed.rising (subst (λ n. All (λ (e : Standing). e.0.made < n) stands.list) (sym made) stands.placed.below);
    below = All-push (λ (e : Standing). e.0.made < t.made) stands.list (p, row) (All-weaker (λ (e : Standing). e.0.made < s.made) (λ (e : Standing). e.0.made < t.made) (λ e b. omega (arith, b, later)) stands.list stands.placed.below) (omega (arith, made, later));
    low = All-push (λ (e : Standing). e.0.low ≡ low_of o e.1.0) stands.list (p, row) stands.placed.low low;
  };
  listed = subst (λ n. AreListed o t.rows n t.slots.items (stands.list ++ (p, row) ∷ [])) (ap (λ n. n + 1) made ∙ sym later) listed;
  found = record {
    those = λ i r here. those_of i r (from s.rows t.rows p.at i (row, p.made) r updates here);
    once = λ i j r q here there same. once_of i j r q (from s.rows t.rows p.at i (row, p.made) r updates here) (from s.rows t.rows p.at j (row, p.made) q updates there) same;
    known = λ i r here. known_of i r (from s.rows t.rows p.at i (row, p.made) r updates here);
  };
  apart = keys_new_distinct row.0 row.1 rows stands.apart none;
  count = count ∙ ap (λ n. n + 1) stands.count ∙ sym (length-append rows (row ∷ []));
  noted = λ i gone. noted_of i gone;
}
  where
    those_of : (i : ℕ) (r : Kept) → ((i ≡ p.at) × ((row, p.made) ≡ r)) ⊎ (get s.rows i ≡ Some r) → has_row (rows ++ row ∷ []) r.0.0 ≡ true
    those_of i r (inl own) = has_last r.0.0 rows row (ap (λ (u : Kept). is_same u.0.0 row.0) (sym own.1) ∙ same_keys.refl row.0)
    those_of i r (inr old) = has_before r.0.0 rows row (stands.found.those i r old)

    -- a row that was there has another key
    apart_from : (i : ℕ) (r : Kept) → get s.rows i ≡ Some r → is_same r.0.0 row.0 ≡ true → ⊥
    apart_from i r old same = true≢false (sym (stands.found.those i r old) ∙ ap (has_row rows) (same_is r.0.0 row.0 same) ∙ none)

    once_of : (i j : ℕ) (r q : Kept) → ((i ≡ p.at) × ((row, p.made) ≡ r)) ⊎ (get s.rows i ≡ Some r) → ((j ≡ p.at) × ((row, p.made) ≡ q)) ⊎ (get s.rows j ≡ Some q) → is_same r.0.0 q.0.0 ≡ true → i ≡ j
    once_of i j r q (inl one) (inl other) same = one.0 ∙ sym other.0
    once_of i j r q (inl one) (inr old) same =
        absurd (apart_from j q old (same_keys.symm q.0.0 row.0 ∙ ap (λ (u : Kept). is_same u.0.0 q.0.0) one.1 ∙ same))
    once_of i j r q (inr old) (inl other) same =
        absurd (apart_from i r old (ap (λ (u : Kept). is_same r.0.0 u.0.0) other.1 ∙ same))
    once_of i j r q (inr one) (inr other) same = stands.found.once i j r q one other same

    known_of : (i : ℕ) (r : Kept) → ((i ≡ p.at) × ((row, p.made) ≡ r)) ⊎ (get s.rows i ≡ Some r) → Has t.index (mixed t.seed r.0.0) i
    known_of i r (inl own) =
        subst (λ n. HasIn (cells t.index) n i) (ap (λ (u : Kept). mixed s.seed u.0.0) own.1 ∙ ap (λ n. mixed n r.0.0) (sym seed)) (subst (λ n. HasIn (cells t.index) (mixed s.seed row.0) n) (sym own.0) puts.here)
    known_of i r (inr old) =
        subst (λ n. HasIn (cells t.index) n i) (ap (λ n. mixed n r.0.0) (sym seed)) (puts.kept (mixed s.seed r.0.0) i (stands.found.known i r old))

    noted_of : (i : ℕ) → is_dead_at t.rows i ≡ true → is_noted t.lost t.dying.items i ≡ true
    noted_of i gone = by_test (i == p.at) _
        (λ same. absurd (true≢false (sym gone ∙ ap (λ (f : Option Kept). option_map_or (λ (u : Kept). not (is_live u.0)) f false) (ap (get t.rows) (eqb-true i p.at same) ∙ updates.changed) ∙ ap not live)))
        (λ other. ap (λ b. is_noted b t.dying.items i) lost ∙ ap (λ ns. is_noted s.lost ns i) dying ∙ stands.noted i (ap (λ (f : Option Kept). option_map_or (λ (u : Kept). not (is_live u.0)) f false) (sym (updates.others i (λ e. true≢false (sym (eq-eqb _ _ e) ∙ other)))) ∙ gone))

-- all hashes are mixed again with another seed
pub stands_mixed : {A : Type 0} (o : Settings) (s t : Store A) (rows : List Row) (seed : ℕ) → AreMixed (λ m at n. (u : Kept) → get s.rows at ≡ Some u → n ≡ mixed seed u.0.0) (cells s.index) (cells t.index) → t.rows ≡ s.rows → t.seed ≡ seed → t.slots.items ≡ s.slots.items → t.made ≡ s.made → t.dying.items ≡ s.dying.items → t.lost ≡ s.lost → Stands o s rows → Stands o t rows
stands_mixed {A} o s t rows seed mixes same by slots made dying lost stands = record {
  list = stands.list;
  are = stands.are;
  placed = subst (λ n. ArePlaced o t.rows n stands.list) (sym made) (subst (λ (slab : Slab Kept). ArePlaced o slab s.made stands.list) (sym same) stands.placed);
  listed = subst (λ n. AreListed o t.rows n t.slots.items stands.list) (sym made) (subst (λ (slab : Slab Kept). AreListed o slab s.made t.slots.items stands.list) (sym same) (subst (λ (vs : List Listing). AreListed o s.rows s.made vs stands.list) (sym slots) stands.listed));
  found = record {
    those = λ i r here. stands.found.those i r (back i r here);
    once = λ i j r q here there. stands.found.once i j r q (back i r here) (back j q there);
    known = λ i r here. let kept = mixes.kept (mixed s.seed r.0.0) i (stands.found.known i r (back i r here)) in
        subst (λ n. HasIn (cells t.index) n i) (kept.1 r (back i r here) ∙ ap (λ n. mixed n r.0.0) (sym by)) kept.2;
  };
  apart = stands.apart;
  count = ap slab_len same ∙ stands.count;
  noted = λ i gone. ap (λ b. is_noted b t.dying.items i) lost ∙ ap (λ ns. is_noted s.lost ns i) dying ∙ stands.noted i (ap (λ (slab : Slab Kept). is_dead_at slab i) (sym same) ∙ gone);
}
  where
    back : (i : ℕ) (r : Kept) → get t.rows i ≡ Some r → get s.rows i ≡ Some r
    back i r here = ap (λ (slab : Slab Kept). get slab i) (sym same) ∙ here

-- ---- how many slots there are

-- the slots stay, or are twice as many
same_or_twice : (before now slots : ℕ) → (slots_after Set before now slots ≡ slots) ⊎ (slots_after Set before now slots ≡ 2 * slots)
same_or_twice before now slots =
    by_test (not (nat_lt before now && (nat_lt (4 * slots) now && nat_lt slots most_slots))) _ (λ stay. inl (rw stay refl)) (λ grow. inr (rw grow refl))

twice : (count slots more : ℕ) → more ≡ slots_after Set (count - 1) count slots → slots < more → slots_after Set (count - 1) count slots ≡ 2 * slots
twice count slots more is up = of (same_or_twice (count - 1) count slots)
  where
    of : (slots_after Set (count - 1) count slots ≡ slots) ⊎ (slots_after Set (count - 1) count slots ≡ 2 * slots) → slots_after Set (count - 1) count slots ≡ 2 * slots
    of (inl same) = absurd (omega (arith, is, same, up))
    of (inr double) = double

stays : (count slots more : ℕ) → IsBase slots → more ≡ slots_after Set (count - 1) count slots → (slots < more → ⊥) → slots_after Set (count - 1) count slots ≡ slots
stays count slots more base is stay =
    omega (arith, is, (slots_grow Set (count - 1) count slots base).1, stay)

-- numbers of slots that a set can have
pub base_some : (n : ℕ) → IsBase n → 0 < n
base_some zero base = absurd (true≢false (sym base))
base_some (suc n) base = omega arith

pub doubled_where : (count slots more : ℕ) → IsBase slots → more ≡ slots_after Set (count - 1) count slots → slots_after Set (count - 1) count slots ≡ (if nat_lt slots more then 2 * slots else slots)
doubled_where count slots more base is =
    by_test (nat_lt slots more) _
    (λ up. rw up (twice count slots more is (ltb-true _ _ up)))
    (λ stay. rw stay (stays count slots more base is (λ up. true≢false (sym (lt-ltb _ _ up) ∙ stay))))

-- rows to which one was added
pub grown_by_one : (n m slots before : ℕ) → n ≡ m → slots ≡ before → slots_after Set (n + 1 - 1) (n + 1) slots ≡ slots_after Set m (m + 1) before
grown_by_one n m slots before same is =
    let less : n + 1 - 1 ≡ m = omega (arith, same) in
    ap (λ i. slots_after Set i (n + 1) slots) less ∙ ap (λ i. slots_after Set m (i + 1) slots) same ∙ ap (slots_after Set m (m + 1)) is

-- ---- what every store keeps

no_field : (n : ℕ) → field_of n nil ≡ None
no_field zero = refl
no_field (suc n) = refl

-- an object of a table is one
pub some_object : (o : Settings) (object : Option Datum) → IsTrue (is_object o (unwrap_or object nil)) → IsTrue (is_some object)
some_object o None is = absurd (true≢false (sym is ∙ ap is_some (no_field o.keypos)))
some_object o (Some t) is = refl

-- the index has no row that isn't in the slab, where one was put in
pub only_more : (slab new : Slab Kept) (index next : List Cell × ℕ) (number at : ℕ) (s : Kept) → ((m a : ℕ) → Has index m a → is_some (get slab a) ≡ true) → get slab at ≡ None → Updates slab new at (Some s) → Puts (cells index) (cells next) number at → (m a : ℕ) → Has next m a → is_some (get new a) ≡ true
only_more slab new index next number at s only vacant updates puts m a has = of (puts.only m a has)
  where
    of : HasIn (cells index) m a ⊎ ((m ≡ number) × (a ≡ at)) → is_some (get new a) ≡ true
    of (inl old) =
        ap is_some (updates.others a (λ same. true≢false (sym (only m a old) ∙ ap is_some (ap (get slab) same ∙ vacant)))) ∙ only m a old
    of (inr own) = ap is_some (ap (get new) own.1 ∙ updates.changed)
