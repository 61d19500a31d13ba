-- Rows that are taken out.
use Rattle.std.proofs.Common.{◌≡◌, ◌≢◌, ℕ, ◌<◌, ◌+◌, List, [], ◌∷◌, refl, ap, sym, subst, ◌∙◌, length, arith, eq-eqb}
use Rattle.std.specs.Prelude.{true, false, not, ◌==◌, Option, Some, None, All, filter, is_some}
use Rattle.std.specs.List.{IsDistinct}
use Rattle.std.specs.Map.{keys_of, values_of}
use Rattle.std.specs.Option.{option_map_or}
use Rattle.std.proofs.lemmas.Bool.{true≢false, eqb-true}
use Rattle.std.proofs.lemmas.List.Elements.{All-head, All-tail, All-cons, All-filter}
use Rattle.std.proofs.lemmas.Map.Entries.{lookup-filter-keys}
use Rattle.std.proofs.lemmas.Map.Keys.{IsDistinct-tail}
use Rattle.std.proofs.lemmas.Map.Made.{IsDistinct-keys_filter}
use Rattle.slab.specs.Slab.{Slab, Updates, get, slab_len}
use Rattle.term_core.specs.Datum.{Datum}
use Rattle.term_operand.specs.Order.{is_same}
use Rattle.hash_index.specs.Index.{HasIn, Takes, cells}
use Rattle.part_core.specs.declared.settings.Settings.{Settings}
use Rattle.part_core.specs.Rows.{Row, has_row, is_live}
use Rattle.part_core.proofs.KeyLemmas.{by_test, alike}
use Rattle.part_core.proofs.KeyedLemmas.{no_other}
use Rattle.part_hash.specs.declared.store.Store.{Store}
use Rattle.part_hash.specs.Mixed.{mixed}
use Rattle.part_hash.specs.Places.{Kept, Standing, low_of, slot_at}
use Rattle.part_hash.specs.Slots.{AreListed, AreListedWithGone}
use Rattle.part_hash.specs.Standing.{AreAt, IsRising, Stands, is_noted}
use Rattle.part_hash.proofs.StandLemmas.{IsOwn, None≢Some, all_none, all_own}
use Rattle.part_hash.proofs.ListedLemmas.{is_other, listed_gone, others}

other_rows : (key : Datum) (list : List Standing) → filter (λ (r : Row). not (is_same key r.0)) (values_of list) ≡ values_of (others key list)
other_rows key [] = refl
other_rows key (e ∷ list) =
    by_test (is_same key e.1.0) _ (λ same. rw same (other_rows key list)) (λ other. rw other (ap (λ rs. e.1 ∷ rs) (other_rows key list)))

at_less : (slab new : Slab Kept) (at : ℕ) (key : Datum) → Updates slab new at None → (list : List Standing) → All (IsOwn at key) list → AreAt slab list → AreAt new (others key list)
at_less slab new at key updates [] owns stands = all_none (λ (e : Standing). get new e.0.at ≡ Some (e.1, e.0.made))
at_less slab new at key updates (e ∷ list) owns stands =
    let rest : AreAt new (others key list) = at_less slab new at key updates list (All-tail (IsOwn at key) e list owns) (All-tail (λ (f : Standing). get slab f.0.at ≡ Some (f.1, f.0.made)) e list stands) in
    by_test (is_same key e.1.0) _
    (λ same. rw same rest)
    (λ other. rw other (All-cons (λ (f : Standing). get new f.0.at ≡ Some (f.1, f.0.made)) e (others key list) (updates.others e.0.at (λ same. true≢false (sym (eq-eqb _ _ same) ∙ All-head (IsOwn at key) e list owns ∙ other)) ∙ All-head (λ (f : Standing). get slab f.0.at ≡ Some (f.1, f.0.made)) e list stands) rest))

rising_less : (key : Datum) (list : List Standing) → IsRising list → IsRising (others key list)
rising_less key [] rising = rising
rising_less key (e ∷ list) rising =
    by_test (is_same key e.1.0) _
    (λ same. rw same (rising_less key list rising.1))
    (λ other. rw other (All-filter (is_other key) (λ (f : Standing). e.0.made < f.0.made) list rising.0, rising_less key list rising.1))

-- rows of a key that none has
none_less : (key : Datum) (rows : List Row) → has_row rows key ≡ false → filter (λ (r : Row). not (is_same key r.0)) rows ≡ rows
none_less key [] none = refl
none_less key (r ∷ rows) none =
    by_test (is_same key r.0) _ (λ same. absurd (true≢false (rw same at none))) (λ other. rw other (ap (λ rs. r ∷ rs) (none_less key rows (rw other at none))))

-- one row goes
one_less : (key : Datum) (rows : List Row) → IsDistinct is_same (keys_of rows) → has_row rows key ≡ true → length (filter (λ (r : Row). not (is_same key r.0)) rows) + 1 ≡ length rows
one_less key [] apart there = absurd (true≢false (sym there))
one_less key (r ∷ rows) apart there =
    by_test (is_same key r.0) _
    (λ same. let left : length (filter (λ (s : Row). not (is_same key s.0)) rows) ≡ length rows = ap length (none_less key rows (no_other key r rows apart same)) in
    rw same (omega (arith, left)))
    (λ other. let rest : length (filter (λ (s : Row). not (is_same key s.0)) rows) + 1 ≡ length rows = one_less key rows (IsDistinct-tail is_same r.0 (keys_of rows) apart) (rw other at there) in
    rw other (omega (arith, rest)))

has_other : (key k : Datum) (rows : List Row) → is_same key k ≡ false → has_row (filter (λ (r : Row). not (is_same key r.0)) rows) k ≡ has_row rows k
has_other key k rows other =
    ap is_some (lookup-filter-keys (is_same k) (λ j. not (is_same key j)) true (λ j same. alike (λ l. not (is_same key l)) k j same ∙ ap not other) rows)

-- the slots list what is left once the row counts as gone
pub gone_listed : {A : Type 0} (o : Settings) (s : Store A) (new : Slab Kept) (rows : List Row) (at : ℕ) (row : Kept) (stands : Stands o s rows) → get s.rows at ≡ Some row → Updates s.rows new at None → AreListedWithGone o new s.made s.slots.items (slot_at o (length s.slots.items) row.0.0) (others row.0.0 stands.list)
gone_listed {A} o s new rows at row stands there updates =
    listed_gone o s.rows new s.made s.slots.items stands.list at row.0.0 updates
    (all_own s.rows s.index s.seed rows stands.list at row stands.placed.stands stands.found there)
    (ap (λ (rs : List Row). has_row rs row.0.0) (sym stands.are) ∙ stands.found.those at row there) stands.listed

-- the rows that are left stand where they stood
pub stands_less : {A : Type 0} (o : Settings) (s t : Store A) (rows : List Row) (at : ℕ) (row : Kept) (stands : Stands o s rows) → get s.rows at ≡ Some row → Updates s.rows t.rows at None → slab_len t.rows + 1 ≡ slab_len s.rows → Takes (cells s.index) (cells t.index) at → t.seed ≡ s.seed → t.made ≡ s.made → t.dying.items ≡ s.dying.items → t.lost ≡ s.lost → AreListed o t.rows s.made t.slots.items (others row.0.0 stands.list) → Stands o t (filter (λ (r : Row). not (is_same row.0.0 r.0)) rows)
stands_less {A} o s t rows at row stands there updates count takes seed made dying lost listed = record {
  list = others row.0.0 stands.list;
  are = ap (filter (λ (r : Row). not (is_same row.0.0 r.0))) stands.are ∙ other_rows row.0.0 stands.list;
  placed = record {
    stands = at_less s.rows t.rows at row.0.0 updates stands.list (all_own s.rows s.index s.seed rows stands.list at row stands.placed.stands stands.found there) stands.placed.stands;
    rising = rising_less row.0.0 stands.list stands.placed.rising;
    below = subst (λ n. All (λ (e : Standing). e.0.made < n) (others row.0.0 stands.list)) (sym made) (All-filter (is_other row.0.0) (λ (e : Standing). e.0.made < s.made) stands.list stands.placed.below);
    low = All-filter (is_other row.0.0) (λ (e : Standing). e.0.low ≡ low_of o e.1.0) stands.list stands.placed.low;
  };
  listed = subst (λ n. AreListed o t.rows n t.slots.items (others row.0.0 stands.list)) (sym made) listed;
  found = record {
    those = λ i r here. has_other row.0.0 r.0.0 rows (apart i r here) ∙ stands.found.those i r (back i r here);
    once = λ i j r q here there_q. stands.found.once i j r q (back i r here) (back j q there_q);
    known = λ i r here. subst (λ n. HasIn (cells t.index) n i) (ap (λ n. mixed n r.0.0) (sym seed)) (takes.kept (mixed s.seed r.0.0) i (other i r here) (stands.found.known i r (back i r here)));
  };
  apart = IsDistinct-keys_filter is_same (λ (r : Row). not (is_same row.0.0 r.0)) rows stands.apart;
  count = omega (arith, count, stands.count, one_less row.0.0 rows stands.apart (stands.found.those at row there));
  noted = λ i gone. ap (λ b. is_noted b t.dying.items i) lost ∙ ap (λ ns. is_noted s.lost ns i) dying ∙ by_test (i == at) _
      (λ same. absurd (true≢false (sym gone ∙ ap (λ (f : Option Kept). option_map_or (λ (u : Kept). not (is_live u.0)) f false) (ap (get t.rows) (eqb-true i at same) ∙ updates.changed))))
      (λ apart_from. stands.noted i (ap (λ (f : Option Kept). option_map_or (λ (u : Kept). not (is_live u.0)) f false) (sym (updates.others i (λ e. true≢false (sym (eq-eqb _ _ e) ∙ apart_from)))) ∙ gone));
}
  where
    other : (i : ℕ) (r : Kept) → get t.rows i ≡ Some r → i ≢ at
    other i r here same = None≢Some (sym updates.changed ∙ ap (get t.rows) (sym same) ∙ here)

    back : (i : ℕ) (r : Kept) → get t.rows i ≡ Some r → get s.rows i ≡ Some r
    back i r here = sym (updates.others i (other i r here)) ∙ here

    apart : (i : ℕ) (r : Kept) → get t.rows i ≡ Some r → is_same row.0.0 r.0.0 ≡ false
    apart i r here = by_test (is_same row.0.0 r.0.0) _
        (λ same. absurd (other i r here (sym (stands.found.once at i row r there (back i r here) same))))
        (λ fails. fails)
