-- How exchanging the objects of keys changes rows.
use Rattle.std.proofs.Common.{◌≡◌, ℕ, List, [], ◌∷◌, refl, ap, sym, ◌∙◌}
use Rattle.std.specs.Prelude.{Bool, true, false, not, ◌||◌, if◌then◌else◌, Option, Some, None, option_map, unwrap_or, is_some, IsTrue, filter, All}
use Rattle.std.specs.List.{IsDistinct, list_any}
use Rattle.std.specs.Map.{keys_of, lookup}
use Rattle.std.proofs.lemmas.Bool.{true≢false}
use Rattle.std.proofs.lemmas.List.Elements.{All-head, All-tail, All-filter, filter_passes}
use Rattle.std.proofs.lemmas.Map.Entries.{lookup-filter-values, lookup-filter-keys, option_filter}
use Rattle.std.proofs.lemmas.Map.Keys.{IsDistinct-head, IsDistinct-tail}
use Rattle.std.proofs.lemmas.Map.Made.{IsDistinct-keys_filter}
use Rattle.term_core.specs.Datum.{Datum}
use Rattle.term_operand.specs.Order.{is_same}
use Rattle.mcode.specs.Program.{Program}
use Rattle.part_core.specs.declared.settings.Settings.{Settings}
use Rattle.part_core.specs.After.{kept_rows, rows_without_true}
use Rattle.part_core.specs.Rows.{Row, is_live, is_fixed, has_row, objects_at, rows_at_key}
use Rattle.part_core.specs.States.{IsRow}
use Rattle.part_core.specs.Visits.{is_true}
use Rattle.part_core.proofs.AfterLemmas.{all_kept}
use Rattle.part_core.proofs.CoverLemmas.{rows_found, rows_there}
use Rattle.part_core.proofs.KeyLemmas.{by_test, same_keys, same_is, alike}
use Rattle.part_core.proofs.RowLemmas.{rows_by, lookup_by, keys_by, among_passing, apart}
use Rattle.part_core.proofs.StateLemmas.{same_keys_rows, filtered_rows}
use Rattle.part_core.proofs.StepLemmas.{each_by, row_where, filtered_row}
use Rattle.part_rows.specs.Shown.{Shown, AreSound, rows_exchanged, shown_exchanged}
use Rattle.part_engine.specs.Deletions.{rows_left, rows_swept}

-- ---- one key

-- if all rows were live, only the key's row can be removed
exchanged_live : (k : Datum) (os : List Datum) (rows : List Row) → All (λ r. IsTrue (is_live r)) rows → filter (λ r. not (is_same k r.0) || is_live r) (rows_at_key k (λ _. os) rows) ≡ filter is_live (rows_at_key k (λ _. os) rows)
exchanged_live k os [] live = refl
exchanged_live k os (r ∷ rows) live =
    let rest = exchanged_live k os rows (All-tail (λ (v : Row). IsTrue (is_live v)) r rows live) in
    by_test (is_same k r.0) _
    (λ here. rw here (ap (λ rs. if is_live (r.0, os) then (r.0, os) ∷ rs else rs) rest))
    (λ other. let own : is_live r ≡ true = All-head (λ (v : Row). IsTrue (is_live v)) r rows live in rw (other, own) (ap (λ rs. r ∷ rs) rest))

pub exchanged : (k : Datum) (os : List Datum) (fixes : List ℕ) (rows : List Row) → (is_fixed fixes ≡ false → All (λ r. IsTrue (is_live r)) rows) → rows_exchanged k os (is_fixed fixes) rows ≡ kept_rows fixes (rows_at_key k (λ _. os) rows)
exchanged k os fixes rows live =
    by_test (is_fixed fixes) _ (λ fixed. rw fixed refl) (λ free. rw free (exchanged_live k os rows (live free)))

-- an exchange keeps rows sound
pub exchanged_sound : (o : Settings) (w : Shown) (k : Datum) (os : List Datum) (keeps : Bool) → AreSound o w → IsRow o (k, os) → AreSound o (shown_exchanged k os keeps w)
exchanged_sound o w k os keeps sound row = of keeps
  where
    written : List Row
    written = rows_at_key k (λ _. os) w.rows

    each : All (IsRow o) (rows_at_key k (λ _. os) w.rows)
    each = each_by o (λ j us. if is_same k j then os else us) w.rows (λ r own. row_where o (is_same k r.0) (λ _. os) r (λ holds. let is : k ≡ r.0 = same_is k r.0 holds in rw (← is) row) own) sound.each

    of : (b : Bool) → AreSound o (shown_exchanged k os b w)
    of true = record { rows = same_keys_rows o w.rows _ (keys_by (λ j us. if is_same k j then os else us) w.rows) sound.rows; each = each }
    of false = record {
      rows = filtered_rows o _ _ (same_keys_rows o w.rows _ (keys_by (λ j us. if is_same k j then os else us) w.rows) sound.rows);
      each = All-filter _ (IsRow o) _ each;
    }

-- ---- keys one after the other

-- the objects of a key: those of other rows if these have the key, else its own
abbrev pub over : List Row → Datum → List Datum → List Datum
over left k os = unwrap_or (lookup (is_same k) left) os

over_none : (rows : List Row) → rows_by (over []) rows ≡ rows
over_none [] = refl
over_none (r ∷ rows) = ap (λ rs. r ∷ rs) (over_none rows)

-- what one more row gives to its key, which the others don't have
over_here : (v : Row) (left : List Row) (k : Datum) (os : List Datum) → has_row left v.0 ≡ false → is_same v.0 k ≡ true → (over left k v.1 ≡ v.1) × (over (v ∷ left) k os ≡ v.1)
over_here v left k os none same =
    let back : is_same k v.0 ≡ true = same_keys.symm k v.0 ∙ same in
    let absent : has_row left k ≡ false = ap (has_row left) (sym (same_is v.0 k same)) ∙ none in
    (of (lookup (is_same k) left) absent, rw back refl)
  where
    of : (found : Option (List Datum)) → is_some found ≡ false → unwrap_or found v.1 ≡ v.1
    of None h = refl
    of (Some us) h = cc

over_other : (v : Row) (left : List Row) (k : Datum) (os : List Datum) → is_same v.0 k ≡ false → over (v ∷ left) k os ≡ over left k os
over_other v left k os other =
    let back : is_same k v.0 ≡ false = same_keys.symm k v.0 ∙ other in rw back refl

over_more : (v : Row) (left rows : List Row) → has_row left v.0 ≡ false → rows_by (over left) (rows_at_key v.0 (λ _. v.1) rows) ≡ rows_by (over (v ∷ left)) rows
over_more v left [] none = refl
over_more v left (r ∷ rows) none =
    let rest = over_more v left rows none in
    by_test (is_same v.0 r.0) _
    (λ here. let at = over_here v left r.0 r.1 none here in
    rw here (ap (λ (os : List Datum). (r.0, os) ∷ rows_by (over left) (rows_at_key v.0 (λ _. v.1) rows)) (at.0 ∙ sym at.1) ∙ ap (λ rs. (r.0, over (v ∷ left) r.0 r.1) ∷ rs) rest))
    (λ other. rw other (ap (λ (os : List Datum). (r.0, os) ∷ rows_by (over left) (rows_at_key v.0 (λ _. v.1) rows)) (sym (over_other v left r.0 r.1 other)) ∙ ap (λ rs. (r.0, over (v ∷ left) r.0 r.1) ∷ rs) rest))

swept_kept : (left rows : List Row) → IsDistinct is_same (keys_of left) → rows_swept true left rows ≡ rows_by (over left) rows
swept_kept [] rows d = sym (over_none rows)
swept_kept (v ∷ left) rows d =
    swept_kept left (rows_at_key v.0 (λ _. v.1) rows) (IsDistinct-tail is_same v.0 (keys_of left) d)
    ∙ over_more v left rows (apart v.0 left (IsDistinct-head is_same v.0 (keys_of left) d))

live_here : (k : Datum) (os us : List Datum) (left now later : List Row) → over left k os ≡ os → us ≡ os → filter is_live (rows_by (over left) now) ≡ filter is_live later → filter is_live (rows_by (over left) (if is_live (k, os) then (k, os) ∷ now else now)) ≡ filter is_live ((k, us) ∷ later)
live_here k [] us left now later own same rest =
    rest ∙ ap (λ (ws : List Datum). filter is_live ((k, ws) ∷ later)) (sym same)
live_here k (t ∷ os) us left now later own same rest =
    ap (λ (ws : List Datum). filter is_live ((k, ws) ∷ rows_by (over left) now)) own
    ∙ ap (λ rs. (k, t ∷ os) ∷ rs) rest
    ∙ ap (λ (ws : List Datum). filter is_live ((k, ws) ∷ later)) (sym same)

live_more : (v : Row) (left rows : List Row) → has_row left v.0 ≡ false → All (λ r. IsTrue (is_live r)) rows → filter is_live (rows_by (over left) (filter is_live (rows_at_key v.0 (λ _. v.1) rows))) ≡ filter is_live (rows_by (over (v ∷ left)) rows)
live_more v left [] none live = refl
live_more v left (r ∷ rows) none live =
    let rest = live_more v left rows none (All-tail (λ (w : Row). IsTrue (is_live w)) r rows live) in
    by_test (is_same v.0 r.0) _
    (λ here. let at = over_here v left r.0 r.1 none here in
    rw here (live_here r.0 v.1 (over (v ∷ left) r.0 r.1) left (filter is_live (rows_at_key v.0 (λ _. v.1) rows)) (rows_by (over (v ∷ left)) rows) at.0 at.1 rest))
    (λ other. let own : is_live r ≡ true = All-head (λ (w : Row). IsTrue (is_live w)) r rows live in
    rw (other, own) (ap (λ (os : List Datum). filter is_live ((r.0, os) ∷ rows_by (over left) (filter is_live (rows_at_key v.0 (λ _. v.1) rows)))) (sym (over_other v left r.0 r.1 other))
    ∙ ap (λ rs. if is_live (r.0, over (v ∷ left) r.0 r.1) then (r.0, over (v ∷ left) r.0 r.1) ∷ rs else rs) rest))

swept_live : (left rows : List Row) → IsDistinct is_same (keys_of left) → All (λ r. IsTrue (is_live r)) rows → rows_swept false left rows ≡ filter is_live (rows_by (over left) rows)
swept_live [] rows d live = sym (ap (filter is_live) (over_none rows) ∙ all_kept is_live rows live)
swept_live (v ∷ left) rows d live =
    ap (rows_swept false left) (exchanged_live v.0 v.1 rows live)
    ∙ swept_live left (filter is_live (rows_at_key v.0 (λ _. v.1) rows)) (IsDistinct-tail is_same v.0 (keys_of left) d) (filter_passes is_live (rows_at_key v.0 (λ _. v.1) rows))
    ∙ live_more v left rows (apart v.0 left (IsDistinct-head is_same v.0 (keys_of left) d)) live

-- ---- what is left after objects for which the query returns true are deleted

filter_none : (q : Datum → Bool) (os : List Datum) → list_any q os ≡ false → filter (λ t. not (q t)) os ≡ os
filter_none q [] none = refl
filter_none q (t ∷ os) none =
    by_test (q t) _ (λ holds. absurd (true≢false (rw holds at none))) (λ fails. rw fails (ap (λ us. t ∷ us) (filter_none q os (rw fails at none))))

-- the look-up of a key among what is left of the rows that a test of keys selects
left_at : (p : Program) (c : Datum → Bool) (k : Datum) (rows : List Row) → IsDistinct is_same (keys_of rows) → lookup (is_same k) (rows_left p (filter (λ r. c r.0) rows)) ≡ option_map (filter (λ t. not (is_true p t))) (option_filter (list_any (is_true p)) (if c k then lookup (is_same k) rows else None))
left_at p c k rows d =
    lookup_by (λ _ os. filter (λ t. not (is_true p t)) os) k (filter (λ r. list_any (is_true p) r.1) (filter (λ r. c r.0) rows))
    ∙ ap (option_map (filter (λ t. not (is_true p t)))) (lookup-filter-values same_keys (list_any (is_true p)) k (filter (λ r. c r.0) rows) (IsDistinct-keys_filter is_same (λ (r : Row). c r.0) rows d) ∙ ap (option_filter (list_any (is_true p))) (lookup-filter-keys (is_same k) c (c k) (λ j h. alike c k j h) rows))

left_over : (p : Program) (b : Bool) (os : List Datum) → unwrap_or (option_map (filter (λ t. not (is_true p t))) (option_filter (list_any (is_true p)) (if b then Some os else None))) os ≡ (if b then filter (λ t. not (is_true p t)) os else os)
left_over p false os = refl
left_over p true os =
    by_test (list_any (is_true p) os) _ (λ some. rw some refl) (λ none. rw none (sym (filter_none (is_true p) os none)))

found_at : (rows : List Row) (k : Datum) (os : List Datum) → IsTrue (has_row rows k) → objects_at rows k ≡ os → lookup (is_same k) rows ≡ Some os
found_at rows k os there is = of (lookup (is_same k) rows) there is
  where
    of : (found : Option (List Datum)) → is_some found ≡ true → unwrap_or found [] ≡ os → found ≡ Some os
    of None h e = cc
    of (Some us) h e = ap Some e

-- rows that are each found among all rows are left like those
left_rows : (p : Program) (c : Datum → Bool) (all rows : List Row) → IsDistinct is_same (keys_of all) → All (λ r. IsTrue (has_row all r.0)) rows → All (λ r. objects_at all r.0 ≡ r.1) rows → rows_by (over (rows_left p (filter (λ r. c r.0) all))) rows ≡ rows_without_true p (keys_of (filter (λ r. c r.0) all)) rows
left_rows p c all [] d there found = refl
left_rows p c all (r ∷ rows) d there found =
    let here : IsTrue (has_row all r.0) = All-head (λ (v : Row). IsTrue (has_row all v.0)) r rows there in
    let look : lookup (is_same r.0) all ≡ Some r.1 = found_at all r.0 r.1 here (All-head (λ (v : Row). objects_at all v.0 ≡ v.1) r rows found) in
    let one : over (rows_left p (filter (λ v. c v.0) all)) r.0 r.1 ≡ (if list_any (is_same r.0) (keys_of (filter (λ v. c v.0) all)) then filter (λ t. not (is_true p t)) r.1 else r.1) =
    ap (λ (found : Option (List Datum)). unwrap_or found r.1) (left_at p c r.0 all d ∙ ap (λ (f : Option (List Datum)). option_map (filter (λ t. not (is_true p t))) (option_filter (list_any (is_true p)) (if c r.0 then f else None))) look)
    ∙ left_over p (c r.0) r.1
    ∙ ap (λ b. if b then filter (λ t. not (is_true p t)) r.1 else r.1) (sym (among_passing c all r.0 here)) in
    ap (λ (os : List Datum). (r.0, os) ∷ rows_by (over (rows_left p (filter (λ v. c v.0) all))) rows) one
    ∙ ap (λ rs. (r.0, if list_any (is_same r.0) (keys_of (filter (λ v. c v.0) all)) then filter (λ t. not (is_true p t)) r.1 else r.1) ∷ rs) (left_rows p c all rows d (All-tail (λ (v : Row). IsTrue (has_row all v.0)) r rows there) (All-tail (λ (v : Row). objects_at all v.0 ≡ v.1) r rows found))

left_distinct : (p : Program) (c : Datum → Bool) (rows : List Row) → IsDistinct is_same (keys_of rows) → IsDistinct is_same (keys_of (rows_left p (filter (λ r. c r.0) rows)))
left_distinct p c rows d =
    rw (keys_by (λ _ os. filter (λ t. not (is_true p t)) os) (filter (λ r. list_any (is_true p) r.1) (filter (λ r. c r.0) rows)))
    (IsDistinct-keys_filter is_same (λ (r : Row). list_any (is_true p) r.1) (filter (λ r. c r.0) rows) (IsDistinct-keys_filter is_same (λ (r : Row). c r.0) rows d))

-- the rows that a visit that deletes leaves
pub swept : (p : Program) (c : Datum → Bool) (fixes : List ℕ) (rows : List Row) → IsDistinct is_same (keys_of rows) → (is_fixed fixes ≡ false → All (λ r. IsTrue (is_live r)) rows) → rows_swept (is_fixed fixes) (rows_left p (filter (λ r. c r.0) rows)) rows ≡ kept_rows fixes (rows_without_true p (keys_of (filter (λ r. c r.0) rows)) rows)
swept p c fixes rows d live =
    let all = left_rows p c rows rows d (rows_there rows) (rows_found rows d) in
    let apart = left_distinct p c rows d in
    by_test (is_fixed fixes) _
    (λ fixed. rw fixed (swept_kept (rows_left p (filter (λ r. c r.0) rows)) rows apart ∙ all))
    (λ free. rw free (swept_live (rows_left p (filter (λ r. c r.0) rows)) rows apart (live free) ∙ ap (filter is_live) all))

pub left_each : (o : Settings) (p : Program) (rows : List Row) → All (IsRow o) rows → All (IsRow o) (rows_left p rows)
left_each o p rows each =
    each_by o (λ _ os. filter (λ t. not (is_true p t)) os) (filter (λ r. list_any (is_true p) r.1) rows) (λ r row. filtered_row o (λ t. not (is_true p t)) r row) (All-filter (λ (r : Row). list_any (is_true p) r.1) (IsRow o) rows each)
