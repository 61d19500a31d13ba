-- How many rows are dead, depending on what is written.
use Rattle.std.proofs.Common.{◌≡◌, ℕ, ◌+◌, ◌-◌, ◌≤◌, ◌<◌, List, [], ◌∷◌, ◌++◌, refl, ap, sym, subst, ◌∙◌, length, arith}
use Rattle.std.specs.Prelude.{Bool, true, false, not, ◌||◌, ◌^◌, if◌then◌else◌, min, Option, Some, None, unwrap_or, option_map, is_some, filter}
use Rattle.std.specs.BTreeMap.{insert_entry}
use Rattle.std.specs.List.{IsDistinct}
use Rattle.std.specs.List.Sorted.{IsStrictlySortedBy}
use Rattle.std.specs.Map.{keys_of, values_of, lookup}
use Rattle.std.proofs.lemmas.Bool.{true≢false, not-true}
use Rattle.std.proofs.lemmas.List.{length-map}
use Rattle.std.proofs.lemmas.List.Sums.{count_by-le-length, sum_by-cons}
use Rattle.std.proofs.lemmas.Map.Entries.{sum_by-insert_entry}
use Rattle.std.proofs.lemmas.Map.Keys.{IsDistinct-tail}
use Rattle.term_core.specs.Datum.{Datum}
use Rattle.term_core.specs.Order.{datum_cmp}
use Rattle.term_core.specs.OrderLaws.{datum_cmp_total}
use Rattle.term_operand.specs.Order.{is_same}
use Rattle.part_core.specs.declared.kind.TableKind.{TableKind}
use Rattle.part_core.specs.declared.settings.Settings.{Settings}
use Rattle.part_core.specs.Settings.{is_ordered, key_of}
use Rattle.part_core.specs.Rows.{Row, has_row, is_empty, is_live, objects_at, objects_with, rows_at_key, with_new_row, with_object}
use Rattle.part_core.specs.States.{AreRows}
use Rattle.part_core.proofs.AfterLemmas.{with_live}
use Rattle.part_core.proofs.KeyLemmas.{by_test}
use Rattle.part_core.proofs.KeyedLemmas.{no_other}
use Rattle.part_core.proofs.RowLemmas.{unwritten}
use Rattle.part_rows.specs.declared.put.Put.{Put}
use Rattle.part_rows.specs.Dead.{dead_rows, one_dead, Keeps}
use Rattle.part_rows.specs.Puts.{put_at, is_put, revived}
use Rattle.part_rows.specs.Shown.{Shown, AreSound, rows_exchanged, shown_exchanged, shown_live, shown_with}

dead_cons : (r : Row) (rows : List Row) → dead_rows (r ∷ rows) ≡ one_dead r.1 + dead_rows rows
dead_cons r rows = sum_by-cons one_dead r.1 (values_of rows)

one_more : (n : ℕ) → 0 ≡ 1 + n → ⊥
one_more n e = omega (arith, e)

no_more : (n : ℕ) → 0 ≡ 0 + n → n ≡ 0
no_more n e = omega (arith, e)

still_none : (n : ℕ) → n ≡ 0 → 0 + n ≡ 0
still_none n e = omega (arith, e)

-- if no row is dead, filtering for live rows keeps all
none_dead : (rows : List Row) → dead_rows rows ≡ 0 → filter is_live rows ≡ rows
none_dead [] none = refl
none_dead (r ∷ rows) none =
    by_test (is_empty r.1) _
    (λ dead. absurd (one_more (dead_rows rows) (sym none ∙ dead_cons r rows ∙ ap (λ b. (if b then 1 else 0) + dead_rows rows) dead)))
    (λ live. rw live (ap (λ rs. r ∷ rs) (none_dead rows (no_more (dead_rows rows) (sym none ∙ dead_cons r rows ∙ ap (λ b. (if b then 1 else 0) + dead_rows rows) live)))))

-- after filtering for live rows, none is dead
live_left : (rows : List Row) → dead_rows (filter is_live rows) ≡ 0
live_left [] = refl
live_left (r ∷ rows) =
    by_test (is_empty r.1) _
    (λ dead. rw dead (live_left rows))
    (λ live. ap dead_rows (kept live) ∙ dead_cons r (filter is_live rows) ∙ ap (λ b. (if b then 1 else 0) + dead_rows (filter is_live rows)) live ∙ still_none (dead_rows (filter is_live rows)) (live_left rows))
  where
    kept : is_empty r.1 ≡ false → filter is_live (r ∷ rows) ≡ r ∷ filter is_live rows
    kept live = rw live refl

-- rows without dead ones show the list of live rows
pub keeps_none : {R : Type 0} (shows : Settings → R → Shown → Type 0) (o : Settings) (rows : R) (dead : ℕ) (w : Shown) → dead ≡ 0 → Keeps shows o rows dead w → Keeps shows o rows dead (shown_live w)
keeps_none shows o rows dead w none keeps = record {
  there = subst (λ (rs : List Row). shows o rows (record { rows = rs; slots = w.slots })) (sym (none_dead w.rows (sym keeps.count ∙ none))) keeps.there;
  count = none ∙ sym (live_left w.rows);
}

-- rows that show only live rows keep a count of 0 dead rows
pub keeps_live : {R : Type 0} (shows : Settings → R → Shown → Type 0) (o : Settings) (rows : R) (w : Shown) → shows o rows (shown_live w) → Keeps shows o rows 0 (shown_live w)
keeps_live shows o rows w there = record { there = there; count = sym (live_left w.rows) }

-- there are at most as many dead rows as rows
dead_few : (rows : List Row) → dead_rows rows ≤ length rows
dead_few rows =
    omega (arith, count_by-le-length is_empty (values_of rows), length-map rows (λ (r : Row). r.1))

-- ---- rows of other keys

-- a row stays, unless it is a dead one of the key
abbrev pub stays : Datum → Row → Bool
stays k r = not (is_same k r.0) || is_live r

-- rows of other keys stay
pub others_stay : (k : Datum) (rows : List Row) → has_row rows k ≡ false → filter (stays k) rows ≡ rows
others_stay k [] none = refl
others_stay k (r ∷ rows) none =
    by_test (is_same k r.0) _ (λ here. absurd (true≢false (rw here at none))) (λ other. rw other (ap (λ rs. r ∷ rs) (others_stay k rows (rw other at none))))

-- ---- the row of a key, whose objects are replaced

one_other : (a b n x y : ℕ) → x ≡ a + n → y ≡ b + n → x + b ≡ y + a
one_other a b n x y first second = omega (arith, first, second)

none_other : (b n x y : ℕ) → x ≡ n → y ≡ b + n → x + b ≡ y + 0
none_other b n x y first second = omega (arith, first, second)

further : (c a b n m x y : ℕ) → x ≡ c + a → y ≡ c + b → a + n ≡ b + m → x + n ≡ y + m
further c a b n m x y first second rest = omega (arith, first, second, rest)

at_key : (k : Datum) (f : List Datum → List Datum) (rows : List Row) → IsDistinct is_same (keys_of rows) → has_row rows k ≡ true → dead_rows (rows_at_key k f rows) + one_dead (objects_at rows k) ≡ dead_rows rows + one_dead (f (objects_at rows k))
at_key k f [] apart there = absurd (true≢false (sym there))
at_key k f (r ∷ rows) apart there =
    by_test (is_same k r.0) _
    (λ here. rw here (one_other (one_dead (f r.1)) (one_dead r.1) (dead_rows rows) _ _ (dead_cons (r.0, f r.1) (rows_at_key k f rows) ∙ ap (λ (rs : List Row). one_dead (f r.1) + dead_rows rs) (unwritten k f rows (no_other k r rows apart here))) (dead_cons r rows)))
    (λ other. rw other (further (one_dead r.1) (dead_rows (rows_at_key k f rows)) (dead_rows rows) (one_dead (objects_at rows k)) (one_dead (f (objects_at rows k))) _ _ (dead_cons r (rows_at_key k f rows)) (dead_cons r rows) (at_key k f rows (IsDistinct-tail is_same r.0 (keys_of rows) apart) (rw other at there))))

-- the count after a row is removed: neither a dead row nor a live one counts any more
gone : (k : Datum) (os : List Datum) (rows : List Row) → IsDistinct is_same (keys_of rows) → has_row rows k ≡ true → dead_rows (rows_exchanged k os false rows) + one_dead (objects_at rows k) ≡ dead_rows rows + 0
gone k os [] apart there = absurd (true≢false (sym there))
gone k os (r ∷ rows) apart there =
    by_test (is_same k r.0) _
    (λ here. let rest : filter (stays k) (rows_at_key k (λ _. os) rows) ≡ rows = ap (filter (stays k)) (unwritten k (λ _. os) rows (no_other k r rows apart here)) ∙ others_stay k rows (no_other k r rows apart here) in
    rw here (left os rest))
    (λ other. rw other (further (one_dead r.1) (dead_rows (rows_exchanged k os false rows)) (dead_rows rows) (one_dead (objects_at rows k)) 0 _ _ (dead_cons r (rows_exchanged k os false rows)) (dead_cons r rows) (gone k os rows (IsDistinct-tail is_same r.0 (keys_of rows) apart) (rw other at there))))
  where
    left : (us : List Datum) → filter (stays k) (rows_at_key k (λ _. os) rows) ≡ rows → dead_rows (if is_live (r.0, us) then (r.0, us) ∷ filter (stays k) (rows_at_key k (λ _. os) rows) else filter (stays k) (rows_at_key k (λ _. os) rows)) + one_dead r.1 ≡ dead_rows (r ∷ rows) + 0
    left [] rest =
        none_other (one_dead r.1) (dead_rows rows) _ _ (ap dead_rows rest) (dead_cons r rows)
    left (t ∷ us) rest =
        one_other 0 (one_dead r.1) (dead_rows rows) _ _ (dead_cons (r.0, t ∷ us) (filter (stays k) (rows_at_key k (λ _. os) rows)) ∙ ap (λ (rs : List Row). 0 + dead_rows rs) rest) (dead_cons r rows)

exchanged_count : (k : Datum) (os : List Datum) (keeps : Bool) (rows : List Row) → IsDistinct is_same (keys_of rows) → has_row rows k ≡ true → dead_rows (rows_exchanged k os keeps rows) + one_dead (objects_at rows k) ≡ dead_rows rows + (if keeps then one_dead os else 0)
exchanged_count k os true rows apart there = at_key k (λ _. os) rows apart there
exchanged_count k os false rows apart there = gone k os rows apart there

one_at_most : (os : List Datum) → one_dead os ≤ 1
one_at_most [] = omega arith
one_at_most (t ∷ os) = omega arith

one_comes : (os : List Datum) (keeps : Bool) → (if keeps then one_dead os else 0) ≤ 1
one_comes os true = one_at_most os
one_comes os false = omega arith

-- nothing is exchanged if the key has no row
pub exchanged_none : (k : Datum) (os : List Datum) (keeps : Bool) (rows : List Row) → has_row rows k ≡ false → rows ≡ rows_exchanged k os keeps rows
exchanged_none k os true rows none = sym (unwritten k (λ _. os) rows none)
exchanged_none k os false rows none =
    sym (ap (filter (stays k)) (unwritten k (λ _. os) rows none) ∙ others_stay k rows none)

pub keeps_nowhere : {R : Type 0} (shows : Settings → R → Shown → Type 0) (o : Settings) (now : R) (dead : ℕ) (w : Shown) (k : Datum) (os : List Datum) (keeps : Bool) → dead ≡ dead_rows w.rows → has_row w.rows k ≡ false → shows o now (shown_exchanged k os keeps w) → Keeps shows o now dead (shown_exchanged k os keeps w)
keeps_nowhere shows o now dead w k os keeps count none there = record {
  there = there;
  count = count ∙ ap dead_rows (exchanged_none k os keeps w.rows none);
}

-- the count of dead rows can't overflow
counted_anew : (dead coming going next now : ℕ) → now + going ≡ dead + coming → dead < 2 ^ 64 - 1 → coming ≤ 1 → next ≡ min (dead + coming) (2 ^ 64 - 1) - going → next ≡ now
counted_anew dead coming going next now sum few one is =
    omega (arith, sum, few, one, is)

-- the count after the objects of a key are exchanged
pub keeps_exchanged : {R : Type 0} (shows : Settings → R → Shown → Type 0) (o : Settings) (now : R) (dead coming going next : ℕ) (w : Shown) (k : Datum) (os held : List Datum) (keeps : Bool) → AreSound o w → dead ≡ dead_rows w.rows → length w.rows < 2 ^ 64 - 1 → has_row w.rows k ≡ true → held ≡ objects_at w.rows k → coming ≡ (if keeps then one_dead os else 0) → going ≡ one_dead held → next ≡ min (dead + coming) (2 ^ 64 - 1) - going → shows o now (shown_exchanged k os keeps w) → Keeps shows o now next (shown_exchanged k os keeps w)
keeps_exchanged shows o now dead coming going next w k os held keeps sound count few has was comes goes is there = record {
  there = there;
  count = counted_anew dead coming going next (dead_rows (rows_exchanged k os keeps w.rows)) sum (omega (arith, count, dead_few w.rows, few)) (omega (arith, comes, one_comes os keeps)) is;
}
  where
    sum : dead_rows (rows_exchanged k os keeps w.rows) + going ≡ dead + coming
    sum =
        ap (λ n. dead_rows (rows_exchanged k os keeps w.rows) + n) (goes ∙ ap one_dead was)
        ∙ exchanged_count k os keeps w.rows sound.rows.distinct has
        ∙ ap (λ n. n + (if keeps then one_dead os else 0)) (sym count)
        ∙ ap (λ n. dead + n) (sym comes)

-- ---- an object that is inserted

-- an object is inserted if it replaces what is there, or if nothing is there
pub put_or_not : (replaces : Bool) (found : Option (List Datum)) → is_put (put_at replaces found) ≡ (replaces || is_empty (unwrap_or found []))
put_or_not true None = refl
put_or_not true (Some []) = refl
put_or_not true (Some (t ∷ os)) = refl
put_or_not false None = refl
put_or_not false (Some []) = refl
put_or_not false (Some (t ∷ os)) = refl

-- a row into which an object is inserted is live
put_lives : (kind : TableKind) (os : List Datum) (t : Datum) → one_dead (objects_with kind os t) ≡ 0
put_lives kind os t =
    ap (λ b. if b then 1 else 0) (not-true (is_empty (objects_with kind os t)) (with_live kind t os t))

plus_none : (n m : ℕ) → m ≡ 0 → n + m ≡ n
plus_none n m none = omega (arith, none)

-- appending a row with objects doesn't change the number of dead rows
live_after : (k : Datum) (os : List Datum) (rows : List Row) → one_dead os ≡ 0 → dead_rows (rows ++ (k, os) ∷ []) ≡ dead_rows rows
live_after k os [] live = dead_cons (k, os) [] ∙ ap (λ n. n + dead_rows []) live
live_after k os (r ∷ rows) live =
    dead_cons r (rows ++ (k, os) ∷ []) ∙ ap (λ n. one_dead r.1 + n) (live_after k os rows live) ∙ sym (dead_cons r rows)

-- inserting a row with objects at its place in key order doesn't change the number of dead rows
live_among : (k : Datum) (os : List Datum) (rows : List Row) → IsStrictlySortedBy datum_cmp (keys_of rows) → None ≡ lookup (is_same k) rows → one_dead os ≡ 0 → dead_rows (insert_entry datum_cmp rows k os) ≡ dead_rows rows
live_among k os rows rising none live =
    sym (plus_none (dead_rows (insert_entry datum_cmp rows k os)) 0 refl)
    ∙ ap (λ (found : Option (List Datum)). dead_rows (insert_entry datum_cmp rows k os) + unwrap_or (option_map one_dead found) 0) none
    ∙ sum_by-insert_entry one_dead datum_cmp_total rows k os rising
    ∙ plus_none (dead_rows rows) (one_dead os) live

new_row : (o : Settings) (k : Datum) (os : List Datum) (rows : List Row) → AreRows o rows → None ≡ lookup (is_same k) rows → one_dead os ≡ 0 → dead_rows (with_new_row o.kind (k, os) rows) ≡ dead_rows rows
new_row o k os rows are none live =
    by_test (is_ordered o.kind) _
    (λ ordered. rw ordered (live_among k os rows (are.rising ordered) none live))
    (λ plain. rw plain (live_after k os rows live))

with_new : (o : Settings) (t : Datum) (rows : List Row) → None ≡ lookup (is_same (key_of o t)) rows → with_object o t rows ≡ with_new_row o.kind (key_of o t, objects_with o.kind [] t) rows
with_new o t rows none =
    let no : has_row rows (key_of o t) ≡ false = ap is_some (sym none) in rw no refl

with_old : (o : Settings) (t : Datum) (rows : List Row) (os : List Datum) → Some os ≡ lookup (is_same (key_of o t)) rows → with_object o t rows ≡ rows_at_key (key_of o t) (λ us. objects_with o.kind us t) rows
with_old o t rows os found =
    let there : has_row rows (key_of o t) ≡ true = ap is_some (sym found) in rw there refl

-- an insertion into a row that exists makes it live
old_row : (o : Settings) (t : Datum) (rows : List Row) (os : List Datum) → AreRows o rows → Some os ≡ lookup (is_same (key_of o t)) rows → dead_rows (with_object o t rows) + one_dead os ≡ dead_rows rows
old_row o t rows os are found =
    let k : Datum = key_of o t in
    let there : has_row rows k ≡ true = ap is_some (sym found) in
    let held : os ≡ objects_at rows k = ap (λ (f : Option (List Datum)). unwrap_or f []) found in
    ap (λ us. dead_rows (with_object o t rows) + one_dead us) held
    ∙ ap (λ (rs : List Row). dead_rows rs + one_dead (objects_at rows k)) (with_old o t rows os found)
    ∙ at_key k (λ us. objects_with o.kind us t) rows are.distinct there
    ∙ plus_none (dead_rows rows) (one_dead (objects_with o.kind (objects_at rows k) t)) (put_lives o.kind (objects_at rows k) t)

put_count : (o : Settings) (t : Datum) (rows : List Row) (replaces : Bool) (found : Option (List Datum)) → AreRows o rows → found ≡ lookup (is_same (key_of o t)) rows → dead_rows (if is_put (put_at replaces found) then with_object o t rows else rows) + revived (put_at replaces found) ≡ dead_rows rows
put_count o t rows replaces None are is =
    plus_none (dead_rows (with_object o t rows)) 0 refl
    ∙ ap dead_rows (with_new o t rows is)
    ∙ new_row o (key_of o t) (objects_with o.kind [] t) rows are is (put_lives o.kind [] t)
put_count o t rows replaces (Some []) are is = old_row o t rows [] are is
put_count o t rows true (Some (u ∷ os)) are is = old_row o t rows (u ∷ os) are is
put_count o t rows false (Some (u ∷ os)) are is = plus_none (dead_rows rows) 0 refl

less : (n m d next : ℕ) → n + m ≡ d → next ≡ d - m → next ≡ n
less n m d next sum is = omega (arith, sum, is)

rows_either : (o : Settings) (t : Datum) (w : Shown) (b : Bool) → dead_rows (if b then with_object o t w.rows else w.rows) ≡ dead_rows (if b then shown_with o t w else w).rows
rows_either o t w true = refl
rows_either o t w false = refl

pub keeps_put : {R : Type 0} (shows : Settings → R → Shown → Type 0) (o : Settings) (now : R) (t : Datum) (replaces done : Bool) (dead less_ones next : ℕ) (w : Shown) (put : Put) → AreSound o w → dead ≡ dead_rows w.rows → put ≡ put_at replaces (lookup (is_same (key_of o t)) w.rows) → done ≡ is_put put → less_ones ≡ revived put → next ≡ dead - less_ones → shows o now (if is_put put then shown_with o t w else w) → (done ≡ (replaces || is_empty (objects_at w.rows (key_of o t)))) × Keeps shows o now next (if done then shown_with o t w else w)
keeps_put shows o now t replaces done dead less_ones next w put sound count is puts revives falls there = (
  puts ∙ ap is_put is ∙ put_or_not replaces (lookup (is_same (key_of o t)) w.rows),
  subst (λ b. Keeps shows o now next (if b then shown_with o t w else w)) (sym puts) (record {
    there = there;
    count = less (dead_rows (if is_put put then with_object o t w.rows else w.rows)) (revived put) dead next sum (falls ∙ ap (λ n. dead - n) revives) ∙ rows_either o t w (is_put put);
  }),
)
  where
    sum : dead_rows (if is_put put then with_object o t w.rows else w.rows) + revived put ≡ dead
    sum =
        ap (λ p. dead_rows (if is_put p then with_object o t w.rows else w.rows) + revived p) is
        ∙ put_count o t w.rows replaces (lookup (is_same (key_of o t)) w.rows) sound.rows refl
        ∙ sym count
