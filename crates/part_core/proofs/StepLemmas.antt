-- Each operation leaves a state that satisfies the invariant.
use Rattle.std.proofs.Common.{◌≡◌, ℕ, ◌≤◌, ◌<◌, ◌+◌, ◌*◌, List, [], ◌∷◌, refl, sym, subst, ◌∙◌, arith, length, lt-ltb}
use Rattle.std.specs.Prelude.{Bool, true, false, not, ◌&&◌, ◌||◌, if◌then◌else◌, nat_eq, nat_lt, IsTrue, IsFalse, filter, All}
use Rattle.std.specs.List.{IsDistinct, list_all, list_any}
use Rattle.std.specs.Map.{keys_of}
use Rattle.std.specs.List.Sorted.{IsStrictlySortedBy}
use Rattle.std.specs.BTreeMap.{insert_entry}
use Rattle.std.specs.Ordering.{match_ordering, is_eq}
use Rattle.std.specs.declared.cmp.Ordering.{Ordering}
use Rattle.std.specs.declared.cmp.Ordering.TheVariants.{Less, Equal, Greater}
use Rattle.std.proofs.lemmas.Bool.{true≢false, false≢true, and_parts, or_parts, not-false, eqb-true, ltb-true, ltb-false}
use Rattle.std.proofs.lemmas.List.{length-map, length-append, length-set, length-replicate}
use Rattle.std.proofs.lemmas.List.Elements.{All-nil, All-cons, All-head, All-tail, All-append, All-filter, All-map, All-weaker, filter_passes}
use Rattle.std.proofs.lemmas.List.Sums.{length-filter, count_by-le-length}
use Rattle.term_core.specs.Datum.{Datum}
use Rattle.term_core.specs.Order.{datum_cmp}
use Rattle.term_operand.specs.Order.{is_same}
use Rattle.part_core.specs.declared.kind.TableKind.{TableKind}
use Rattle.part_core.specs.declared.kind.TableKind.TheVariants.{Set, OrderedSet, Bag, DuplicateBag}
use Rattle.part_core.specs.declared.settings.Settings.{Settings}
use Rattle.part_core.specs.Settings.{is_ordered, is_set, is_object, key_of}
use Rattle.part_core.specs.Acts.{Act, Said, Answer}
use Rattle.part_core.specs.Acts.Purpose.{Deletes}
use Rattle.part_core.specs.Acts.Act.{Insert, InsertNew, Delete, DeleteObject, Take, Fix, Unfix, Release, Visit}
use Rattle.part_core.specs.Acts.Answer.{Replied, Refused}
use Rattle.part_core.specs.Acts.Refusal.{TooSmall}
use Rattle.part_core.specs.Rows.{Row, PartState, opening, is_empty, is_live, is_fixed, objects_at, has_row, objects_with, objects_without, with_object}
use Rattle.part_core.specs.Visits.{bases, is_true, visited_rows}
use Rattle.part_core.specs.Replies.{reply_of, said_of_object}
use Rattle.part_core.specs.After.{most_slots, after, rows_after, counts_after, slots_after, state_with}
use Rattle.part_core.specs.States.{AreRows, IsRow, IsObjectOf, IsState, IsBase}
use Rattle.part_core.proofs.KeyLemmas.{by_test, same_is}
use Rattle.part_core.proofs.RowLemmas.{rows_by}
use Rattle.part_core.proofs.StateLemmas.{base_least, live_rows, written_rows, after_replied, after_refused}

pub opening_state : (o : Settings) → IsState o (opening o)
unfolding IsDistinct IsStrictlySortedBy
opening_state o = record {
  rows = record { distinct = tt; rising = λ _. tt };
  each = All-nil (IsRow o);
  live = λ _. All-nil (λ r. IsTrue (is_live r));
  sessions = length-replicate o.sessions 0;
  slots = refl;
  base = (refl, omega arith);
  settled = λ _. refl;
  room = λ _ _. omega arith;
}

all_with : (P : Datum → Type 0) (kind : TableKind) (os : List Datum) (t : Datum) → All P os → P t → All P (objects_with kind os t)
all_with P Set os t a p = All-cons P t [] p (All-nil P)
all_with P OrderedSet os t a p = All-cons P t [] p (All-nil P)
all_with P Bag os t a p =
    by_test (list_any (is_same t) os) _ (λ holds. rw holds a) (λ fails. rw fails (All-append P os (t ∷ []) a (All-cons P t [] p (All-nil P))))
all_with P DuplicateBag os t a p = All-append P os (t ∷ []) a (All-cons P t [] p (All-nil P))

single_with : (kind : TableKind) (os : List Datum) (t : Datum) → IsTrue (is_set kind) → length (objects_with kind os t) ≤ 1
single_with Set os t h = omega arith
single_with OrderedSet os t h = omega arith
single_with Bag os t h = cc
single_with DuplicateBag os t h = cc

row_with : (o : Settings) (k : Datum) (os : List Datum) (t : Datum) → IsObjectOf o k t → IsRow o (k, os) → IsRow o (k, objects_with o.kind os t)
row_with o k os t p row = record {
  objects = all_with (IsObjectOf o k) o.kind os t row.objects p;
  single = single_with o.kind os t;
}

pub empty_row : (o : Settings) (k : Datum) → IsRow o (k, [])
empty_row o k = record { objects = All-nil (IsObjectOf o k); single = λ _. omega arith }

pub filtered_row : (o : Settings) (q : Datum → Bool) (r : Row) → IsRow o r → IsRow o (r.0, filter q r.1)
filtered_row o q r row = record {
  objects = All-filter q (IsObjectOf o r.0) r.1 row.objects;
  single = λ h. omega (arith, row.single h, length-filter q r.1, count_by-le-length q r.1);
}

pub each_by : (o : Settings) (g : Datum → List Datum → List Datum) (rows : List Row) → ((r : Row) → IsRow o r → IsRow o (r.0, g r.0 r.1)) → All (IsRow o) rows → All (IsRow o) (rows_by g rows)
each_by o g rows f a =
    All-map (IsRow o) (λ (r : Row). (r.0, g r.0 r.1)) rows (All-weaker (IsRow o) (λ r. IsRow o (r.0, g r.0 r.1)) f rows a)

-- a row that keeps its objects if a test fails
pub row_where : (o : Settings) (b : Bool) (f : List Datum → List Datum) (r : Row) → (b ≡ true → IsRow o (r.0, f r.1)) → IsRow o r → IsRow o (r.0, if b then f r.1 else r.1)
row_where o true f r changed row = changed refl
row_where o false f r changed row = row

each_inserted : (o : Settings) (j : Datum) (os : List Datum) (rows : List Row) → IsRow o (j, os) → All (IsRow o) rows → (has_row rows j ≡ false) → All (IsRow o) (insert_entry datum_cmp rows j os)
each_inserted o j os [] row a none = All-cons (IsRow o) (j, os) [] row (All-nil (IsRow o))
each_inserted o j os (r ∷ rows) row a none =
    by_test (is_same j r.0) _ (λ holds. absurd (true≢false (rw holds at none)))
    (λ fails. placed (datum_cmp j r.0) fails (each_inserted o j os rows row (All-tail (IsRow o) r rows a) (rw fails at none)))
  where
    placed : (way : Ordering) → is_eq way ≡ false → All (IsRow o) (insert_entry datum_cmp rows j os) → All (IsRow o) (match_ordering way ((j, os) ∷ r ∷ rows) ((r.0, os) ∷ rows) (r ∷ insert_entry datum_cmp rows j os))
    placed Less apart more = All-cons (IsRow o) (j, os) (r ∷ rows) row a
    placed Equal apart more = cc
    placed Greater apart more = All-cons (IsRow o) r _ (All-head (IsRow o) r rows a) more

put_each : (o : Settings) (t : Datum) (rows : List Row) → IsTrue (is_object o t) → All (IsRow o) rows → All (IsRow o) (with_object o t rows)
put_each o t rows object a =
    by_test (has_row rows (key_of o t)) _
    (λ there. rw there (each_by o (λ j os. if is_same (key_of o t) j then objects_with o.kind os t else os) rows (λ r row. row_where o (is_same (key_of o t) r.0) (λ os. objects_with o.kind os t) r (λ holds. row_with o r.0 r.1 t (object, same_is (key_of o t) r.0 holds) row) row) a))
    (λ none. rw none (by_test (is_ordered o.kind) _ (λ holds. rw holds (each_inserted o (key_of o t) (objects_with o.kind [] t) rows new a none)) (λ fails. rw fails (All-append (IsRow o) rows ((key_of o t, objects_with o.kind [] t) ∷ []) a (All-cons (IsRow o) (key_of o t, objects_with o.kind [] t) [] new (All-nil (IsRow o)))))))
  where
    new : IsRow o (key_of o t, objects_with o.kind [] t)
    new = row_with o (key_of o t) [] t (object, refl) (empty_row o (key_of o t))

object_said : (o : Settings) (t : Datum) (x said : Said) → said_of_object o t x ≡ Replied said → IsTrue (is_object o t)
object_said o t x said is = of (is_object o t) is
  where
    of : (b : Bool) → (if b then Replied x else Refused TooSmall) ≡ Replied said → IsTrue b
    of true h = refl
    of false h = cc

emptied_each : (o : Settings) (k : Datum) (rows : List Row) → All (IsRow o) rows → All (IsRow o) (rows_by (λ j os. if is_same k j then [] else os) rows)
emptied_each o k rows a =
    each_by o (λ j os. if is_same k j then [] else os) rows (λ r row. row_where o (is_same k r.0) (λ os. []) r (λ _. empty_row o r.0) row) a

written_each : (o : Settings) (s : PartState) (n : ℕ) (act : Act) (said : Said) → reply_of o s n act ≡ Replied said → All (IsRow o) s.rows → All (IsRow o) (rows_after o s act)
unfolding reply_of
written_each o s n (Insert t) said is a = put_each o t s.rows (object_said o t _ said is) a
written_each o s n (InsertNew t) said is a =
    by_test (is_empty (objects_at s.rows (key_of o t))) _ (λ holds. rw holds (put_each o t s.rows (object_said o t _ said is) a)) (λ fails. rw fails a)
written_each o s n (Delete k) said is a = emptied_each o k s.rows a
written_each o s n (DeleteObject t) said is a =
    each_by o (λ j os. if is_same (key_of o t) j then objects_without t os else os) s.rows (λ r row. row_where o (is_same (key_of o t) r.0) (objects_without t) r (λ _. filtered_row o (λ u. not (is_same t u)) r row) row) a
written_each o s n (Take k) said is a = emptied_each o k s.rows a
written_each o s n (Visit Deletes p scope wanted) said is a =
    each_by o _ s.rows (λ r row. row_where o _ (λ os. filter (λ t. not (is_true p t)) os) r (λ _. filtered_row o (λ t. not (is_true p t)) r row) row) a
written_each o s n act said is a = a

pub counts_length : (fixes : List ℕ) (n : ℕ) (act : Act) → length (counts_after fixes n act) ≡ length fixes
counts_length fixes n Fix = length-set fixes n _
counts_length fixes n Unfix = length-set fixes n _
counts_length fixes n Release = length-set fixes n 0
counts_length fixes n act = refl

-- each number of slots except the greatest has its double among them
doubled : (xs : List ℕ) (n : ℕ) → list_all (λ x. not (nat_lt x most_slots) || list_any (nat_eq (2 * x)) bases) xs ≡ true → list_any (nat_eq n) xs ≡ true → n < most_slots → IsBase (2 * n)
doubled [] n all there small = cc
doubled (x ∷ xs) n all there small =
    let parts = and_parts (not (nat_lt x most_slots) || list_any (nat_eq (2 * x)) bases) _ all in
    by_test (nat_eq n x) _
    (λ holds. let is : n ≡ x = eqb-true n x holds in
    let below : nat_lt x most_slots ≡ true = lt-ltb x most_slots (subst (λ (m : ℕ). m < most_slots) is small) in
    subst (λ (m : ℕ). IsBase (2 * m)) (sym is) (rw below at parts.0))
    (λ fails. doubled xs n parts.1 (rw fails at there) small)

-- a set that doubles its slots has got a row, has more than four rows per slot, and had fewer than the most slots
abbrev IsGrown : ℕ → ℕ → ℕ → Type 0
IsGrown before now slots = (before < now) × (4 * slots < now) × (slots < most_slots)

grown_so : (kind : TableKind) (before now slots : ℕ) → (is_ordered kind || not (nat_lt before now && (nat_lt (4 * slots) now && nat_lt slots most_slots))) ≡ false → IsGrown before now slots
grown_so kind before now slots grows =
    let all = and_parts (nat_lt before now) _ (not-false _ (or_parts (is_ordered kind) _ grows).1) in
    let few = and_parts (nat_lt (4 * slots) now) _ all.1 in
    (ltb-true before now all.0, ltb-true (4 * slots) now few.0, ltb-true slots most_slots few.1)

pub slots_grow : (kind : TableKind) (before now slots : ℕ) → IsBase slots → IsBase (slots_after kind before now slots) × (slots ≤ slots_after kind before now slots)
slots_grow kind before now slots is =
    by_test (is_ordered kind || not (nat_lt before now && (nat_lt (4 * slots) now && nat_lt slots most_slots))) _
    (λ stays. rw stays (is, omega arith))
    (λ grows. rw grows (doubled bases slots refl is (grown_so kind before now slots grows).2, omega arith))

-- if at most one row was added, a set that can still grow has at most four rows per slot
room_after : (kind : TableKind) (before now slots : ℕ) → IsFalse (is_ordered kind) → IsBase slots → (slots < most_slots → before ≤ 4 * slots) → now ≤ before + 1 → slots_after kind before now slots < most_slots → now ≤ 4 * slots_after kind before now slots
room_after kind before now slots plain is room one =
    by_test (is_ordered kind || not (nat_lt before now && (nat_lt (4 * slots) now && nat_lt slots most_slots))) _
    (λ stays. rw stays (λ small. by_test (nat_lt (4 * slots) now) _
    (λ many. let over : 4 * slots < now = ltb-true (4 * slots) now many in
    let more : nat_lt before now ≡ true = lt-ltb before now (omega (arith, over, room small)) in
    let few : nat_lt slots most_slots ≡ true = lt-ltb slots most_slots small in
    absurd (false≢true (rw (plain, more, many, few) at stays)))
    (λ fits. ltb-false (4 * slots) now fits)))
    (λ grows. rw grows (λ small. omega (arith, one, room (grown_so kind before now slots grows).2, base_least slots is)))

-- an operation adds at most one row to a set
pub put_length : (o : Settings) (t : Datum) (rows : List Row) → IsFalse (is_ordered o.kind) → length (with_object o t rows) ≤ length rows + 1
put_length o t rows plain =
    by_test (has_row rows (key_of o t)) _
    (λ there. rw there (omega (arith, length-map {B = Row} rows (λ (r : Row). (r.0, if is_same (key_of o t) r.0 then objects_with o.kind r.1 t else r.1)))))
    (λ none. rw (none, plain) (omega (arith, length-append rows ((key_of o t, objects_with o.kind [] t) ∷ []))))

written_length : (o : Settings) (s : PartState) (act : Act) → IsFalse (is_ordered o.kind) → length (rows_after o s act) ≤ length s.rows + 1
written_length o s (Insert t) plain = put_length o t s.rows plain
written_length o s (InsertNew t) plain =
    by_test (is_empty (objects_at s.rows (key_of o t))) _ (λ holds. rw holds (put_length o t s.rows plain)) (λ fails. rw fails (omega arith))
written_length o s (Delete k) plain =
    omega (arith, length-map {B = Row} s.rows (λ (r : Row). (r.0, if is_same k r.0 then [] else r.1)))
written_length o s (DeleteObject t) plain =
    omega (arith, length-map {B = Row} s.rows (λ (r : Row). (r.0, if is_same (key_of o t) r.0 then objects_without t r.1 else r.1)))
written_length o s (Take k) plain =
    omega (arith, length-map {B = Row} s.rows (λ (r : Row). (r.0, if is_same k r.0 then [] else r.1)))
written_length o s (Visit Deletes p scope wanted) plain =
    omega (arith, length-map {B = Row} s.rows (λ (r : Row). (r.0, if list_any (is_same r.0) (keys_of (visited_rows o s Deletes p scope wanted)) then filter (λ t. not (is_true p t)) r.1 else r.1)))
written_length o s act plain = omega arith

kept_state : (o : Settings) (s : PartState) (rows : List Row) (fixes : List ℕ) → IsState o s → AreRows o rows → All (IsRow o) rows → (IsFalse (is_ordered o.kind) → length rows ≤ length s.rows + 1) → length fixes ≡ length s.fixes → IsState o (state_with o s rows fixes)
kept_state o s rows fixes state a each one long =
    by_test (is_fixed fixes) _
    (λ holds. let grown = slots_grow o.kind (length s.rows) (length rows) s.slots state.slots in rw holds (record {
      rows = a;
      each = each;
      live = λ free. absurd (true≢false (sym holds ∙ free));
      sessions = long ∙ state.sessions;
      slots = grown.0;
      base = (state.base.0, omega (arith, state.base.1, grown.1));
      settled = λ free. absurd (true≢false (sym holds ∙ free));
      room = λ plain. room_after o.kind (length s.rows) (length rows) s.slots plain state.slots (state.room plain) (one plain);
    }))
    (λ fails. let grown = slots_grow o.kind (length s.rows) (length (filter is_live rows)) s.slots state.slots in rw fails (record {
      rows = live_rows o rows a;
      each = All-filter is_live (IsRow o) rows each;
      live = λ _. filter_passes is_live rows;
      sessions = long ∙ state.sessions;
      slots = grown.0;
      base = (grown.0, omega arith);
      settled = λ _. refl;
      room = λ plain. room_after o.kind (length s.rows) (length (filter is_live rows)) s.slots plain state.slots (state.room plain) (omega (arith, one plain, length-filter is_live rows, count_by-le-length is_live rows));
    }))

pub state_step : (o : Settings) (s : PartState) (n : ℕ) (act : Act) (answer : Answer) → reply_of o s n act ≡ answer → IsState o s → IsState o (after o s n act)
state_step o s n act (Refused refusal) is state =
    subst (IsState o) (sym (after_refused o s n act refusal is)) state
state_step o s n act (Replied said) is state =
    subst (IsState o) (sym (after_replied o s n act said is))
    (kept_state o s (rows_after o s act) (counts_after s.fixes n act) state (written_rows o s act state.rows) (written_each o s n act said is state.each) (written_length o s act) (counts_length s.fixes n act))
