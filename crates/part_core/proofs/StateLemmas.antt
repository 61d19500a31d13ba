-- What an operation leaves of a state, and that the result is a state.
use Rattle.std.proofs.Common.{◌≡◌, ℕ, ◌≤◌, List, [], ◌∷◌, refl, ap, sym, subst, ◌∙◌, arith}
use Rattle.std.specs.Prelude.{Bool, true, false, not, if◌then◌else◌, nat_le, nat_lt, nat_eq, IsTrue, filter}
use Rattle.std.specs.List.{IsDistinct, AllByRecursion, list_any, list_all}
use Rattle.std.specs.declared.cmp.Ordering.TheVariants.{Less}
use Rattle.std.specs.List.Sorted.{IsStrictlySortedBy}
use Rattle.std.specs.Map.{keys_of}
use Rattle.std.proofs.lemmas.Bool.{true≢false, and_parts, eqb-true, leb-true, lt-ltb}
use Rattle.std.proofs.lemmas.Map.Made.{IsDistinct-keys_filter}
use Rattle.std.proofs.lemmas.Map.Keys.{IsDistinct-from_sorted}
use Rattle.term_core.specs.Datum.{Datum}
use Rattle.term_core.specs.Order.{datum_cmp}
use Rattle.mcode.specs.Program.{Program}
use Rattle.term_operand.specs.Order.{is_same}
use Rattle.part_core.specs.declared.settings.Settings.{Settings}
use Rattle.part_core.specs.Settings.{is_ordered, is_object, key_of}
use Rattle.part_core.specs.Acts.{Purpose, Scope, Act, Said, Refusal, Answer}
use Rattle.part_core.specs.Acts.Refusal.{TooSmall, CursorOutside}
use Rattle.part_core.specs.Acts.Purpose.{Deletes}
use Rattle.part_core.specs.Acts.Cursor.{Class, Behind}
use Rattle.part_core.specs.Acts.Scope.{Begin, After, Named}
use Rattle.part_core.specs.Acts.Act.{Insert, InsertNew, Delete, DeleteObject, Take, Visit}
use Rattle.part_core.specs.Acts.Answer.{Replied, Refused}
use Rattle.part_core.specs.Rows.{Row, PartState, is_empty, is_live, is_fixed, objects_at, has_row, objects_with, objects_without, with_object}
use Rattle.part_core.specs.Visits.{is_true, is_beyond, following_rows, visited_rows, next_of, is_inside, bases, answers_of}
use Rattle.part_core.specs.Replies.{reply_of, said_of_object, said_by_visit, yield_of}
use Rattle.part_core.specs.After.{after, rows_after, counts_after, state_with}
use Rattle.part_core.specs.Covers.{covers}
use Rattle.part_core.specs.Content.{written}
use Rattle.part_core.specs.States.{AreRows, IsState, IsBase}
use Rattle.part_core.proofs.KeyLemmas.{by_test}
use Rattle.part_core.proofs.RowLemmas.{keys_by, objects_by, no_objects, objects_inserted, keys_new_distinct, keys_new_rising, objects_live, among_passing}
use Rattle.part_core.proofs.VisitLemmas.{filter-filter, up_to_next}

-- the properties of rows' keys hold for other rows with equal keys
pub same_keys_rows : (o : Settings) (rows more : List Row) → keys_of more ≡ keys_of rows → AreRows o rows → AreRows o more
same_keys_rows o rows more e a = record {
  distinct = subst (IsDistinct is_same) (sym e) a.distinct;
  rising = λ h. subst (IsStrictlySortedBy datum_cmp) (sym e) (a.rising h);
}

below-filter : (P : Datum → Type 0) (p : Row → Bool) (rows : List Row) → AllByRecursion P (keys_of rows) → AllByRecursion P (keys_of (filter p rows))
below-filter P p [] h = tt
below-filter P p (r ∷ rows) h =
    by_test (p r) _ (λ holds. rw holds (h.0, below-filter P p rows h.1)) (λ fails. rw fails (below-filter P p rows h.1))

keys-filter : (p : Row → Bool) (rows : List Row) → IsStrictlySortedBy datum_cmp (keys_of rows) → IsStrictlySortedBy datum_cmp (keys_of (filter p rows))
unfolding IsStrictlySortedBy
keys-filter p [] s = tt
keys-filter p (r ∷ rows) s =
    by_test (p r) _ (λ holds. rw holds (below-filter (λ l. datum_cmp r.0 l ≡ Less) p rows s.0, keys-filter p rows s.1)) (λ fails. rw fails (keys-filter p rows s.1))

pub filtered_rows : (o : Settings) (p : Row → Bool) (rows : List Row) → AreRows o rows → AreRows o (filter p rows)
filtered_rows o p rows a = record {
  distinct = IsDistinct-keys_filter is_same p rows a.distinct;
  rising = λ h. keys-filter p rows (a.rising h);
}

pub live_rows : (o : Settings) (rows : List Row) → AreRows o rows → AreRows o (filter is_live rows)
live_rows o rows a = filtered_rows o is_live rows a

-- a number of slots is at least eight
least : (xs : List ℕ) (n : ℕ) → list_all (nat_le 8) xs ≡ true → list_any (nat_eq n) xs ≡ true → 8 ≤ n
least [] n h there = cc
least (x ∷ xs) n h there =
    let parts = and_parts (nat_le 8 x) (list_all (nat_le 8) xs) h in
    by_test (nat_eq n x) _
    (λ holds. omega (arith, eqb-true n x holds, leb-true 8 x parts.0))
    (λ fails. least xs n parts.1 (rw fails at there))

pub base_least : (n : ℕ) → IsBase n → 8 ≤ n
base_least n h = least bases n refl h

-- the rows that a visit looks at are those that it covers
pub visited_is_covered : (o : Settings) (s : PartState) (purpose : Purpose) (p : Program) (scope : Scope) (wanted : ℕ) → IsState o s → IsTrue (is_inside o s scope) → visited_rows o s purpose p scope wanted ≡ filter (λ r. covers o scope (next_of o s purpose p scope wanted) r.0) s.rows
visited_is_covered o s purpose p (Named k) wanted state inside = refl
visited_is_covered o s purpose p (After (Class base class)) wanted state inside = refl
visited_is_covered o s purpose p (After (Behind k)) wanted state inside =
    up_to_next o (answers_of purpose p) wanted 64 (following_rows k s.rows) (omega arith) (keys-filter (λ r. is_beyond k r.0) s.rows (state.rows.rising inside)) ∙ filter-filter _ (λ r. is_beyond k r.0) s.rows
visited_is_covered o s purpose p Begin wanted state inside =
    by_test (is_ordered o.kind) _
    (λ holds. rw holds (up_to_next o (answers_of purpose p) wanted 64 s.rows (omega arith) (state.rows.rising holds)))
    (λ fails. let further : nat_lt 1 s.base ≡ true = lt-ltb 1 s.base (omega (arith, base_least s.base state.base.0)) in rw (fails, further) refl)

-- what an operation that is not refused leaves: the written rows, dead ones among them while the part is fixed
pub after_replied : (o : Settings) (s : PartState) (n : ℕ) (act : Act) (said : Said) → reply_of o s n act ≡ Replied said → after o s n act ≡ state_with o s (rows_after o s act) (counts_after s.fixes n act)
unfolding after
after_replied o s n act said is = rw is refl

pub after_refused : (o : Settings) (s : PartState) (n : ℕ) (act : Act) (refusal : Refusal) → reply_of o s n act ≡ Refused refusal → after o s n act ≡ s
unfolding after
after_refused o s n act refusal is = rw is refl

-- the rows after a write have distinct keys, in order for an ordered set
put_rows : (o : Settings) (t : Datum) (rows : List Row) → AreRows o rows → AreRows o (with_object o t rows)
put_rows o t rows a =
    by_test (has_row rows (key_of o t)) _
    (λ there. rw there (same_keys_rows o rows _ (keys_by (λ j os. if is_same (key_of o t) j then objects_with o.kind os t else os) rows) a))
    (λ none. rw none (by_test (is_ordered o.kind) _
    (λ holds. let rises = keys_new_rising (key_of o t) (objects_with o.kind [] t) rows (a.rising holds) in rw holds (record { distinct = IsDistinct-from_sorted datum_cmp _ rises; rising = λ h. rises }))
    (λ fails. let d = keys_new_distinct (key_of o t) (objects_with o.kind [] t) rows a.distinct none in rw fails (record { distinct = d; rising = λ h. absurd (true≢false (sym h ∙ fails)) }))))

pub written_rows : (o : Settings) (s : PartState) (act : Act) → AreRows o s.rows → AreRows o (rows_after o s act)
written_rows o s (Insert t) a = put_rows o t s.rows a
written_rows o s (InsertNew t) a =
    by_test (is_empty (objects_at s.rows (key_of o t))) _ (λ holds. rw holds (put_rows o t s.rows a)) (λ fails. rw fails a)
written_rows o s (Delete k) a =
    same_keys_rows o s.rows _ (keys_by (λ j os. if is_same k j then [] else os) s.rows) a
written_rows o s (DeleteObject t) a =
    same_keys_rows o s.rows _ (keys_by (λ j os. if is_same (key_of o t) j then objects_without t os else os) s.rows) a
written_rows o s (Take k) a =
    same_keys_rows o s.rows _ (keys_by (λ j os. if is_same k j then [] else os) s.rows) a
written_rows o s (Visit Deletes p scope wanted) a =
    same_keys_rows o s.rows _ (keys_by (λ j os. if list_any (is_same j) (keys_of (visited_rows o s Deletes p scope wanted)) then filter (λ t. not (is_true p t)) os else os) s.rows) a
written_rows o s act a = a

-- a look-up finds the same whether dead rows are kept or not
kept_objects : (o : Settings) (s : PartState) (rows : List Row) (fixes : List ℕ) (k : Datum) → AreRows o rows → objects_at (state_with o s rows fixes).rows k ≡ objects_at rows k
kept_objects o s rows fixes k a =
    by_test (is_fixed fixes) _ (λ holds. rw holds refl) (λ fails. rw fails (objects_live rows k a.distinct))

nothing_either : (b : Bool) → (if b then [] else []) ≡ (let none : List Datum = [] in none)
nothing_either true = refl
nothing_either false = refl

replied_is : (o : Settings) (t : Datum) (x said : Said) → said_of_object o t x ≡ Replied said → x ≡ said
replied_is o t x said is = of (is_object o t) is
  where
    of : (b : Bool) → (if b then Replied x else Refused TooSmall) ≡ Replied said → x ≡ said
    of true h = cc
    of false h = cc

pub visit_said : (o : Settings) (s : PartState) (n : ℕ) (purpose : Purpose) (p : Program) (scope : Scope) (wanted : ℕ) (said : Said) → reply_of o s n (Visit purpose p scope wanted) ≡ Replied said → IsTrue (is_inside o s scope) × (said_by_visit purpose (yield_of o s purpose p scope wanted) (next_of o s purpose p scope wanted) ≡ said)
unfolding reply_of
visit_said o s n purpose p scope wanted said is = of (is_inside o s scope) is
  where
    of : (b : Bool) → (if b then Replied (said_by_visit purpose (yield_of o s purpose p scope wanted) (next_of o s purpose p scope wanted)) else Refused CursorOutside) ≡ Replied said → IsTrue b × (said_by_visit purpose (yield_of o s purpose p scope wanted) (next_of o s purpose p scope wanted) ≡ said)
    of true h = (refl, cc)
    of false h = cc

deleted_objects : (o : Settings) (s : PartState) (p : Program) (scope : Scope) (wanted : ℕ) (k : Datum) → IsState o s → IsTrue (is_inside o s scope) → objects_at (rows_after o s (Visit Deletes p scope wanted)) k ≡ (if covers o scope (next_of o s Deletes p scope wanted) k then filter (λ t. not (is_true p t)) (objects_at s.rows k) else objects_at s.rows k)
deleted_objects o s p scope wanted k state inside =
    objects_by (λ j os. if list_any (is_same j) (keys_of (visited_rows o s Deletes p scope wanted)) then filter (λ t. not (is_true p t)) os else os) k s.rows (λ none. nothing_either _)
    ∙ by_test (has_row s.rows k) _ (λ there. ap (λ b. if b then filter (λ t. not (is_true p t)) (objects_at s.rows k) else objects_at s.rows k) (covered there))
    (λ none. let empty : objects_at s.rows k ≡ [] = no_objects s.rows k none in rw empty (nothing_either _ ∙ sym (nothing_either _)))
  where
    covered : has_row s.rows k ≡ true → list_any (is_same k) (keys_of (visited_rows o s Deletes p scope wanted)) ≡ covers o scope (next_of o s Deletes p scope wanted) k
    covered there = ap (λ (rows : List Row). list_any (is_same k) (keys_of rows)) (visited_is_covered o s Deletes p scope wanted state inside) ∙ among_passing (covers o scope (next_of o s Deletes p scope wanted)) s.rows k there

-- what is written of a key's objects is what the entry says
rows_written : (o : Settings) (s : PartState) (n : ℕ) (act : Act) (k : Datum) (said : Said) → IsState o s → reply_of o s n act ≡ Replied said → objects_at (rows_after o s act) k ≡ written o k (objects_at s.rows k) act (Replied said)
unfolding reply_of
rows_written o s n (Insert t) k said state is = objects_inserted o t s.rows k
rows_written o s n (InsertNew t) k said state is =
    subst (λ (q : Said). objects_at (rows_after o s (InsertNew t)) k ≡ written o k (objects_at s.rows k) (InsertNew t) (Replied q)) (replied_is o t _ said is)
    (by_test (is_empty (objects_at s.rows (key_of o t))) _ (λ holds. rw holds (objects_inserted o t s.rows k)) (λ fails. rw fails refl))
rows_written o s n (Delete j) k said state is =
    objects_by (λ l os. if is_same j l then [] else os) k s.rows (λ none. nothing_either _)
rows_written o s n (DeleteObject t) k said state is =
    objects_by (λ l os. if is_same (key_of o t) l then objects_without t os else os) k s.rows (λ none. nothing_either _)
rows_written o s n (Take j) k said state is =
    objects_by (λ l os. if is_same j l then [] else os) k s.rows (λ none. nothing_either _)
rows_written o s n (Visit Deletes p scope wanted) k said state is =
    let v = visit_said o s n Deletes p scope wanted said is in
    subst (λ (q : Said). objects_at (rows_after o s (Visit Deletes p scope wanted)) k ≡ written o k (objects_at s.rows k) (Visit Deletes p scope wanted) (Replied q)) v.1
    (deleted_objects o s p scope wanted k state v.0)
rows_written o s n act k said state is = refl

written_refused : (o : Settings) (k : Datum) (os : List Datum) (act : Act) (refusal : Refusal) → written o k os act (Refused refusal) ≡ os
written_refused o k os (Visit Deletes p scope wanted) refusal = refl
written_refused o k os act refusal = refl

pub content_step : (o : Settings) (s : PartState) (n : ℕ) (act : Act) (k : Datum) (answer : Answer) → IsState o s → reply_of o s n act ≡ answer → objects_at (after o s n act).rows k ≡ written o k (objects_at s.rows k) act answer
content_step o s n act k (Refused refusal) state is =
    ap (λ (t : PartState). objects_at t.rows k) (after_refused o s n act refusal is) ∙ sym (written_refused o k (objects_at s.rows k) act refusal)
content_step o s n act k (Replied said) state is =
    ap (λ (t : PartState). objects_at t.rows k) (after_replied o s n act said is)
    ∙ kept_objects o s (rows_after o s act) (counts_after s.fixes n act) k (written_rows o s act state.rows)
    ∙ rows_written o s n act k said state is
