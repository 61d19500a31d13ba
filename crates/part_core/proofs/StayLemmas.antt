-- What stays of a part's rows while it is fixed.
use Rattle.std.proofs.Common.{◌≡◌, ℕ, List, [], ◌∷◌, ◌++◌, refl, ap, sym, subst, ◌∙◌, append_assoc}
use Rattle.std.specs.Prelude.{Bool, true, false, not, if◌then◌else◌, IsTrue, IsFalse, Option, Some, None, option_map, is_some, filter}
use Rattle.std.specs.List.{list_any}
use Rattle.std.specs.Map.{keys_of, lookup}
use Rattle.std.proofs.lemmas.List.{append-nil, map-append}
use Rattle.term_core.specs.Datum.{Datum}
use Rattle.term_operand.specs.Order.{is_same}
use Rattle.part_core.specs.declared.settings.Settings.{Settings}
use Rattle.part_core.specs.Settings.{is_ordered, key_of}
use Rattle.part_core.specs.Acts.{Act, Answer, History}
use Rattle.part_core.specs.Acts.Purpose.{Deletes}
use Rattle.part_core.specs.Acts.Act.{Insert, InsertNew, Delete, DeleteObject, Take, Visit}
use Rattle.part_core.specs.Acts.Answer.{Replied, Refused}
use Rattle.part_core.specs.Rows.{Row, PartState, is_empty, is_fixed, objects_at, has_row, objects_with, objects_without, with_new_row, with_object}
use Rattle.part_core.specs.Visits.{is_true, visited_rows}
use Rattle.part_core.specs.Replies.{reply_of}
use Rattle.part_core.specs.After.{after, rows_after, counts_after, state_with}
use Rattle.part_core.specs.Legal.{state_from, IsLegalFrom, IsFixedFrom}
use Rattle.part_core.specs.Laws.{Stays}
use Rattle.part_core.proofs.KeyLemmas.{by_test}
use Rattle.part_core.proofs.RowLemmas.{rows_by, lookup_by, keys_by, lookup_new}
use Rattle.part_core.proofs.StateLemmas.{after_replied, after_refused}

-- later rows have each key that earlier ones have, and those of a set in the same order
record Grow (o : Settings) (old new : List Row) : Type 0 where
  rows : (k : Datum) → IsTrue (has_row old k) → IsTrue (has_row new k)
  order : IsFalse (is_ordered o.kind) → (more : List Datum) × (keys_of new ≡ keys_of old ++ more)

grow_none : (o : Settings) (rows : List Row) → Grow o rows rows
grow_none o rows = record {
  rows = λ k h. h;
  order = λ h. ([], sym (append-nil (keys_of rows)));
}

grow_by : (o : Settings) (g : Datum → List Datum → List Datum) (rows : List Row) → Grow o rows (rows_by g rows)
grow_by o g rows = record {
  rows = λ k h. ap is_some (lookup_by g k rows) ∙ of (g k) (lookup (is_same k) rows) h;
  order = λ h. ([], keys_by g rows ∙ sym (append-nil (keys_of rows)));
}
  where
    of : (f : List Datum → List Datum) (found : Option (List Datum)) → is_some found ≡ true → is_some (option_map f found) ≡ true
    of f None h = h
    of f (Some os) h = refl

grow_new : (o : Settings) (j : Datum) (os : List Datum) (rows : List Row) → has_row rows j ≡ false → Grow o rows (with_new_row o.kind (j, os) rows)
grow_new o j os rows none = record {
  rows = λ k h. ap is_some (lookup_new o.kind j os k rows none) ∙ of (is_same k j) (lookup (is_same k) rows) h;
  order = λ h. rw h (j ∷ [], map-append (λ (r : Row). r.0) rows ((j, os) ∷ []));
}
  where
    of : (b : Bool) (found : Option (List Datum)) → is_some found ≡ true → is_some (if b then Some os else found) ≡ true
    of true found h = refl
    of false found h = h

grow_put : (o : Settings) (t : Datum) (rows : List Row) → Grow o rows (with_object o t rows)
grow_put o t rows =
    by_test (has_row rows (key_of o t)) _
    (λ there. rw there (grow_by o (λ j os. if is_same (key_of o t) j then objects_with o.kind os t else os) rows))
    (λ none. rw none (grow_new o (key_of o t) (objects_with o.kind [] t) rows none))

grow_written : (o : Settings) (s : PartState) (act : Act) → Grow o s.rows (rows_after o s act)
grow_written o s (Insert t) = grow_put o t s.rows
grow_written o s (InsertNew t) =
    by_test (is_empty (objects_at s.rows (key_of o t))) _ (λ holds. rw holds (grow_put o t s.rows)) (λ fails. rw fails (grow_none o s.rows))
grow_written o s (Delete k) = grow_by o (λ j os. if is_same k j then [] else os) s.rows
grow_written o s (DeleteObject t) =
    grow_by o (λ j os. if is_same (key_of o t) j then objects_without t os else os) s.rows
grow_written o s (Take k) = grow_by o (λ j os. if is_same k j then [] else os) s.rows
grow_written o s (Visit Deletes p scope wanted) =
    grow_by o (λ j os. if list_any (is_same j) (keys_of (visited_rows o s Deletes p scope wanted)) then filter (λ t. not (is_true p t)) os else os) s.rows
grow_written o s act = grow_none o s.rows

stays_none : (o : Settings) (s : PartState) → Stays o s s
stays_none o s = record {
  base = refl;
  rows = λ k h. h;
  order = λ h. ([], sym (append-nil (keys_of s.rows)));
}

stays_then : (o : Settings) (r s t : PartState) → Stays o r s → Stays o s t → Stays o r t
stays_then o r s t first next = record {
  base = next.base ∙ first.base;
  rows = λ k h. next.rows k (first.rows k h);
  order = λ h. let a = first.order h in let b = next.order h in (a.0 ++ b.0, b.1 ∙ ap (λ ks. ks ++ b.0) a.1 ∙ append_assoc (keys_of r.rows) a.0 b.0);
}

stay_written : (o : Settings) (s : PartState) (rows : List Row) (fixes : List ℕ) → Grow o s.rows rows → is_fixed fixes ≡ true → Stays o s (state_with o s rows fixes)
stay_written o s rows fixes grow fixed =
    rw fixed (record { base = refl; rows = grow.rows; order = grow.order })

stay_step : (o : Settings) (s : PartState) (n : ℕ) (act : Act) (answer : Answer) → reply_of o s n act ≡ answer → IsTrue (is_fixed (after o s n act).fixes) → Stays o s (after o s n act)
stay_step o s n act (Refused refusal) is fixed =
    subst (Stays o s) (sym (after_refused o s n act refusal is)) (stays_none o s)
stay_step o s n act (Replied said) is fixed =
    let replied = after_replied o s n act said is in
    subst (Stays o s) (sym replied) (stay_written o s (rows_after o s act) (counts_after s.fixes n act) (grow_written o s act) (subst (λ (t : PartState). IsTrue (is_fixed t.fixes)) replied fixed))

fixed_here : (o : Settings) (s : PartState) (es : History) → IsFixedFrom o s es → IsTrue (is_fixed s.fixes)
fixed_here o s [] h = h
fixed_here o s (e ∷ es) h = h.0

pub stays_from : (o : Settings) (s : PartState) (es : History) → IsLegalFrom o s es → IsFixedFrom o s es → Stays o s (state_from o s es)
stays_from o s [] legal fixed = stays_none o s
stays_from o s (e ∷ es) legal fixed =
    stays_then o s (after o s e.session e.act) _ (stay_step o s e.session e.act e.answer (sym legal.0.answer) (fixed_here o (after o s e.session e.act) es fixed.1)) (stays_from o (after o s e.session e.act) es legal.1 fixed.1)
