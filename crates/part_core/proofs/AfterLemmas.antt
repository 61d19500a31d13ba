-- What an operation leaves of a state, by what it writes.
use Rattle.std.proofs.Common.{◌≡◌, ℕ, ◌≤◌, List, [], ◌∷◌, refl, ap, sym, ◌∙◌, length, arith}
use Rattle.std.specs.Prelude.{Bool, true, false, if◌then◌else◌, nat_lt, IsTrue, filter, All}
use Rattle.std.specs.List.{list_any}
use Rattle.std.specs.BTreeMap.{insert_entry}
use Rattle.std.specs.declared.cmp.Ordering.{Ordering}
use Rattle.std.specs.declared.cmp.Ordering.TheVariants.{Less, Equal, Greater}
use Rattle.std.specs.Ordering.{match_ordering}
use Rattle.std.proofs.lemmas.Bool.{le-ltb}
use Rattle.std.proofs.lemmas.List.Elements.{All-nil, All-cons, All-head, All-tail, All-append}
use Rattle.std.proofs.lemmas.List.Sums.{length-filter, count_by-le-length}
use Rattle.term_core.specs.Datum.{Datum}
use Rattle.term_core.specs.Order.{datum_cmp}
use Rattle.term_operand.specs.Order.{is_same}
use Rattle.part_core.specs.declared.kind.TableKind.{TableKind}
use Rattle.part_core.specs.declared.kind.TableKind.TheVariants.{Set, OrderedSet, Bag, DuplicateBag}
use Rattle.part_core.specs.declared.settings.Settings.{Settings}
use Rattle.part_core.specs.Settings.{is_ordered, key_of}
use Rattle.part_core.specs.Acts.{Act, Answer}
use Rattle.part_core.specs.Acts.Answer.{Replied, Refused}
use Rattle.part_core.specs.Rows.{Row, PartState, is_live, is_fixed, has_row, objects_with, rows_at_key, with_object}
use Rattle.part_core.specs.Replies.{reply_of}
use Rattle.part_core.specs.After.{after, rows_after, counts_after, kept_rows, slots_after, state_with}
use Rattle.part_core.specs.States.{IsState}
use Rattle.part_core.proofs.KeyLemmas.{by_test}
use Rattle.part_core.proofs.StateLemmas.{after_replied, after_refused}

-- ---- rows that are kept

pub all_kept : (p : Row → Bool) (rows : List Row) → All (λ r. IsTrue (p r)) rows → filter p rows ≡ rows
all_kept p [] a = refl
all_kept p (r ∷ rows) a =
    let here : p r ≡ true = All-head (λ r. IsTrue (p r)) r rows a in
    rw here (ap (λ rs. r ∷ rs) (all_kept p rows (All-tail (λ r. IsTrue (p r)) r rows a)))

-- live rows stay if only live rows are kept
pub live_stay : (fixes : List ℕ) (rows : List Row) → (is_fixed fixes ≡ false → All (λ r. IsTrue (is_live r)) rows) → kept_rows fixes rows ≡ rows
live_stay fixes rows live = of (is_fixed fixes) live
  where
    of : (b : Bool) → (b ≡ false → All (λ r. IsTrue (is_live r)) rows) → (if b then rows else filter is_live rows) ≡ rows
    of true live = refl
    of false live = all_kept is_live rows (live refl)

pub live_few : (rows : List Row) → length (filter is_live rows) ≤ length rows
live_few rows = omega (arith, length-filter is_live rows, count_by-le-length is_live rows)

pub kept_few : (fixes : List ℕ) (rows : List Row) → length (kept_rows fixes rows) ≤ length rows
kept_few fixes rows =
    by_test (is_fixed fixes) (length (kept_rows fixes rows) ≤ length rows) (λ fixed. rw fixed (omega arith)) (λ free. rw free (live_few rows))

-- ---- slots and base

-- the number of slots stays if no row was added
pub slots_same : (kind : TableKind) (before now slots : ℕ) → now ≤ before → slots_after kind before now slots ≡ slots
slots_same kind before now slots few =
    let more : nat_lt before now ≡ false = le-ltb before now few in
    by_test (is_ordered kind) (slots_after kind before now slots ≡ slots) (λ ordered. rw ordered refl) (λ plain. rw (plain, more) refl)

same_slots : (b : Bool) (rows : List Row) (fixes : List ℕ) (now slots base : ℕ) → now ≡ slots → (b ≡ false → base ≡ slots) → ◌≡◌ {A = PartState} (record { rows = rows; fixes = fixes; slots = now; base = if b then base else now }) (record { rows = rows; fixes = fixes; slots = slots; base = base })
same_slots true rows fixes now slots base is settled =
    ap (λ (n : ℕ). record { rows = rows; fixes = fixes; slots = n; base = base }) is
same_slots false rows fixes now slots base is settled =
    ap (λ (n : ℕ). record { rows = rows; fixes = fixes; slots = n; base = n }) is
    ∙ ap (λ (n : ℕ). record { rows = rows; fixes = fixes; slots = slots; base = n }) (sym (settled refl))

-- the state that is left if the counts of fixes stay and no row is added
pub kept_after : (o : Settings) (s : PartState) (rows : List Row) → IsState o s → length rows ≤ length s.rows → state_with o s rows s.fixes ≡ record { rows = kept_rows s.fixes rows; fixes = s.fixes; slots = s.slots; base = s.base }
kept_after o s rows state few =
    same_slots (is_fixed s.fixes) (kept_rows s.fixes rows) s.fixes _ s.slots s.base (slots_same o.kind (length s.rows) (length (kept_rows s.fixes rows)) s.slots (omega (arith, few, kept_few s.fixes rows))) state.settled

-- a state that is written with its own rows and fixes is unchanged
pub same_state : (o : Settings) (s : PartState) → IsState o s → state_with o s s.rows s.fixes ≡ s
same_state o s state =
    kept_after o s s.rows state (omega arith)
    ∙ ap (λ (rows : List Row). record { rows = rows; fixes = s.fixes; slots = s.slots; base = s.base }) (live_stay s.fixes s.rows state.live)

-- an operation that writes nothing leaves the state as it was
pub read_after : (o : Settings) (s : PartState) (n : ℕ) (act : Act) (answer : Answer) → IsState o s → reply_of o s n act ≡ answer → rows_after o s act ≡ s.rows → counts_after s.fixes n act ≡ s.fixes → after o s n act ≡ s
read_after o s n act (Refused refusal) state is rows counts = after_refused o s n act refusal is
read_after o s n act (Replied said) state is rows counts =
    after_replied o s n act said is
    ∙ ap (λ (x : List Row). state_with o s x (counts_after s.fixes n act)) rows
    ∙ ap (state_with o s s.rows) counts
    ∙ same_state o s state

-- the state that is left if the rows stay and the counts of fixes change
pub counted_after : (o : Settings) (s : PartState) (counts : List ℕ) → state_with o s s.rows counts ≡ record { rows = if is_fixed counts then s.rows else filter is_live s.rows; fixes = counts; slots = s.slots; base = if is_fixed counts then s.base else s.slots }
counted_after o s counts =
    let same : slots_after o.kind (length s.rows) (length (kept_rows counts s.rows)) s.slots ≡ s.slots = slots_same o.kind (length s.rows) (length (kept_rows counts s.rows)) s.slots (kept_few counts s.rows) in
    ap (λ (slots : ℕ). record { rows = kept_rows counts s.rows; fixes = counts; slots = slots; base = if is_fixed counts then s.base else slots }) same

-- ---- objects that are inserted

pub with_live : (kind : TableKind) (k : Datum) (os : List Datum) (t : Datum) → is_live (k, objects_with kind os t) ≡ true
with_live Set k os t = refl
with_live OrderedSet k os t = refl
with_live Bag k [] t = refl
with_live Bag k (u ∷ os) t =
    by_test (list_any (is_same t) (u ∷ os)) (is_live (k, objects_with Bag (u ∷ os) t) ≡ true) (λ there. rw there refl) (λ new. rw new refl)
with_live DuplicateBag k [] t = refl
with_live DuplicateBag k (u ∷ os) t = refl

live_at : (kind : TableKind) (k t : Datum) (rows : List Row) → All (λ r. IsTrue (is_live r)) rows → All (λ r. IsTrue (is_live r)) (rows_at_key k (λ os. objects_with kind os t) rows)
live_at kind k t [] live = All-nil (λ (v : Row). IsTrue (is_live v))
live_at kind k t (r ∷ rows) live =
    All-cons (λ (v : Row). IsTrue (is_live v)) _ _
    (by_test (is_same k r.0) _ (λ here. rw here (with_live kind r.0 r.1 t)) (λ other. rw other (All-head (λ (v : Row). IsTrue (is_live v)) r rows live)))
    (live_at kind k t rows (All-tail (λ (v : Row). IsTrue (is_live v)) r rows live))

live_inserted : (k : Datum) (os : List Datum) (rows : List Row) → is_live (k, os) ≡ true → All (λ r. IsTrue (is_live r)) rows → All (λ r. IsTrue (is_live r)) (insert_entry datum_cmp rows k os)
live_inserted k os [] here live =
    All-cons (λ (v : Row). IsTrue (is_live v)) (k, os) [] here (All-nil (λ (v : Row). IsTrue (is_live v)))
live_inserted k os (r ∷ rows) here live =
    placed (live_inserted k os rows here others) (datum_cmp k r.0)
  where
    others : All (λ v. IsTrue (is_live v)) rows
    others = All-tail (λ (v : Row). IsTrue (is_live v)) r rows live

    placed : All (λ v. IsTrue (is_live v)) (insert_entry datum_cmp rows k os) → (way : Ordering) → All (λ v. IsTrue (is_live v)) (match_ordering way ((k, os) ∷ r ∷ rows) ((r.0, os) ∷ rows) (r ∷ insert_entry datum_cmp rows k os))
    placed more Less = All-cons (λ (v : Row). IsTrue (is_live v)) (k, os) (r ∷ rows) here live
    placed more Equal = All-cons (λ (v : Row). IsTrue (is_live v)) (r.0, os) rows here others
    placed more Greater =
        All-cons (λ (v : Row). IsTrue (is_live v)) r (insert_entry datum_cmp rows k os) (All-head (λ (v : Row). IsTrue (is_live v)) r rows live) more

-- rows stay live after an object is inserted
pub put_live : (o : Settings) (t : Datum) (rows : List Row) → All (λ r. IsTrue (is_live r)) rows → All (λ r. IsTrue (is_live r)) (with_object o t rows)
put_live o t rows live =
    by_test (has_row rows (key_of o t)) _
    (λ there. rw there (live_at o.kind (key_of o t) t rows live))
    (λ none. rw none (by_test (is_ordered o.kind) _
    (λ holds. rw holds (live_inserted (key_of o t) (objects_with o.kind [] t) rows (with_live o.kind (key_of o t) [] t) live))
    (λ fails. rw fails (All-append (λ (v : Row). IsTrue (is_live v)) rows _ live (All-cons (λ (v : Row). IsTrue (is_live v)) _ [] (with_live o.kind (key_of o t) [] t) (All-nil (λ (v : Row). IsTrue (is_live v))))))))

-- the state that is left after an object is inserted
pub put_after : (o : Settings) (s : PartState) (t : Datum) → IsState o s → state_with o s (with_object o t s.rows) s.fixes ≡ record { rows = with_object o t s.rows; fixes = s.fixes; slots = slots_after o.kind (length s.rows) (length (with_object o t s.rows)) s.slots; base = if is_fixed s.fixes then s.base else slots_after o.kind (length s.rows) (length (with_object o t s.rows)) s.slots }
put_after o s t state =
    ap (λ (rows : List Row). record { rows = rows; fixes = s.fixes; slots = slots_after o.kind (length s.rows) (length rows) s.slots; base = if is_fixed s.fixes then s.base else slots_after o.kind (length s.rows) (length rows) s.slots }) (live_stay s.fixes (with_object o t s.rows) (λ free. put_live o t s.rows (state.live free)))
