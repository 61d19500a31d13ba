-- What each operation answers and leaves, depending on what its rows show; and that it continues the part's history.
use Rattle.std.proofs.Common.{◌≡◌, ℕ, ◌<◌, ◌≤◌, ◌+◌, ◌-◌, List, [], ◌∷◌, ◌++◌, refl, ap, sym, subst, ◌∙◌, set, get_or, length, arith, lt-ltb}
use Rattle.std.specs.Prelude.{Bool, true, false, not, ◌||◌, nat_lt, if◌then◌else◌, Option, Some, None, is_some, Result, Ok, Err, filter}
use Rattle.std.proofs.lemmas.Bool.{le-ltb}
use Rattle.std.proofs.lemmas.List.{append-nil, get_or-set_same, length-map, length-set}
use Rattle.std.proofs.lemmas.List.Folds.{list_any_at}
use Rattle.term_core.specs.Datum.{Datum}
use Rattle.term_operand.specs.Order.{is_same}
use Rattle.mcode.specs.Machine.{field_of}
use Rattle.part_core.specs.declared.settings.Settings.{Settings}
use Rattle.part_core.specs.declared.fault.Fault.{Fault}
use Rattle.part_core.specs.declared.fault.Fault.TheVariants as fault
use Rattle.part_core.specs.declared.reply.Reply.{Reply}
use Rattle.part_core.specs.Settings.{is_object, is_ordered, key_of}
use Rattle.part_core.specs.Acts.{Act, Answer, Entry, History, IsAsked}
use Rattle.part_core.specs.Acts.Act.{Insert, InsertNew, Lookup, Member, Delete, DeleteObject, Take, Fix, Unfix, Release, First, Next}
use Rattle.part_core.specs.Acts.Said.{Nothing, Flag, Objects, AtKey}
use Rattle.part_core.specs.Acts.Answer.{Replied, Refused}
use Rattle.part_core.specs.Acts.Refusal.{TooSmall, FixLimit, NotFixed, BadKey}
use Rattle.part_core.specs.After.{after, kept_rows}
use Rattle.part_core.specs.Laws.{StatesAreKept, LegalGoesOn, FixesAreCounted}
use Rattle.part_core.specs.Legal.{state_after, IsLegal, fix_count}
use Rattle.part_core.specs.Ops.{answer_in, entries_made}
use Rattle.part_core.specs.Replies.{reply_of, first_live, fixes_of, rows_past}
use Rattle.part_core.specs.Rows.{Row, PartState, opening, is_empty, is_fixed, is_live, has_row, objects_at, objects_without, rows_at_key}
use Rattle.part_core.specs.States.{IsState}
use Rattle.part_core.specs.Visits.{following_rows, walk_order}
use Rattle.part_core.proofs.AfterLemmas.{kept_after, read_after, counted_after, put_after}
use Rattle.part_core.proofs.HistoryLemmas.{state_more}
use Rattle.part_core.proofs.KeyLemmas.{by_test}
use Rattle.part_core.proofs.KeyedLemmas.{object_key, written_of, rewritten}
use Rattle.part_core.proofs.RowLemmas.{unwritten}
use Rattle.part_core.proofs.StateLemmas.{after_replied, after_refused}
use Rattle.part_rows.specs.declared.put.PutFault.{PutFault}
use Rattle.part_rows.specs.declared.put.PutFault.TheVariants.{Memory, NoObject}
use Rattle.part_rows.specs.Dead.{Keeps, shown_settled}
use Rattle.part_rows.specs.Puts.{fault_of}
use Rattle.part_rows.specs.Shown.{Shown, AreSound, shown_exchanged, shown_with, state_of}
use Rattle.part_engine.specs.Stored.{IsAfter, Leads}
use Rattle.part_engine.specs.declared.stored.StoredPart.{StoredPart}
use Rattle.part_engine.proofs.SweepLemmas.{exchanged}

-- an operation has this answer and leaves this state
abbrev pub Says : Settings → PartState → ℕ → Act → Answer → PartState → Type 0
Says o s n act answer t = (answer ≡ reply_of o s n act) × (t ≡ after o s n act)

-- the rows of a state are sound
pub sound : (o : Settings) (w : Shown) (fixes : List ℕ) (base : ℕ) → IsState o (state_of w fixes base) → AreSound o w
sound o w fixes base state = record { rows = state.rows; each = state.each }

-- ---- operations that read

pub lookup_says : (o : Settings) (w : Shown) (fixes : List ℕ) (base n : ℕ) (k : Datum) (os : List Datum) → IsState o (state_of w fixes base) → os ≡ objects_at w.rows k → Says o (state_of w fixes base) n (Lookup k) (Replied (Objects os)) (state_of w fixes base)
unfolding reply_of
lookup_says o w fixes base n k os state is =
    (ap (λ xs. Replied (Objects xs)) is, sym (read_after o (state_of w fixes base) n (Lookup k) _ state refl refl refl))

pub member_says : (o : Settings) (w : Shown) (fixes : List ℕ) (base n : ℕ) (k : Datum) (b : Bool) → IsState o (state_of w fixes base) → b ≡ is_live (k, objects_at w.rows k) → Says o (state_of w fixes base) n (Member k) (Replied (Flag b)) (state_of w fixes base)
unfolding reply_of
member_says o w fixes base n k b state is =
    (ap (λ x. Replied (Flag x)) is, sym (read_after o (state_of w fixes base) n (Member k) _ state refl refl refl))

pub first_says : (o : Settings) (w : Shown) (fixes : List ℕ) (base n : ℕ) (key : Option Datum) → IsState o (state_of w fixes base) → key ≡ first_live (walk_order o base w.rows) → Says o (state_of w fixes base) n First (Replied (AtKey key)) (state_of w fixes base)
unfolding reply_of
first_says o w fixes base n key state is =
    (ap (λ k. Replied (AtKey k)) is, sym (read_after o (state_of w fixes base) n First _ state refl refl refl))

pub next_says : (o : Settings) (w : Shown) (fixes : List ℕ) (base n : ℕ) (k : Datum) (key : Option Datum) → IsState o (state_of w fixes base) → (is_ordered o.kind || has_row w.rows k) ≡ true → key ≡ first_live (if is_ordered o.kind then following_rows k w.rows else rows_past k (walk_order o base w.rows)) → Says o (state_of w fixes base) n (Next k) (Replied (AtKey key)) (state_of w fixes base)
unfolding reply_of
next_says o w fixes base n k key state there is = (
  by_test (is_ordered o.kind) _
      (λ ordered. rw ordered (ap (λ x. Replied (AtKey x)) (rw ordered at is)))
      (λ plain. let found : has_row w.rows k ≡ true = rw plain at there in rw (plain, found) (ap (λ x. Replied (AtKey x)) (rw plain at is))),
  sym (read_after o (state_of w fixes base) n (Next k) _ state refl refl refl),
)

pub next_refused : (o : Settings) (w : Shown) (fixes : List ℕ) (base n : ℕ) (k : Datum) → (is_ordered o.kind || has_row w.rows k) ≡ false → Says o (state_of w fixes base) n (Next k) (Refused BadKey) (state_of w fixes base)
unfolding reply_of
next_refused o w fixes base n k missing =
    let refused : reply_of o (state_of w fixes base) n (Next k) ≡ Refused BadKey = by_test (is_ordered o.kind) _
    (λ ordered. absurd (of (is_ordered o.kind) ordered missing))
    (λ plain. let none : has_row w.rows k ≡ false = rw plain at missing in rw (plain, none) refl) in
    (sym refused, sym (after_refused o (state_of w fixes base) n (Next k) BadKey refused))
  where
    of : (b : Bool) → b ≡ true → (b || has_row w.rows k) ≡ false → ⊥
    of true h e = cc
    of false h e = cc

-- ---- operations that write at one key

few_at : (k : Datum) (f : List Datum → List Datum) (rows : List Row) → length (rows_at_key k f rows) ≤ length rows
few_at k f rows = omega (arith, length-map {B = Row} rows (λ (r : Row). (r.0, if is_same k r.0 then f r.1 else r.1)))

-- the state that is left after the objects of a key are replaced
exchanged_state : (o : Settings) (w : Shown) (fixes : List ℕ) (base : ℕ) (k : Datum) (f : List Datum → List Datum) → IsState o (state_of w fixes base) → state_of (shown_exchanged k (f (objects_at w.rows k)) (is_fixed fixes) w) fixes base ≡ record { rows = kept_rows fixes (rows_at_key k f w.rows); fixes = fixes; slots = w.slots; base = base }
exchanged_state o w fixes base k f state =
    ap (λ (rows : List Row). record { rows = rows; fixes = fixes; slots = w.slots; base = base })
    (exchanged k (f (objects_at w.rows k)) fixes w.rows state.live ∙ ap (kept_rows fixes) (sym (written_of k f (objects_at w.rows k) w.rows state.rows.distinct refl)))

pub delete_says : (o : Settings) (w : Shown) (fixes : List ℕ) (base n : ℕ) (k : Datum) → IsState o (state_of w fixes base) → Says o (state_of w fixes base) n (Delete k) (Replied Nothing) (state_of (shown_exchanged k [] (is_fixed fixes) w) fixes base)
unfolding reply_of
delete_says o w fixes base n k state = (
  refl,
  exchanged_state o w fixes base k (λ os. []) state
      ∙ sym (after_replied o (state_of w fixes base) n (Delete k) Nothing refl ∙ kept_after o (state_of w fixes base) (rows_at_key k (λ os. []) w.rows) state (few_at k (λ os. []) w.rows)),
)

pub take_says : (o : Settings) (w : Shown) (fixes : List ℕ) (base n : ℕ) (k : Datum) (os : List Datum) → IsState o (state_of w fixes base) → os ≡ objects_at w.rows k → Says o (state_of w fixes base) n (Take k) (Replied (Objects os)) (state_of (shown_exchanged k [] (is_fixed fixes) w) fixes base)
unfolding reply_of
take_says o w fixes base n k os state is = (
  ap (λ xs. Replied (Objects xs)) is,
  exchanged_state o w fixes base k (λ os. []) state
      ∙ sym (after_replied o (state_of w fixes base) n (Take k) (Objects (objects_at w.rows k)) refl ∙ kept_after o (state_of w fixes base) (rows_at_key k (λ os. []) w.rows) state (few_at k (λ os. []) w.rows)),
)

object_reply : (o : Settings) (s : PartState) (n : ℕ) (t k : Datum) → field_of o.keypos t ≡ Some k → reply_of o s n (DeleteObject t) ≡ Replied Nothing
unfolding reply_of
object_reply o s n t k is = let here : is_object o t ≡ true = (object_key o t k is).0 in rw here refl

object_after : (o : Settings) (w : Shown) (fixes : List ℕ) (base n : ℕ) (t k : Datum) → IsState o (state_of w fixes base) → field_of o.keypos t ≡ Some k → after o (state_of w fixes base) n (DeleteObject t) ≡ record { rows = kept_rows fixes (rows_at_key k (objects_without t) w.rows); fixes = fixes; slots = w.slots; base = base }
object_after o w fixes base n t k state is =
    after_replied o (state_of w fixes base) n (DeleteObject t) Nothing (object_reply o (state_of w fixes base) n t k is)
    ∙ kept_after o (state_of w fixes base) (rows_at_key (key_of o t) (objects_without t) w.rows) state (few_at (key_of o t) (objects_without t) w.rows)
    ∙ ap (λ j. record { rows = kept_rows fixes (rows_at_key j (objects_without t) w.rows); fixes = fixes; slots = w.slots; base = base }) (object_key o t k is).1

-- exchanging a key's objects for none and writing the remaining ones afterwards equals one write
pub delete_object_says : (o : Settings) (w : Shown) (fixes : List ℕ) (base n : ℕ) (t k : Datum) → IsState o (state_of w fixes base) → field_of o.keypos t ≡ Some k → Says o (state_of w fixes base) n (DeleteObject t) (Replied Nothing) (state_of (shown_exchanged k (objects_without t (objects_at w.rows k)) (is_fixed fixes) (shown_exchanged k [] true w)) fixes base)
delete_object_says o w fixes base n t k state is = (
  sym (object_reply o (state_of w fixes base) n t k is),
  ap (λ (rows : List Row). record { rows = if is_fixed fixes then rows else filter (λ r. not (is_same k r.0) || is_live r) rows; fixes = fixes; slots = w.slots; base = base }) (rewritten k (λ _. []) (objects_without t (objects_at w.rows k)) w.rows)
      ∙ exchanged_state o w fixes base k (objects_without t) state ∙ sym (object_after o w fixes base n t k state is),
)

-- the answer and the state if the key has no row
pub no_row_says : (o : Settings) (w : Shown) (fixes : List ℕ) (base n : ℕ) (t k : Datum) → IsState o (state_of w fixes base) → field_of o.keypos t ≡ Some k → has_row w.rows k ≡ false → Says o (state_of w fixes base) n (DeleteObject t) (Replied Nothing) (state_of (shown_exchanged k [] true w) fixes base)
no_row_says o w fixes base n t k state is none = (
  sym (object_reply o (state_of w fixes base) n t k is),
  ap (λ (rows : List Row). record { rows = rows; fixes = fixes; slots = w.slots; base = base }) (unwritten k (λ _. []) w.rows none)
      ∙ sym (read_after o (state_of w fixes base) n (DeleteObject t) (Replied Nothing) state (object_reply o (state_of w fixes base) n t k is) (ap (λ j. rows_at_key j (objects_without t) w.rows) (object_key o t k is).1 ∙ unwritten k (objects_without t) w.rows none) refl),
)

pub no_object_says : (o : Settings) (s : PartState) (n : ℕ) (t : Datum) → field_of o.keypos t ≡ None → Says o s n (DeleteObject t) (Refused TooSmall) s
unfolding reply_of
no_object_says o s n t none =
    let no : is_object o t ≡ false = ap is_some none in
    let refused : reply_of o s n (DeleteObject t) ≡ Refused TooSmall = rw no refl in
    (sym refused, sym (after_refused o s n (DeleteObject t) TooSmall refused))

-- ---- insertions

as_before : (w : Shown) (old new : List ℕ) (base now : ℕ) → new ≡ old → now ≡ base → state_of w new now ≡ state_of w old base
as_before w old new base now fixes is = ap (λ xs. state_of w xs now) fixes ∙ ap (state_of w old) is

pub insert_says : (o : Settings) (w : Shown) (fixes : List ℕ) (base n : ℕ) (t : Datum) → IsState o (state_of w fixes base) → is_object o t ≡ true → Says o (state_of w fixes base) n (Insert t) (Replied Nothing) (state_of (shown_with o t w) fixes (if is_fixed fixes then base else (shown_with o t w).slots))
unfolding reply_of
insert_says o w fixes base n t state object =
    let reply : reply_of o (state_of w fixes base) n (Insert t) ≡ Replied Nothing = rw object refl in
    (sym reply, sym (after_replied o (state_of w fixes base) n (Insert t) Nothing reply ∙ put_after o (state_of w fixes base) t state))

pub insert_refused : (o : Settings) (s : PartState) (n : ℕ) (t : Datum) → is_object o t ≡ false → Says o s n (Insert t) (Refused TooSmall) s
unfolding reply_of
insert_refused o s n t wrong =
    let refused : reply_of o s n (Insert t) ≡ Refused TooSmall = rw wrong refl in
    (sym refused, sym (after_refused o s n (Insert t) TooSmall refused))

-- while nothing is fixed the base is the number of slots
settled_base : (o : Settings) (w : Shown) (fixes : List ℕ) (base : ℕ) → IsState o (state_of w fixes base) → (if is_fixed fixes then base else w.slots) ≡ base
settled_base o w fixes base state =
    by_test (is_fixed fixes) _ (λ fixed. rw fixed refl) (λ free. rw free (sym (state.settled free)))

pub insert_new_says : (o : Settings) (w : Shown) (fixes : List ℕ) (base n : ℕ) (t : Datum) (fresh : Bool) → IsState o (state_of w fixes base) → is_object o t ≡ true → fresh ≡ is_empty (objects_at w.rows (key_of o t)) → Says o (state_of w fixes base) n (InsertNew t) (Replied (Flag fresh)) (state_of (if fresh then shown_with o t w else w) fixes (if is_fixed fixes then base else (if fresh then shown_with o t w else w).slots))
unfolding reply_of
insert_new_says o w fixes base n t true state object is =
    let empty : is_empty (objects_at w.rows (key_of o t)) ≡ true = sym is in
    let reply : reply_of o (state_of w fixes base) n (InsertNew t) ≡ Replied (Flag true) = rw (object, empty) refl in (
      sym reply,
      sym (after_replied o (state_of w fixes base) n (InsertNew t) (Flag true) reply ∙ rw empty (put_after o (state_of w fixes base) t state)),
    )
insert_new_says o w fixes base n t false state object is =
    let some : is_empty (objects_at w.rows (key_of o t)) ≡ false = sym is in
    let reply : reply_of o (state_of w fixes base) n (InsertNew t) ≡ Replied (Flag false) = rw (object, some) refl in (
      sym reply,
      ap (λ b. state_of w fixes b) (settled_base o w fixes base state)
          ∙ sym (read_after o (state_of w fixes base) n (InsertNew t) (Replied (Flag false)) state reply (rw some refl) refl),
    )

pub insert_new_refused : (o : Settings) (s : PartState) (n : ℕ) (t : Datum) → is_object o t ≡ false → Says o s n (InsertNew t) (Refused TooSmall) s
unfolding reply_of
insert_new_refused o s n t wrong =
    let refused : reply_of o s n (InsertNew t) ≡ Refused TooSmall = rw wrong refl in
    (sym refused, sym (after_refused o s n (InsertNew t) TooSmall refused))

-- if the rows refuse an insertion, the part refuses it with the same reason, and is as it was
pub put_refused : {R A B : Type 0} (shows : Settings → R → Shown → Type 0) (p q : StoredPart R A) (n : ℕ) (act : Act) (t : Datum) (why : PutFault) (result : Result (Reply B) Fault) → ((s : PartState) → is_object p.settings t ≡ false → Says p.settings s n act (Refused TooSmall) s) → (why ≡ NoObject → is_object p.settings t ≡ false) → ((w : Shown) → Keeps shows p.settings p.rows p.dead w → Keeps shows p.settings q.rows q.dead w) → q.fixes.items ≡ p.fixes.items → q.base ≡ p.base → result ≡ Err (fault_of why) → Leads shows p n act (answer_in result) q
put_refused shows p q n act t Memory result says none kept fixes base is =
    subst (λ r. Leads shows p n act (answer_in r) q) (sym is) (λ w keeps. (w, kept w keeps, as_before w p.fixes.items q.fixes.items p.base q.base fixes base))
put_refused shows p q n act t NoObject result says none kept fixes base is =
    subst (λ r. Leads shows p n act (answer_in r) q) (sym is) (λ w keeps state.
    let s = says (state_of w p.fixes.items p.base) (none refl) in
    (s.0, (w, kept w keeps, as_before w p.fixes.items q.fixes.items p.base q.base fixes base ∙ s.1)))

-- ---- fixes

pub fix_says : (o : Settings) (w : Shown) (fixes : List ℕ) (base n : ℕ) → n < length fixes → get_or fixes n 0 + 1 < 65536 → Says o (state_of w fixes base) n Fix (Replied Nothing) (state_of w (set fixes n (get_or fixes n 0 + 1)) base)
unfolding reply_of
fix_says o w fixes base n within few =
    let below : nat_lt (get_or fixes n 0) 65535 ≡ true = lt-ltb _ _ (omega (arith, few)) in
    let reply : reply_of o (state_of w fixes base) n Fix ≡ Replied Nothing = rw below refl in
    let there : n < length (set fixes n (get_or fixes n 0 + 1)) = omega (arith, within, length-set fixes n (get_or fixes n 0 + 1)) in
    let one : nat_lt 0 (get_or (set fixes n (get_or fixes n 0 + 1)) n 0) ≡ true = rw (get_or-set_same fixes n (get_or fixes n 0 + 1) 0 within) (lt-ltb 0 (get_or fixes n 0 + 1) (omega arith)) in
    let fixed : is_fixed (set fixes n (get_or fixes n 0 + 1)) ≡ true = list_any_at (nat_lt 0) (set fixes n (get_or fixes n 0 + 1)) n 0 there one in (
      sym reply,
      sym (after_replied o (state_of w fixes base) n Fix Nothing reply ∙ counted_after o (state_of w fixes base) (set fixes n (get_or fixes n 0 + 1)) ∙ rw fixed refl),
    )

pub fix_refused : (o : Settings) (w : Shown) (fixes : List ℕ) (base n : ℕ) → (get_or fixes n 0 + 1 < 65536 → ⊥) → Says o (state_of w fixes base) n Fix (Refused FixLimit) (state_of w fixes base)
unfolding reply_of
fix_refused o w fixes base n full =
    let no : nat_lt (get_or fixes n 0) 65535 ≡ false = le-ltb _ _ (omega (arith, full)) in
    let refused : reply_of o (state_of w fixes base) n Fix ≡ Refused FixLimit = rw no refl in
    (sym refused, sym (after_refused o (state_of w fixes base) n Fix FixLimit refused))

-- the state that is left after counts were changed and rows settled
abbrev pub settled_state : Shown → List ℕ → ℕ → PartState
settled_state w counts base =
    state_of (shown_settled counts w) counts (if is_fixed counts then base else w.slots)

settled_is : (w : Shown) (counts : List ℕ) (base : ℕ) → settled_state w counts base ≡ record { rows = if is_fixed counts then w.rows else filter is_live w.rows; fixes = counts; slots = w.slots; base = if is_fixed counts then base else w.slots }
settled_is w counts base = by_test (is_fixed counts) _ (λ fixed. rw fixed refl) (λ free. rw free refl)

pub unfix_says : (o : Settings) (w : Shown) (fixes : List ℕ) (base n : ℕ) → 1 ≤ get_or fixes n 0 → Says o (state_of w fixes base) n Unfix (Replied Nothing) (settled_state w (set fixes n (get_or fixes n 0 - 1)) base)
unfolding reply_of
unfix_says o w fixes base n some =
    let above : nat_lt 0 (get_or fixes n 0) ≡ true = lt-ltb _ _ some in
    let reply : reply_of o (state_of w fixes base) n Unfix ≡ Replied Nothing = rw above refl in (
      sym reply,
      settled_is w (set fixes n (get_or fixes n 0 - 1)) base
          ∙ sym (after_replied o (state_of w fixes base) n Unfix Nothing reply ∙ counted_after o (state_of w fixes base) (set fixes n (get_or fixes n 0 - 1))),
    )

pub unfix_refused : (o : Settings) (w : Shown) (fixes : List ℕ) (base n : ℕ) → (1 ≤ get_or fixes n 0 → ⊥) → Says o (state_of w fixes base) n Unfix (Refused NotFixed) (state_of w fixes base)
unfolding reply_of
unfix_refused o w fixes base n none =
    let empty : get_or fixes n 0 ≡ 0 = omega (arith, none) in
    let refused : reply_of o (state_of w fixes base) n Unfix ≡ Refused NotFixed = rw empty refl in
    (sym refused, sym (after_refused o (state_of w fixes base) n Unfix NotFixed refused))

pub release_says : (o : Settings) (w : Shown) (fixes : List ℕ) (base n : ℕ) → Says o (state_of w fixes base) n Release (Replied Nothing) (settled_state w (set fixes n 0) base)
unfolding reply_of
release_says o w fixes base n = (
  refl,
  settled_is w (set fixes n 0) base
      ∙ sym (after_replied o (state_of w fixes base) n Release Nothing refl ∙ counted_after o (state_of w fixes base) (set fixes n 0)),
)

-- ---- histories

-- an answer continues the history
step : {R A : Type 0} (shows : Settings → R → Shown → Type 0) (p q : StoredPart R A) (n : ℕ) (act : Act) (answer : Answer) (log : History) → StatesAreKept → LegalGoesOn → q.settings ≡ p.settings → n < p.settings.sessions → IsAsked act → Leads shows p n act (Some answer) q → IsAfter shows p log → IsAfter shows q (log ++ (record { session = n; act = act; answer = answer }) ∷ [])
step shows p q n act answer log kept goes settings session asked leads now =
    let was : state_after p.settings log ≡ state_of now.shown p.fixes.items p.base = now.state in
    let state : IsState p.settings (state_of now.shown p.fixes.items p.base) = subst (IsState p.settings) was (kept p.settings log now.legal) in
    let led = leads now.shown now.keeps state in
    let e : Entry = record { session = n; act = act; answer = answer } in
    let legal : IsLegal p.settings (log ++ e ∷ []) = goes p.settings log e now.legal (record { session = session; asked = asked; answer = led.0 ∙ ap (λ s. reply_of p.settings s n act) (sym was) }) in
    let more : state_after p.settings (log ++ e ∷ []) ≡ state_of led.1.0 q.fixes.items q.base = state_more p.settings (opening p.settings) log (e ∷ []) ∙ ap (λ s. after p.settings s n act) was ∙ sym led.1.2 in
    record {
      shown = led.1.0;
      keeps = subst (λ (o : Settings). Keeps shows o q.rows q.dead led.1.0) (sym settings) led.1.1;
      state = subst (λ (o : Settings). state_after o (log ++ e ∷ []) ≡ state_of led.1.0 q.fixes.items q.base) (sym settings) more;
      legal = subst (λ (o : Settings). IsLegal o (log ++ e ∷ [])) (sym settings) legal;
    }

unmoved : {R A : Type 0} (shows : Settings → R → Shown → Type 0) (p q : StoredPart R A) (n : ℕ) (act : Act) (log : History) → q.settings ≡ p.settings → Leads shows p n act None q → IsAfter shows p log → IsAfter shows q (log ++ [])
unmoved shows p q n act log settings leads now =
    let led = leads now.shown now.keeps in
    subst (IsAfter shows q) (sym (append-nil log)) (record {
      shown = led.0;
      keeps = subst (λ (o : Settings). Keeps shows o q.rows q.dead led.0) (sym settings) led.1;
      state = ap (λ o. state_after o log) settings ∙ now.state ∙ sym led.2;
      legal = subst (λ (o : Settings). IsLegal o log) (sym settings) now.legal;
    })

pub goes_on : {R A B : Type 0} (shows : Settings → R → Shown → Type 0) (p q : StoredPart R A) (n : ℕ) (act : Act) (log : History) (result : Result (Reply B) Fault) → StatesAreKept → LegalGoesOn → q.settings ≡ p.settings → n < p.settings.sessions → IsAsked act → Leads shows p n act (answer_in result) q → IsAfter shows p log → IsAfter shows q (log ++ entries_made n act result)
goes_on shows p q n act log (Ok r) kept goes settings session asked leads now =
    step shows p q n act _ log kept goes settings session asked leads now
goes_on shows p q n act log (Err fault.Memory) kept goes settings session asked leads now =
    unmoved shows p q n act log settings leads now
goes_on shows p q n act log (Err fault.TooSmall) kept goes settings session asked leads now =
    step shows p q n act _ log kept goes settings session asked leads now
goes_on shows p q n act log (Err fault.FixLimit) kept goes settings session asked leads now =
    step shows p q n act _ log kept goes settings session asked leads now
goes_on shows p q n act log (Err fault.NotFixed) kept goes settings session asked leads now =
    step shows p q n act _ log kept goes settings session asked leads now
goes_on shows p q n act log (Err fault.BadKey) kept goes settings session asked leads now =
    step shows p q n act _ log kept goes settings session asked leads now
goes_on shows p q n act log (Err fault.CursorOutside) kept goes settings session asked leads now =
    step shows p q n act _ log kept goes settings session asked leads now

pub counts_are : {R A : Type 0} (shows : Settings → R → Shown → Type 0) (p : StoredPart R A) (n : ℕ) (log : History) → FixesAreCounted → n < p.settings.sessions → IsAfter shows p log → get_or p.fixes.items n 0 ≡ fix_count n log
counts_are shows p n log counted within now =
    ap (λ (s : PartState). fixes_of s n) (sym now.state) ∙ counted p.settings log n now.legal within
