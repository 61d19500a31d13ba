-- What holds of every legal history.
use Rattle.std.specs.Prelude.{ℕ, ◌≡◌, ◌≢◌, ◌≤◌, ◌<◌, ◌++◌, ◌⊎◌, IsTrue, IsFalse, Option, Some, None, All, List, [], ◌∷◌}
use Rattle.std.specs.Map.{keys_of}
use Rattle.term_core.specs.Datum.{Datum}
use Rattle.mcode.specs.Program.{Program}
use Rattle.part_core.specs.declared.settings.Settings.{Settings}
use Rattle.part_core.specs.Settings.{is_ordered, key_of, part_of}
use Rattle.part_core.specs.Acts.{Purpose, Cursor, Scope, Act, Said, Entry, History, next_in}
use Rattle.part_core.specs.Acts.Act.{Insert, InsertNew, Visit}
use Rattle.part_core.specs.Acts.Cursor.{Class, Behind}
use Rattle.part_core.specs.Acts.Scope.{Begin, After, Named}
use Rattle.part_core.specs.Acts.Answer.{Replied}
use Rattle.part_core.specs.Rows.{PartState, is_fixed, objects_at, has_row}
use Rattle.part_core.specs.Replies.{fixes_of, said_by_visit, yield_of}
use Rattle.part_core.specs.Visits.{is_beyond, is_inside, next_class, next_of}
use Rattle.part_core.specs.States.{IsState, IsBase}
use Rattle.part_core.specs.Legal.{state_after, IsRight, IsLegal, IsFixedFrom, fix_count}
use Rattle.part_core.specs.Content.{content}
use Rattle.part_core.specs.Covers.{covers}
use Rattle.part_core.specs.Yields.{Yields}

-- the objects of each key in the rows are those that the history wrote
abbrev pub ContentIsThatOfTheRows : Type 0
ContentIsThatOfTheRows =
    (o : Settings) (log : History) (k : Datum) → IsLegal o log
    → objects_at (state_after o log).rows k ≡ content o k log

-- A visit that was not refused could look at its scope. It returns the query's answers for the keys that it covers, on
-- their content before the visit, and where the walk goes on.
pub record IsSaidByVisit (o : Settings) (past : History) (purpose : Purpose) (p : Program) (scope : Scope) (wanted : ℕ) (said : Said) : Type 0 where
  pub inside : IsTrue (is_inside o (state_after o past) scope)
  pub next : next_in said ≡ next_of o (state_after o past) purpose p scope wanted
  pub says : said ≡ said_by_visit purpose (yield_of o (state_after o past) purpose p scope wanted) (next_in said)
  pub yields : Yields o past purpose p (covers o scope (next_in said)) (yield_of o (state_after o past) purpose p scope wanted)

abbrev pub VisitsAnswerTheirCover : Type 0
VisitsAnswerTheirCover =
    (o : Settings) (past : History) (n : ℕ) (purpose : Purpose) (p : Program) (scope : Scope) (wanted : ℕ) (said : Said)
    → IsLegal o (past ++ (record { session = n; act = Visit purpose p scope wanted; answer = Replied said }) ∷ [])
    → IsSaidByVisit o past purpose p scope wanted said

-- Where a walk goes on after a visit that was not refused: nowhere after a named key; at the next class after a class;
-- after a further key after a key. A walk that begins goes on at class 1 by the part's base in a set, and after a key
-- or nowhere in an ordered set.
abbrev pub LeadsTo : Settings → ℕ → Scope → Option Cursor → Type 0
LeadsTo o base (Named k) next = next ≡ None
LeadsTo o base (After (Class other class)) next = (class < other) × (next ≡ next_class other class)
LeadsTo o base (After (Behind j)) next =
    (next ≡ None) ⊎ ((k : Datum) × (next ≡ Some (Behind k)) × IsTrue (is_beyond j k))
LeadsTo o base Begin next =
    (IsFalse (is_ordered o.kind) → next ≡ Some (Class base 1))
    × (IsTrue (is_ordered o.kind) → (next ≡ None) ⊎ ((k : Datum) × (next ≡ Some (Behind k))))

abbrev pub VisitsLead : Type 0
VisitsLead =
    (o : Settings) (past : History) (n : ℕ) (purpose : Purpose) (p : Program) (scope : Scope) (wanted : ℕ) (said : Said)
    → IsLegal o (past ++ (record { session = n; act = Visit purpose p scope wanted; answer = Replied said }) ∷ [])
    → LeadsTo o (state_after o past).base scope (next_in said)

-- where a walk can go on, it can go on later too
abbrev pub CursorsStayInside : Type 0
CursorsStayInside =
    (o : Settings) (past more : History) (scope : Scope) → IsLegal o (past ++ more)
    → IsTrue (is_inside o (state_after o past) scope) → IsTrue (is_inside o (state_after o (past ++ more)) scope)

-- a walk can go on where a visit says that it does
abbrev pub VisitsLeadInside : Type 0
VisitsLeadInside =
    (o : Settings) (past : History) (n : ℕ) (purpose : Purpose) (p : Program) (scope : Scope) (wanted : ℕ) (said : Said) (at : Cursor)
    → IsLegal o (past ++ (record { session = n; act = Visit purpose p scope wanted; answer = Replied said }) ∷ [])
    → next_in said ≡ Some at → IsTrue (is_inside o (state_after o past) (After at))

-- an object that is inserted is inserted at the part of its key
abbrev pub IsPlacedAt : Settings → ℕ → Act → Type 0
IsPlacedAt o part (Insert t) = part_of o (key_of o t) ≡ part
IsPlacedAt o part (InsertNew t) = part_of o (key_of o t) ≡ part
IsPlacedAt o part act = Unit {0}

-- a part at which only objects of its own keys are inserted has no object of another key
abbrev pub NoneElsewhere : Type 0
NoneElsewhere =
    (o : Settings) (part : ℕ) (log : History) (k : Datum) → All (λ e. IsPlacedAt o part e.act) log → part_of o k ≢ part
    → content o k log ≡ []

-- a part that some session fixes is fixed
abbrev pub FixesShow : Type 0
FixesShow =
    (o : Settings) (log : History) (n : ℕ) → IsLegal o log → n < o.sessions → 0 < fix_count n log
    → IsTrue (is_fixed (state_after o log).fixes)

-- A visit of an ordered set that stops before the end covers the key at which it stops, which has a row, live or dead.
abbrev pub VisitsMoveOn : Type 0
VisitsMoveOn =
    (o : Settings) (past : History) (n : ℕ) (purpose : Purpose) (p : Program) (scope : Scope) (wanted : ℕ) (said : Said) (k : Datum)
    → IsLegal o (past ++ (record { session = n; act = Visit purpose p scope wanted; answer = Replied said }) ∷ [])
    → next_in said ≡ Some (Behind k)
    → IsTrue (has_row (state_after o past).rows k) × IsTrue (covers o scope (next_in said) k)

-- the state of a part after a legal history satisfies `IsState`
abbrev pub StatesAreKept : Type 0
StatesAreKept = (o : Settings) (log : History) → IsLegal o log → IsState o (state_after o log)

-- the counts of fixes in the state are those of the history
abbrev pub FixesAreCounted : Type 0
FixesAreCounted =
    (o : Settings) (log : History) (n : ℕ) → IsLegal o log → n < o.sessions
    → fixes_of (state_after o log) n ≡ fix_count n log

-- the base never falls, and is always a number of slots that a set can have
abbrev pub BaseNeverFalls : Type 0
BaseNeverFalls =
    (o : Settings) (past more : History) → IsLegal o (past ++ more)
    → ((state_after o past).base ≤ (state_after o (past ++ more)).base)
    × (IsBase (state_after o past).base × IsBase (state_after o (past ++ more)).base)

-- what stays of a part's rows: the base; each key; and in a set the order of the keys, with new ones after them
pub record Stays (o : Settings) (old new : PartState) : Type 0 where
  pub base : new.base ≡ old.base
  pub rows : (k : Datum) → IsTrue (has_row old.rows k) → IsTrue (has_row new.rows k)
  pub order : IsFalse (is_ordered o.kind)
      → (more : List Datum) × (keys_of new.rows ≡ keys_of old.rows ++ more)

-- as long as some session fixes a part, its rows stay
abbrev pub FixedRowsStay : Type 0
FixedRowsStay =
    (o : Settings) (past more : History) → IsLegal o (past ++ more)
    → IsFixedFrom o (state_after o past) more
    → Stays o (state_after o past) (state_after o (past ++ more))

-- a legal history with a right entry appended is legal
abbrev pub LegalGoesOn : Type 0
LegalGoesOn =
    (o : Settings) (log : History) (e : Entry) → IsLegal o log → IsRight o (state_after o log) e
    → IsLegal o (log ++ e ∷ [])

-- the last entry of a legal history is right
abbrev pub LegalLast : Type 0
LegalLast =
    (o : Settings) (log : History) (e : Entry) → IsLegal o (log ++ e ∷ [])
    → IsRight o (state_after o log) e

-- the beginning of a legal history is legal
abbrev pub LegalFront : Type 0
LegalFront = (o : Settings) (log more : History) → IsLegal o (log ++ more) → IsLegal o log
