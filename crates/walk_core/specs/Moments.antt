-- What the answers of a walk mean: for each key once, what its query answers for the key's objects at one moment.
use Rattle.std.specs.Prelude.{ℕ, ◌≡◌, ◌≢◌, ◌<◌, ◌≤◌, ◌++◌, ◌⊎◌, Bool, IsTrue, All, AllPairs, Contains, Some, None, take, slice_get, map, flat_map, List, [], length}
use Rattle.term_core.specs.Datum.{Datum}
use Rattle.mcode.specs.Answer.{answer_of}
use Rattle.part_core.specs.Acts.{Scope, Said, Entry, History, next_in}
use Rattle.part_core.specs.Acts.Act.{Visit}
use Rattle.part_core.specs.Acts.Answer.{Replied}
use Rattle.part_core.specs.Content.{content}
use Rattle.part_core.specs.Covers.{covers}
use Rattle.part_core.specs.Laws.{IsPlacedAt}
use Rattle.part_core.specs.Legal.{IsLegal}
use Rattle.part_core.specs.Settings.{is_object, key_of, part_of}
use Rattle.part_core.specs.Visits.{yields}
use Rattle.tables.specs.declared.options.Options.{Options}
use Rattle.tables.specs.Options.{settings_of}
use Rattle.tables.specs.Turns.{Views}
use Rattle.walk_core.specs.Walk.{Walk, Position, IsPosition, is_done, is_in_parts}
use Rattle.walk_core.specs.Walk.Position.{Over}

-- what the session saw before a call and after it
pub record Span : Type 0 where
  pub before : Views
  pub after : Views

abbrev pub span : Views → Views → Span
span before after = record { before = before; after = after }

-- an entry is a visit of the walk that was not refused, and covers the key
pub record IsVisit (w : Walk) (k : Datum) (e : Entry) : Type 0 where
  pub scope : Scope
  pub wanted : ℕ
  pub said : Said
  pub made : e ≡ record { session = w.number; act = Visit w.purpose w.program scope wanted; answer = Replied said }
  pub covered : IsTrue (covers (settings_of w.options) scope (next_in said) k)

-- the part of a key
abbrev pub part_of_key : Walk → Datum → ℕ
part_of_key w k = part_of (settings_of w.options) k

-- A moment of a key: the length of its part's history directly before a visit that covers the key. The session made
-- this visit in one of the calls of this walk.
pub record IsMoment (w : Walk) (calls : List Span) (now : Views) (k : Datum) (moment : ℕ) : Type 0 where
  pub call : Span
  pub made : Contains calls call
  pub within : (length (call.before (part_of_key w k)) ≤ moment) × (moment < length (call.after (part_of_key w k)))
  pub entry : Entry
  pub stands : slice_get (now (part_of_key w k)) moment ≡ Some entry
  pub visit : IsVisit w k entry

-- the answers for a key's objects at a moment
abbrev pub answers_at : Walk → Views → Datum → ℕ → List Datum
answers_at w now k moment =
    yields w.purpose w.program (content (settings_of w.options) k (take moment (now (part_of_key w k))))

-- a key, and one moment of its part
pub record Mark : Type 0 where
  pub key : Datum
  pub moment : ℕ

-- the key is that of a mark, or there is a moment at which its objects yield nothing
abbrev pub IsMet : Walk → List Span → Views → List Mark → Datum → Type 0
IsMet w calls now marks k =
    Contains (map (λ m. m.key) marks) k
    ⊎ ((moment : ℕ) × IsMoment w calls now k moment × (answers_at w now k moment ≡ []))

-- There are distinct keys among those that are done, each with one moment. The answers are those for each key's objects
-- at its moment, one key after the other. For every other key that is done there is a moment at which its objects yield
-- nothing.
pub record Gathers (w : Walk) (calls : List Span) (now : Views) (done : Datum → Bool) (answers : List Datum) : Type 0 where
  pub marks : List Mark
  pub apart : AllPairs (λ l m. l.key ≢ m.key) marks
  pub inside : All (λ m. IsTrue (done m.key)) marks
  pub moments : All (λ m. IsMoment w calls now m.key m.moment) marks
  pub sum : answers ≡ flat_map (λ m. answers_at w now m.key m.moment) marks
  pub silent : (k : Datum) → IsTrue (done k) → IsMet w calls now marks k

-- The answers of a walk that ended: they are gathered over all keys of its parts, except keys whose objects, whatever
-- they are, yield nothing.
pub record IsAnswer (w : Walk) (calls : List Span) (now : Views) (answers : List Datum) : Type 0 where
  pub gathers : Gathers w calls now (is_done w Over) answers
  pub all : (k : Datum) → IsTrue (is_in_parts w w.to k)
      → IsTrue (is_done w Over k)
      ⊎ ((t : Datum) → IsTrue (is_object (settings_of w.options) t) → key_of (settings_of w.options) t ≡ k
      → answer_of w.program t ≡ None)

-- A walk so far: what was returned, followed by what is kept, is gathered for the keys that are done, and the walk can
-- go on from its position.
pub record IsSoFar (w : Walk) (calls : List Span) (given : List Datum) (now : Views) (at : Position) (kept : List Datum) : Type 0 where
  pub gathers : Gathers w calls now (is_done w at) (given ++ kept)
  pub position : IsPosition w now at

-- each object that was inserted was inserted at its key's part
abbrev pub ArePlaced : Options → Views → Type 0
ArePlaced o now =
    (part : ℕ) → part < o.parts → All (λ e. IsPlacedAt (settings_of o) part e.act) (now part)

-- more was done at the parts, by any session
abbrev pub IsGrown : Options → Views → Views → Type 0
IsGrown o before after =
    (part : ℕ) → part < o.parts
    → (more : History) × (after part ≡ before part ++ more) × IsLegal (settings_of o) (after part)

-- the histories of the parts are legal
abbrev pub AreLegal : Options → Views → Type 0
AreLegal o now = (part : ℕ) → part < o.parts → IsLegal (settings_of o) (now part)
