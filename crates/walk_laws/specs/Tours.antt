-- A tour of a table: its first key, then the key after each one that was returned, up to the end. (STDLIB Reference
-- Manual, ets:first/1 and ets:next/2.)
use Rattle.std.specs.Prelude.{ℕ, ◌≡◌, ◌≢◌, ◌<◌, ◌≤◌, ◌++◌, Contains, IsTrue, IsFalse, Option, Some, None, take, slice_get, List, [], ◌∷◌, length}
use Rattle.term_core.specs.Datum.{Datum}
use Rattle.part_core.specs.Acts.{Entry}
use Rattle.part_core.specs.Content.{content}
use Rattle.part_core.specs.Legal.{fix_count}
use Rattle.part_core.specs.Settings.{is_ordered, part_of}
use Rattle.tables.specs.Options.{settings_of}
use Rattle.tables.specs.Turns.{Home, Views}
use Rattle.walk_core.specs.Moments.{Span, span, IsGrown, ArePlaced}
use Rattle.walks.specs.Keys.{FoundFirst, FoundNext}

-- A tour so far: what the session saw before and after each of its calls, and what it sees now; the keys that were
-- returned, and the last result, none at the end.
pub record Tour : Type 0 where
  pub calls : List Span
  pub keys : List Datum
  pub views : Views
  pub last : Option Datum

-- the key that was returned, if there is one
abbrev pub answered : Option Datum → List Datum
answered None = []
answered (Some k) = k ∷ []

-- the tour after its first call, which requests the first key
pub record Begins (h : Home) (t : Tour) : Type 0 where
  pub before : Views
  pub found : FoundFirst h 0 t.last before t.views
  pub calls : t.calls ≡ span before t.views ∷ []
  pub keys : t.keys ≡ answered t.last

-- A tour after one more call, which requests the key after the last one. Between the calls, other sessions and the
-- session itself may have done anything that they can do.
pub record GoesOn (h : Home) (s t : Tour) : Type 0 where
  pub key : Datum
  pub asked : s.last ≡ Some key
  pub before : Views
  pub meanwhile : IsGrown h.options s.views before
  pub found : FoundNext h key t.last before t.views
  pub calls : t.calls ≡ s.calls ++ span before t.views ∷ []
  pub keys : t.keys ≡ s.keys ++ answered t.last

-- a first call, and then any number of further ones
pub data IsTour (h : Home) : Tour → Type 0 where
  begins : {t : Tour} → Begins h t → IsTour h t
  goes_on : {s t : Tour} → IsTour h s → GoesOn h s t → IsTour h t

-- A turn of a tour at a part: the length of the part's history directly before an entry that the session made there in
-- one of the tour's calls.
pub record IsTurn (h : Home) (calls : List Span) (now : Views) (part moment : ℕ) : Type 0 where
  pub call : Span
  pub made : Contains calls call
  pub within : (length (call.before part) ≤ moment) × (moment < length (call.after part))
  pub entry : Entry
  pub stands : slice_get (now part) moment ≡ Some entry
  pub own : entry.session ≡ h.number

-- in each part, the session fixes the table at each of the tour's turns and between them
abbrev pub IsFixedAtTurns : Home → List Span → Views → Type 0
IsFixedAtTurns h calls now =
    (part first moment last : ℕ) → part < h.options.parts
    → IsTurn h calls now part first → IsTurn h calls now part last → first ≤ moment → moment ≤ last
    → 0 < fix_count h.number (take moment (now part))

-- What keeps the order of a tour. A table has a part, an ordered set no other, and the session is one of its sessions.
-- If the table isn't ordered, each object that was inserted was inserted at its key's part, and the session fixes the
-- table.
pub record IsSteady (h : Home) (calls : List Span) (now : Views) : Type 0 where
  pub parts : 0 < h.options.parts
  pub whole : IsTrue (is_ordered h.options.kind) → h.options.parts ≡ 1
  pub number : h.number < h.options.sessions
  pub placed : IsFalse (is_ordered h.options.kind) → ArePlaced h.options now
  pub fixed : IsFalse (is_ordered h.options.kind) → IsFixedAtTurns h calls now

-- the objects of a key at a moment of its part
abbrev pub objects_then : Home → Views → Datum → ℕ → List Datum
objects_then h now k moment =
    content (settings_of h.options) k (take moment (now (part_of (settings_of h.options) k)))

-- the key had objects at each of the tour's turns at its part
abbrev pub Stayed : Home → List Span → Views → Datum → Type 0
Stayed h calls now k =
    (moment : ℕ) → IsTurn h calls now (part_of (settings_of h.options) k) moment → objects_then h now k moment ≢ []
