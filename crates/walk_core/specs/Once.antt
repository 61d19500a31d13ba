-- What a deleting walk removes, and that a walk covers each key once.
use Rattle.std.specs.Prelude.{ℕ, ◌≡◌, ◌<◌, ◌≤◌, ◌+◌, ◌++◌, ◌⊎◌, Bool, not, IsTrue, IsFalse, All, Contains, Some, slice_get, take, filter, List, [], ◌∷◌, length}
use Rattle.term_core.specs.Datum.{Datum}
use Rattle.mcode.specs.Program.{Program}
use Rattle.part_core.specs.declared.settings.Settings.{Settings}
use Rattle.part_core.specs.Acts.{Purpose, Scope, Said, History, next_in}
use Rattle.part_core.specs.Acts.Act.{Visit}
use Rattle.part_core.specs.Acts.Answer.{Replied}
use Rattle.part_core.specs.Acts.Purpose.{Deletes}
use Rattle.part_core.specs.Content.{content}
use Rattle.part_core.specs.Covers.{covers}
use Rattle.part_core.specs.Visits.{is_true}
use Rattle.tables.specs.Options.{settings_of}
use Rattle.tables.specs.Turns.{Home, Views}
use Rattle.walk_core.specs.Walk.{Walk, Position, IsWalk, IsPosition, is_done, start_of}
use Rattle.walk_core.specs.Goes.{Way, IsAt, Goes, Stops}
use Rattle.walk_core.specs.Moments.{Span, span, IsVisit, IsMoment, Gathers, IsGrown, AreLegal, answers_at, part_of_key}

-- The visit at a key's moment, in a walk that deletes, removes from the key's content exactly the objects for which the
-- query returns true.
abbrev pub DeletionsAreTheMarks : Type 0
DeletionsAreTheMarks =
    (w : Walk) (calls : List Span) (now : Views) (k : Datum) (moment : ℕ)
    → w.purpose ≡ Deletes → IsMoment w calls now k moment
    → content (settings_of w.options) k (take (moment + 1) (now (part_of_key w k)))
    ≡ filter (λ t. not (is_true w.program t)) (content (settings_of w.options) k (take moment (now (part_of_key w k))))

-- A visit removes nothing from the content of a key that it doesn't cover, and one that doesn't delete removes nothing from any.
abbrev pub OtherVisitsTakeNothing : Type 0
OtherVisitsTakeNothing =
    (o : Settings) (past : History) (n : ℕ) (purpose : Purpose) (p : Program) (scope : Scope) (wanted : ℕ) (said : Said) (k : Datum)
    → (purpose ≡ Deletes → IsFalse (covers o scope (next_in said) k))
    → content o k (past ++ (record { session = n; act = Visit purpose p scope wanted; answer = Replied said }) ∷ [])
    ≡ content o k past

-- Each key is covered at no more than one moment of the walk, and a key that was covered is done. What was seen after
-- each call is still seen.
pub record IsOnce (w : Walk) (calls : List Span) (now : Views) (done : Datum → Bool) : Type 0 where
  pub seen : (call : Span) → Contains calls call
      → (part : ℕ) → part < w.options.parts → length (call.after part) ≤ length (now part)
  pub covered : (k : Datum) (moment : ℕ) → IsMoment w calls now k moment → IsTrue (done k)
  pub once : (k : Datum) (m n : ℕ) → IsMoment w calls now k m → IsMoment w calls now k n → m ≡ n

-- a walk that begins has covered nothing
abbrev pub WalksBeginOnce : Type 0
WalksBeginOnce = (w : Walk) (now : Views) → IsOnce w [] now (is_done w (start_of w))

-- visits cover no key a second time
abbrev pub WalksCoverOnce : Type 0
WalksCoverOnce =
    (h : Home) (w : Walk) (wanted : ℕ → ℕ) (calls : List Span) (a b : Way)
    → IsAt h w → IsWalk w → AreLegal w.options a.views → IsPosition w a.views a.at
    → IsOnce w calls a.views (is_done w a.at) → Goes h w wanted a b
    → IsOnce w (calls ++ span a.views b.views ∷ []) b.views (is_done w b.at)

-- visits cover no key a second time also if the one after them ran out of memory
abbrev pub StopsCoverOnce : Type 0
StopsCoverOnce =
    (h : Home) (w : Walk) (wanted : ℕ → ℕ) (calls : List Span) (a : Way) (at : Position) (gained : List Datum) (now : Views)
    → IsAt h w → IsWalk w → AreLegal w.options a.views → IsPosition w a.views a.at
    → IsOnce w calls a.views (is_done w a.at) → Stops h w wanted a at gained now
    → IsOnce w (calls ++ span a.views now ∷ []) now (is_done w at)

-- what other sessions do, and other calls of the session, covers no key a second time
abbrev pub OnceOutlastsOthers : Type 0
OnceOutlastsOthers =
    (w : Walk) (calls : List Span) (now later : Views) (done : Datum → Bool)
    → IsWalk w → IsGrown w.options now later → IsOnce w calls now done → IsOnce w calls later done

-- At each moment of a walk, either the answers for the key's objects are gathered, or there are none.
abbrev pub MomentsAreTheMarks : Type 0
MomentsAreTheMarks =
    (w : Walk) (calls : List Span) (now : Views) (done : Datum → Bool) (answers : List Datum)
    → (g : Gathers w calls now done answers) → IsOnce w calls now done
    → (k : Datum) (moment : ℕ) → IsMoment w calls now k moment
    → Contains g.marks (record { key = k; moment = moment }) ⊎ (answers_at w now k moment ≡ [])

-- a visit of the walk at a key's part, whether or not it covers the key
pub record IsVisitAt (w : Walk) (calls : List Span) (now : Views) (k : Datum) (place : ℕ) : Type 0 where
  pub call : Span
  pub made : Contains calls call
  pub within : (length (call.before (part_of_key w k)) ≤ place) × (place < length (call.after (part_of_key w k)))
  pub scope : Scope
  pub wanted : ℕ
  pub said : Said
  pub stands : slice_get (now (part_of_key w k)) place
      ≡ Some (record { session = w.number; act = Visit w.purpose w.program scope wanted; answer = Replied said })

-- the objects of a key after the first `count` entries of its part
abbrev pub content_at : Walk → Views → Datum → ℕ → List Datum
content_at w now k count = content (settings_of w.options) k (take count (now (part_of_key w k)))

-- For each visit of a deleting walk and each key of its part: either the visit is the key's moment among those that are
-- gathered, and removes the objects for which the query returns true, which are the key's answers; or it removes
-- nothing.
abbrev pub DeletingWalksTakeTheMarks : Type 0
DeletingWalksTakeTheMarks =
    (w : Walk) (calls : List Span) (now : Views) (done : Datum → Bool) (answers : List Datum)
    → w.purpose ≡ Deletes → (g : Gathers w calls now done answers) → IsOnce w calls now done
    → (k : Datum) (place : ℕ) → IsVisitAt w calls now k place
    → (Contains g.marks (record { key = k; moment = place })
    × (content_at w now k (place + 1) ≡ filter (λ t. not (is_true w.program t)) (content_at w now k place))
    × (answers_at w now k place ≡ filter (is_true w.program) (content_at w now k place)))
    ⊎ (content_at w now k (place + 1) ≡ content_at w now k place)

-- The histories grew by entries of other sessions, and entries of the session that are no visits of the walk.
abbrev pub IsQuiet : Walk → Views → Views → Type 0
IsQuiet w before after =
    (part : ℕ) → part < w.options.parts
    → (more : History) × (after part ≡ before part ++ more) × ((k : Datum) → All (λ e. IsVisit w k e → ⊥) more)

-- a call that does more than the visits, before and after them, covers each key once too
abbrev pub WiderCallsCoverOnce : Type 0
WiderCallsCoverOnce =
    (w : Walk) (calls : List Span) (first before after last : Views) (done : Datum → Bool)
    → IsWalk w → IsQuiet w first before → IsGrown w.options before after → IsQuiet w after last
    → IsOnce w (calls ++ span before after ∷ []) after done → IsOnce w (calls ++ span first last ∷ []) last done
