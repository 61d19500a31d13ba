-- What follows for objects: one that stayed is answered once, every answer has an object, and a set has one answer per key.
use Rattle.std.specs.Prelude.{ℕ, ◌≡◌, ◌≢◌, ◌≤◌, ◌++◌, if◌then◌else◌, Bool, IsTrue, All, Contains, Option, Some, None, filter, flat_map, List, length}
use Rattle.term_core.specs.Datum.{Datum}
use Rattle.term_operand.specs.Order.{is_same}
use Rattle.mcode.specs.Answer.{answer_of}
use Rattle.mcode.specs.Program.{Program}
use Rattle.part_core.specs.Acts.{Purpose}
use Rattle.part_core.specs.Acts.Purpose.{Answers, Counts, Deletes}
use Rattle.part_core.specs.Settings.{is_object, is_set, key_of}
use Rattle.part_core.specs.Visits.{is_true}
use Rattle.tables.specs.Options.{settings_of}
use Rattle.tables.specs.Turns.{Views}
use Rattle.walk_core.specs.Walk.{Walk, IsWalk, is_in_parts}
use Rattle.walk_core.specs.Moments.{Span, IsMoment, Mark, Gathers, IsAnswer, AreLegal, answers_at}
use Rattle.walk_core.specs.Once.{content_at}

-- what a walk gives for one object: the query's answer, or the object itself if it is counted or deleted
abbrev pub given_for : Purpose → Program → Datum → Option Datum
given_for Answers p t = answer_of p t
given_for Counts p t = if is_true p t then Some t else None
given_for Deletes p t = if is_true p t then Some t else None

-- how many times an object occurs in a list
abbrev pub times : Datum → List Datum → ℕ
times t ts = length (filter (is_same t) ts)

-- An object is answered once: among the answers for its key's objects at one moment, at which it was there, at least as
-- many times as it occurred there. The answers before and after these are those of other keys.
pub record IsAnsweredOnce (w : Walk) (calls : List Span) (now : Views) (answers : List Datum) (t a : Datum) : Type 0 where
  pub moment : ℕ
  pub made : IsMoment w calls now (key_of (settings_of w.options) t) moment
  pub there : Contains (content_at w now (key_of (settings_of w.options) t) moment) t
  pub given : Contains (answers_at w now (key_of (settings_of w.options) t) moment) a
  pub each : times t (content_at w now (key_of (settings_of w.options) t) moment)
      ≤ times a (answers_at w now (key_of (settings_of w.options) t) moment)
  pub front : List Mark
  pub rest : List Mark
  pub before : All (λ m. m.key ≢ key_of (settings_of w.options) t) front
  pub behind : All (λ m. m.key ≢ key_of (settings_of w.options) t) rest
  pub sum : answers
      ≡ flat_map (λ m. answers_at w now m.key m.moment) front
      ++ (answers_at w now (key_of (settings_of w.options) t) moment
      ++ flat_map (λ m. answers_at w now m.key m.moment) rest)

-- An object of the walk's parts that matched, and was there at each moment of its key, is answered once.
abbrev pub WhoStayedIsAnswered : Type 0
WhoStayedIsAnswered =
    (w : Walk) (calls : List Span) (now : Views) (answers : List Datum) (t a : Datum)
    → IsAnswer w calls now answers
    → IsTrue (is_object (settings_of w.options) t) → IsTrue (is_in_parts w w.to (key_of (settings_of w.options) t))
    → given_for w.purpose w.program t ≡ Some a
    → ((moment : ℕ) → IsMoment w calls now (key_of (settings_of w.options) t) moment
    → Contains (content_at w now (key_of (settings_of w.options) t) moment) t)
    → IsAnsweredOnce w calls now answers t a

-- an answer is what is given for an object that was there at a moment of the walk
pub record IsAnsweredFor (w : Walk) (calls : List Span) (now : Views) (a : Datum) : Type 0 where
  pub object : Datum
  pub key : Datum
  pub moment : ℕ
  pub made : IsMoment w calls now key moment
  pub there : Contains (content_at w now key moment) object
  pub given : given_for w.purpose w.program object ≡ Some a

-- there is no answer for an object that was never there
abbrev pub NothingIsInvented : Type 0
NothingIsInvented =
    (w : Walk) (calls : List Span) (now : Views) (done : Datum → Bool) (answers : List Datum) (a : Datum)
    → Gathers w calls now done answers → Contains answers a → IsAnsweredFor w calls now a

-- the content of a key consists of objects with this key, in a set at most one
pub record IsContentOf (w : Walk) (k : Datum) (ts : List Datum) : Type 0 where
  pub objects : All (λ t. IsTrue (is_object (settings_of w.options) t) × (key_of (settings_of w.options) t ≡ k)) ts
  pub single : IsTrue (is_set w.options.kind) → length ts ≤ 1

abbrev pub ContentsHaveTheirKey : Type 0
ContentsHaveTheirKey =
    (w : Walk) (now : Views) (k : Datum) (count : ℕ) → IsWalk w → AreLegal w.options now
    → IsContentOf w k (content_at w now k count)

-- A set gives at most one answer for a key at a moment, also if the key was deleted and inserted again.
abbrev pub OneAnswerAKey : Type 0
OneAnswerAKey =
    (w : Walk) (now : Views) (k : Datum) (moment : ℕ)
    → IsTrue (is_set w.options.kind) → IsWalk w → AreLegal w.options now → length (answers_at w now k moment) ≤ 1
