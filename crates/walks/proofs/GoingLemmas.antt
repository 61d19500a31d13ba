-- Visits one after the other, in terms of what the session sees.
use Rattle.std.proofs.Common.{arith, ◌≡◌, ◌≢◌, ℕ, ◌<◌, refl, sym, ◌∙◌, option_map, Option, Some, None, List, is_some}
use Rattle.std.specs.Prelude.{IsTrue, IsFalse, unwrap_or}
use Rattle.std.proofs.lemmas.Bool.{true≢false}
use Rattle.term_core.specs.Datum.{Datum}
use Rattle.term_core.specs.Datum.Datum.{nil}
use Rattle.mcode.specs.Answer.{answer_of}
use Rattle.mcode.specs.Machine.{field_of}
use Rattle.mcode.specs.Program.{Program}
use Rattle.part_core.specs.Settings.{is_object, is_ordered, key_of}
use Rattle.tables.specs.Options.{settings_of}
use Rattle.part_core.specs.declared.fault.Fault.{Fault}
use Rattle.part_core.specs.declared.fault.Fault.TheVariants as fault
use Rattle.part_core.specs.Acts.{Act, Purpose}
use Rattle.part_core.specs.Acts.Act.{Visit}
use Rattle.part_core.specs.Acts.Answer.{Refused}
use Rattle.part_core.specs.Acts.Refusal.{TooSmall, FixLimit, NotFixed, BadKey, CursorOutside}
use Rattle.part_core.specs.Ops.{refusal_of}
use Rattle.tables.specs.Turns.{Home, Views, Turned, Follows}
use Rattle.walk_core.specs.Goes.{way, IsAt, Visits, Goes, Stops}
use Rattle.walk_core.specs.Goes.Goes.{stays, goes}
use Rattle.walk_core.specs.Moments.{AreLegal}
use Rattle.walk_core.specs.Walk.{Walk, Position, IsPlan, IsWalk, IsPosition, is_all, is_in_parts, part_at, scope_at}
use Rattle.walk_core.specs.Walk.Position.{Over}
use Rattle.walk_core.proofs.GoesLemmas.{goes_position}
use Rattle.walk_query.specs.declared.query.Query.{Query}
use Rattle.walk_query.specs.Plan.{AreVisited}
use Rattle.walks.specs.Query.{plan_of, walk_of}
use Rattle.walk_core.proofs.TurnLemmas.{turned_drifts, never_outside}

-- a walk in terms of what the session sees: visits from where it began to where it is
abbrev pub GoesBy : (h : Home) (w : Walk) (wanted : ℕ → ℕ) (at : Position) (gained : List Datum) (later : Position) (more : List Datum) → Views → Views → Type 0
GoesBy h w wanted at gained later more v u = Goes h w wanted (way v at gained) (way u later more)

pub goes_nowhere : (h : Home) (w : Walk) (wanted : ℕ → ℕ) (at : Position) (gained : List Datum) (now : Views → Type 0) → Follows now now (GoesBy h w wanted at gained at gained)
goes_nowhere h w wanted at gained now v b = (v, b, stays)

-- one more visit
pub goes_once : (h : Home) (w : Walk) (wanted : ℕ → ℕ) (first at later : Position) (begun gained more : List Datum) (before now then : Views → Type 0) → at ≢ Over → Follows before now (GoesBy h w wanted first begun at gained) → Follows now then (λ v u. Visits h w wanted (way v at gained) (way u later more)) → Follows before then (GoesBy h w wanted first begun later more)
goes_once h w wanted first at later begun gained more before now then open_still so_far visit v b =
    let s = so_far v b in
    let t = visit s.0 s.1 in
    (t.0, t.1, goes s.2 open_still t.2)

-- visits, and then one that ran out of memory
pub stops_refused : (h : Home) (w : Walk) (wanted : ℕ → ℕ) (first at : Position) (begun gained : List Datum) (before now then : Views → Type 0) (part : ℕ) (act : Act) → ((v : Views) → now v → AreLegal h.options v) → Follows before now (GoesBy h w wanted first begun at gained) → Follows now then (Turned h part act None) → Follows before then (λ v u. Stops h w wanted (way v first begun) at gained u)
stops_refused h w wanted first at begun gained before now then part act legal so_far turned v b =
    let s = so_far v b in
    let t = turned s.0 s.1 in
    (t.0, t.1, (s.0, s.2, turned_drifts h part act s.0 t.0 (legal s.0 s.1) t.2))

-- if a walk can go on from where it begins, its visits can only run out of memory
pub no_stranger : (h : Home) (w : Walk) (wanted : ℕ → ℕ) (first at : Position) (begun gained : List Datum) (before now then : Views → Type 0) (n : ℕ) (f : Fault) → IsAt h w → IsWalk w → at ≢ Over → f ≢ fault.Memory → Follows before now (GoesBy h w wanted first begun at gained) → Follows now then (Turned h (part_at w at) (Visit w.purpose w.program (scope_at w at) n) (option_map Refused (refusal_of f))) → (v : Views) → before v → IsPosition w v first → ⊥
no_stranger h w wanted first at begun gained before now then n f is_at walk open_still other so_far turned v b position =
    let s = so_far v b in
    let t = turned s.0 s.1 in
    let there = goes_position h w wanted (way v first begun) (way s.0 at gained) is_at walk position s.2 in
    of f other t.0 t.2 s.0 there
  where
    of : (f : Fault) → f ≢ fault.Memory → (u : Views) → {x : Views} → Turned h (part_at w at) (Visit w.purpose w.program (scope_at w at) n) (option_map Refused (refusal_of f)) x u → (y : Views) → IsPosition w x at → ⊥
    of fault.Memory other u t y there = absurd (other refl)
    of fault.TooSmall other u t y there = never_outside h w at n _ u TooSmall is_at walk open_still there t
    of fault.FixLimit other u t y there = never_outside h w at n _ u FixLimit is_at walk open_still there t
    of fault.NotFixed other u t y there = never_outside h w at n _ u NotFixed is_at walk open_still there t
    of fault.BadKey other u t y there = never_outside h w at n _ u BadKey is_at walk open_still there t
    of fault.CursorOutside other u t y there = never_outside h w at n _ u CursorOutside is_at walk open_still there t

-- ---- the walk of a query

plan_differs : (p : Program) (keypos : ℕ) (plan : Option (List Datum)) → AreVisited p keypos plan → IsPlan plan
plan_differs p keypos None visited = tt
plan_differs p keypos (Some ks) visited = visited.0

there_is : (found : Option Datum) → IsTrue (is_some found) → found ≡ Some (unwrap_or found nil)
there_is None some = absurd (true≢false (sym some))
there_is (Some k) some = refl

-- for an object that the walk skips, the code has no answer
plan_silent : (w : Walk) (plan : Option (List Datum)) (t : Datum) → AreVisited w.program w.options.keypos plan → IsTrue (is_object (settings_of w.options) t) → IsTrue (is_in_parts w w.to (key_of (settings_of w.options) t)) → IsFalse (is_all w plan (key_of (settings_of w.options) t)) → answer_of w.program t ≡ None
plan_silent w None t visited object inside other = absurd (true≢false (sym inside ∙ other))
plan_silent w (Some ks) t visited object inside other =
    visited.1 t (key_of (settings_of w.options) t) (there_is (field_of w.options.keypos t) object) other

-- a query makes a walk of a session
pub is_walk : {A : Type 0} (h : Home) (purpose : Purpose) (q : Query A) → (0 < h.options.parts) × (h.number < h.options.sessions) → IsWalk (walk_of h purpose q)
is_walk h purpose q fits = record {
  parts = (fits.0, omega arith);
  number = fits.1;
  plan = plan_differs q.code h.options.keypos (plan_of q h.options) (q.kept h.options.keypos (is_ordered h.options.kind));
  silent = λ t object inside other. plan_silent (walk_of h purpose q) (plan_of q h.options) t (q.kept h.options.keypos (is_ordered h.options.kind)) object inside other;
}
