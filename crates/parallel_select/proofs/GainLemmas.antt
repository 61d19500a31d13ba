-- Visits of a walk, and what they gain.
use Rattle.std.proofs.Common.{◌≡◌, ◌≢◌, ℕ, ◌+◌, ◌<◌, inl, inr, ap, sym, subst, ◌∙◌, arith, Option, option_map, Some, List, [], ◌++◌, length}
use Rattle.std.specs.Prelude.{get_or, min}
use Rattle.std.proofs.lemmas.List.{append_assoc, append-nil, length-append}
use Rattle.term_core.specs.Datum.{Datum}
use Rattle.part_core.specs.declared.fault.Fault.{Fault}
use Rattle.part_core.specs.declared.fault.Fault.TheVariants as fault
use Rattle.part_core.specs.Acts.{Cursor, Purpose, Said, next_in}
use Rattle.part_core.specs.Acts.Act.{Visit}
use Rattle.part_core.specs.Acts.Answer.{Refused}
use Rattle.part_core.specs.Acts.Purpose.{Answers, Counts, Deletes}
use Rattle.part_core.specs.Acts.Refusal.{TooSmall, FixLimit, NotFixed, BadKey, CursorOutside}
use Rattle.part_core.specs.Acts.Scope.{Named}
use Rattle.part_core.specs.Settings.{part_of}
use Rattle.tables.specs.Options.{settings_of}
use Rattle.term_core.specs.Datum.Datum.{nil}
use Rattle.part_core.specs.Ops.{refusal_of}
use Rattle.part_core.specs.Replies.{most_counted, said_by_visit}
use Rattle.tables.specs.Turns.{Home, Views, Turned, Follows}
use Rattle.walk_core.specs.Goes.{way, whole, IsAt, Visits, Goes, Stops}
use Rattle.walk_core.specs.Goes.Goes.{stays, goes}
use Rattle.walk_core.specs.Moments.{AreLegal}
use Rattle.walk_core.specs.Walk.{Walk, Position, IsWalk, IsPosition, at_key, named_at, next_position, part_at, scope_at, start_of}
use Rattle.walk_core.specs.Walk.Position.{AtNamed, Over}
use Rattle.walk_core.proofs.GoesLemmas.{begins_so_far, goes_position}
use Rattle.walk_core.proofs.TurnLemmas.{turn_visits, turned_drifts, drifts_nowhere, never_outside}
use Rattle.parallel_select.specs.declared.gained.Gained.{Gained}
use Rattle.parallel_select.specs.declared.gained.Gained.TheVariants as gained
use Rattle.parallel_select.specs.Gained.{IsGained, IsCounted, Adds, TakesIn}
use Rattle.parallel_select.specs.Parts.{Visited, Missed, GoesGaining, StopsGaining}
use Rattle.parallel_select.proofs.WalkLemmas.{at_that_key, named_is, named_not_over, next_named}

sum_capped : (limit m n a b : ℕ) → a ≡ min m limit → b ≡ min (a + min n limit) limit → b ≡ min (m + n) limit
sum_capped limit m n a b is_a is_b = omega (arith, is_a, is_b)

takes_told : {A : Type 0} (purpose : Purpose) (found all : List Datum) (next : Option Cursor) (g k : Gained A) → TakesIn (said_by_visit purpose found next) g k → IsGained g all → IsGained k (all ++ found)
takes_told Answers found all next (gained.Answers a) (gained.Answers b) takes is = takes ∙ ap (λ (xs : List Datum). xs ++ found) is
takes_told Answers found all next (gained.Answers a) (gained.Count n) takes is = absurd takes
takes_told Answers found all next (gained.Count m) k takes is = absurd takes
takes_told Counts found all next (gained.Count m) (gained.Count n) takes is =
    sum_capped most_counted (length all) (length found) m n is takes ∙ ap (λ (l : ℕ). min l most_counted) (sym (length-append all found))
takes_told Counts found all next (gained.Count m) (gained.Answers b) takes is = absurd takes
takes_told Counts found all next (gained.Answers a) k takes is = absurd takes
takes_told Deletes found all next (gained.Count m) (gained.Count n) takes is =
    sum_capped most_counted (length all) (length found) m n is takes ∙ ap (λ (l : ℕ). min l most_counted) (sym (length-append all found))
takes_told Deletes found all next (gained.Count m) (gained.Answers b) takes is = absurd takes
takes_told Deletes found all next (gained.Answers a) k takes is = absurd takes

pub counted_too : {A : Type 0} (g : Gained A) (all : List Datum) → IsGained g all → IsCounted g all
counted_too (gained.Answers a) all is = tt
counted_too (gained.Count n) all is = is

-- ---- visit after visit

-- no visit, and nothing gained
pub gains_nothing : {A : Type 0} (h : Home) (w : Walk) (first at : Position) (g : Gained A) (now : Views → Type 0) → first ≡ at → Follows now now (GoesGaining h w first at g g)
gains_nothing h w first at g now same v b =
    (v, b, ([], subst (λ (p : Position). Goes h w whole (way v first []) (way v p [])) same stays, λ earlier is. subst (IsGained g) (sym (append-nil earlier)) is))

-- one more visit
pub gains_once : {A : Type 0} (h : Home) (w : Walk) (first at later : Position) (next : Option Cursor) (before_all g k : Gained A) (before now then : Views → Type 0) → IsAt h w → at ≢ Over → next_position w at next ≡ later → Follows before now (GoesGaining h w first at before_all g) → Follows now then (Visited h (part_at w at) w.purpose w.program (scope_at w at) next g k) → Follows before then (GoesGaining h w first later before_all k)
gains_once h w first at later next before_all g k before now then is_at open_still is_later so_far visit v b =
    let s = so_far v b in
    let t = visit s.0 s.1 in (
      t.0,
      t.1,
      let went = s.2 in
          let said = t.2.0 in
          let made = turn_visits h w whole at went.0 s.0 t.0 said is_at t.2.1 in
          let there : next_position w at (next_in said) ≡ later = ap (next_position w at) t.2.2 ∙ is_later in (
            went.0 ++ made.0,
            goes went.1 open_still (subst (λ (p : Position). Visits h w whole (way s.0 at went.0) (way t.0 p (went.0 ++ made.0))) there made.1),
            λ earlier is. subst (IsGained k) (append_assoc earlier went.0 made.0) (takes_told w.purpose made.0 (earlier ++ went.0) (next_in said) g k (subst (λ (x : Said). TakesIn x g k) made.2 t.2.3) (went.2 earlier is)),
          ),
    )

-- visits, and then one that failed, or whose answers could not be stored
missed : {A : Type 0} (h : Home) (w : Walk) (first at : Position) (before_all g k : Gained A) (f : Fault) (v x u : Views) → IsAt h w → IsWalk w → at ≢ Over → IsPosition w v first → AreLegal h.options x → AreLegal h.options u → GoesGaining h w first at before_all g v x → Missed h (part_at w at) w.purpose w.program (scope_at w at) f g k x u → StopsGaining h w first before_all k v u
missed h w first at before_all g k f v x u is_at walk open_still position legal legal_then so_far (inr m) =
    let went = so_far in
    let said = m.1.0 in
    let made = turn_visits h w whole at went.0 x u said is_at m.1.1 in (
      next_position w at (next_in said),
      went.0 ++ made.0,
      (u, goes went.1 open_still made.1, drifts_nowhere h u legal_then),
      λ earlier is. m.2 (earlier ++ (went.0 ++ made.0)),
    )
missed h w first at before_all g k f v x u is_at walk open_still position legal legal_then so_far (inl m) =
    let went = so_far in
    of f m.0 (goes_position h w whole (way v first []) (way x at went.0) is_at walk position went.1) went.1 (λ earlier is. counted_too k (earlier ++ went.0) (subst (λ (y : Gained _). IsGained y (earlier ++ went.0)) (sym m.1) (went.2 earlier is)))
  where
    Result : Type 0
    Result = (later : Position) × (found : List Datum) × Stops h w whole (way v first []) later found u × Adds before_all k found

    of : (f : Fault) → Turned h (part_at w at) (Visit w.purpose w.program (scope_at w at) most_counted) (option_map Refused (refusal_of f)) x u → IsPosition w x at → {found : List Datum} → Goes h w whole (way v first []) (way x at found) → Adds before_all k found → Result
    of fault.Memory turned there went counted =
        (at, _, (x, went, turned_drifts h (part_at w at) (Visit w.purpose w.program (scope_at w at) most_counted) x u legal turned), counted)
    of fault.TooSmall turned there went counted = absurd (never_outside h w at most_counted x u TooSmall is_at walk open_still there turned)
    of fault.FixLimit turned there went counted = absurd (never_outside h w at most_counted x u FixLimit is_at walk open_still there turned)
    of fault.NotFixed turned there went counted = absurd (never_outside h w at most_counted x u NotFixed is_at walk open_still there turned)
    of fault.BadKey turned there went counted = absurd (never_outside h w at most_counted x u BadKey is_at walk open_still there turned)
    of fault.CursorOutside turned there went counted = absurd (never_outside h w at most_counted x u CursorOutside is_at walk open_still there turned)

pub gains_until : {A : Type 0} (h : Home) (w : Walk) (at : Position) (before_all g k : Gained A) (f : Fault) (before now then : Views → Type 0) → IsAt h w → IsWalk w → at ≢ Over → ((v : Views) → now v → AreLegal h.options v) → ((v : Views) → then v → AreLegal h.options v) → Follows before now (GoesGaining h w (start_of w) at before_all g) → Follows now then (Missed h (part_at w at) w.purpose w.program (scope_at w at) f g k) → Follows before then (StopsGaining h w (start_of w) before_all k)
gains_until h w at before_all g k f before now then is_at walk open_still legal legal_then so_far visit v b =
    let s = so_far v b in
    let t = visit s.0 s.1 in
    (t.0, t.1, missed h w (start_of w) at before_all g k f v s.0 t.0 is_at walk open_still (begins_so_far w v walk).position (legal s.0 s.1) (legal_then t.0 t.1) s.2 t.2)

-- visits, and then no further one: what was gained so far
pub gains_so_far : {A : Type 0} (h : Home) (w : Walk) (first at : Position) (before_all g : Gained A) (before now : Views → Type 0) → ((v : Views) → now v → AreLegal h.options v) → Follows before now (GoesGaining h w first at before_all g) → Follows before now (StopsGaining h w first before_all g)
gains_so_far h w first at before_all g before now legal so_far v b =
    let s = so_far v b in
    let went = s.2 in
    (s.0, s.1, (at, went.0, (s.0, went.1, drifts_nowhere h s.0 (legal s.0 s.1)), λ earlier is. counted_too g (earlier ++ went.0) (went.2 earlier is)))

-- ---- named keys

-- the visit of the next key
pub gains_key : {A : Type 0} (h : Home) (w : Walk) (first : Position) (ks : List Datum) (n part : ℕ) (key : Datum) (before_all g k : Gained A) (before now then : Views → Type 0) → IsAt h w → w.plan ≡ Some ks → n < length ks → get_or ks n nil ≡ key → part_of (settings_of w.options) key ≡ part → Follows before now (GoesGaining h w first (at_key n (length ks)) before_all g) → (next : Option Cursor) × Follows now then (Visited h part w.purpose w.program (Named key) next g k) → Follows before then (GoesGaining h w first (at_key (n + 1) (length ks)) before_all k)
gains_key h w first ks n part key before_all g k before now then is_at plan inside key_is part_is so_far (next, visit) =
    let named : named_at w.plan n ≡ key = named_is w ks n plan ∙ key_is in
    gains_once h w first (AtNamed n) (at_key (n + 1) (length ks)) next before_all g k before now then is_at (named_not_over n) (next_named w ks n next plan)
    (subst (λ (p : Position). Follows before now (GoesGaining h w first p before_all g)) (at_that_key n (length ks) inside) so_far)
    (subst (λ (j : Datum). Follows now then (Visited h (part_of (settings_of w.options) j) w.purpose w.program (Named j) next g k)) (sym named)
    (subst (λ (there : ℕ). Follows now then (Visited h there w.purpose w.program (Named key) next g k)) (sym part_is) visit))

-- the visit of the next key that failed
pub misses_key : {A : Type 0} (h : Home) (w : Walk) (ks : List Datum) (n part : ℕ) (key : Datum) (before_all g k : Gained A) (f : Fault) (before now then : Views → Type 0) → IsAt h w → IsWalk w → w.plan ≡ Some ks → n < length ks → get_or ks n nil ≡ key → part_of (settings_of w.options) key ≡ part → ((v : Views) → now v → AreLegal h.options v) → ((v : Views) → then v → AreLegal h.options v) → Follows before now (GoesGaining h w (start_of w) (at_key n (length ks)) before_all g) → Follows now then (Missed h part w.purpose w.program (Named key) f g k) → Follows before then (StopsGaining h w (start_of w) before_all k)
misses_key h w ks n part key before_all g k f before now then is_at walk plan inside key_is part_is legal legal_then so_far visit =
    let named : named_at w.plan n ≡ key = named_is w ks n plan ∙ key_is in
    gains_until h w (AtNamed n) before_all g k f before now then is_at walk (named_not_over n) legal legal_then
    (subst (λ (p : Position). Follows before now (GoesGaining h w (start_of w) p before_all g)) (at_that_key n (length ks) inside) so_far)
    (subst (λ (j : Datum). Follows now then (Missed h (part_of (settings_of w.options) j) w.purpose w.program (Named j) f g k)) (sym named)
    (subst (λ (there : ℕ). Follows now then (Missed h there w.purpose w.program (Named key) f g k)) (sym part_is) visit))
