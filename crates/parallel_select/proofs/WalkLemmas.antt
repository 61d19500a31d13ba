-- The walk of one part.
use Rattle.std.proofs.Common.{◌≡◌, ◌≢◌, ℕ, ◌+◌, ◌<◌, refl, ap, sym, ◌∙◌, arith, Option, option_map, Some, None, List, length, is_some}
use Rattle.std.specs.Prelude.{Bool, true, false, IsTrue, IsFalse, ◌&&◌, if◌then◌else◌, filter, get_or, nat_le, nat_lt, unwrap_or}
use Rattle.std.proofs.lemmas.Bool.{true≢false, and_parts, eq-eqb, ltb-true, lt-ltb, le-ltb, leb-true}
use Rattle.term_core.specs.Datum.{Datum}
use Rattle.term_core.specs.Datum.Datum.{nil}
use Rattle.mcode.specs.Answer.{answer_of}
use Rattle.mcode.specs.Machine.{field_of}
use Rattle.part_core.specs.Acts.{Cursor, Purpose}
use Rattle.part_core.specs.Settings.{is_object, is_ordered, key_of, part_of}
use Rattle.tables.specs.declared.options.Options.{Options}
use Rattle.tables.specs.Options.{settings_of}
use Rattle.tables.specs.Turns.{Home}
use Rattle.walk_core.specs.Walk.{Walk, IsPlan, IsWalk, is_all, is_in_parts, at_key, named_at, next_position, start_of}
use Rattle.walk_core.specs.Walk.Position.{InPart, AtNamed, Over}
use Rattle.walk_query.specs.declared.query.Query.{Query}
use Rattle.walk_query.specs.Plan.{AreVisited}
use Rattle.walks.specs.Query.{plan_of}
use Rattle.parallel_select.specs.Parts.{part_walk, plan_in, stands_in}
use Rattle.parallel_select.proofs.KeyLemmas.{distinct_filter, unnamed}

there_is : (found : Option Datum) → IsTrue (is_some found) → found ≡ Some (unwrap_or found nil)
there_is None some = absurd (true≢false (sym some))
there_is (Some k) some = refl

plan_differs : (p : Datum → Bool) (w : Walk) (plan : Option (List Datum)) → AreVisited w.program w.options.keypos plan → IsPlan (option_map (filter p) plan)
plan_differs p w None visited = tt
plan_differs p w (Some ks) visited = distinct_filter p ks visited.0

-- a key of the walk's parts is in its one part
pub in_part : (options : Options) (part : ℕ) (k : Datum) → (nat_le part (part_of (settings_of options) k) && nat_lt (part_of (settings_of options) k) (part + 1)) ≡ true → stands_in options part k ≡ true
in_part options part k inside =
    let two = and_parts (nat_le part (part_of (settings_of options) k)) (nat_lt (part_of (settings_of options) k) (part + 1)) inside in
    let low = leb-true part (part_of (settings_of options) k) two.0 in
    let high = ltb-true (part_of (settings_of options) k) (part + 1) two.1 in
    eq-eqb (part_of (settings_of options) k) part (omega (arith, low, high))

plan_silent : {A : Type 0} (h : Home) (purpose : Purpose) (q : Query A) (part : ℕ) (plan : Option (List Datum)) (t : Datum) → AreVisited q.code h.options.keypos plan → IsTrue (is_object (settings_of h.options) t) → IsTrue (is_in_parts (part_walk h purpose q part) (part + 1) (key_of (settings_of h.options) t)) → IsFalse (is_all (part_walk h purpose q part) (plan_in h.options part plan) (key_of (settings_of h.options) t)) → answer_of q.code t ≡ None
plan_silent h purpose q part None t visited object inside other = absurd (true≢false (sym inside ∙ other))
plan_silent h purpose q part (Some ks) t visited object inside other =
    let k = key_of (settings_of h.options) t in
    visited.1 t k (there_is (field_of h.options.keypos t) object) (unnamed (stands_in h.options part) k ks (in_part h.options part k inside) other)

-- the walk of one part is a walk of the session
pub part_is_walk : {A : Type 0} (h : Home) (purpose : Purpose) (q : Query A) (part : ℕ) → (0 < h.options.parts) × (h.number < h.options.sessions) → part < h.options.parts → IsWalk (part_walk h purpose q part)
part_is_walk h purpose q part fits inside =
    let kept = q.kept h.options.keypos (is_ordered h.options.kind) in
    record {
      parts = (fits.0, omega (arith, inside));
      number = fits.1;
      plan = plan_differs (stands_in h.options part) (part_walk h purpose q part) (plan_of q h.options) kept;
      silent = λ t object within other. plan_silent h purpose q part (plan_of q h.options) t kept object within other;
    }

-- ---- without named keys

pub starts_there : (w : Walk) (part : ℕ) → w.plan ≡ None → w.from ≡ part → w.to ≡ part + 1 → start_of w ≡ InPart part None
starts_there w part plan from to =
    rw (plan, from, to) (ap (λ (b : Bool). if b then InPart part None else Over) (lt-ltb part (part + 1) (omega arith)))

pub unnamed_plan : (options : Options) (part : ℕ) (plan : Option (List Datum)) → plan ≡ None → plan_in options part plan ≡ None
unnamed_plan options part plan none = ap (plan_in options part) none

-- after its one part a walk is at its end
pub ends_there : (w : Walk) (part : ℕ) (cursor next : Option Cursor) → w.to ≡ part + 1 → next ≡ None → next_position w (InPart part cursor) next ≡ Over
ends_there w part cursor next to none =
    rw (none, to) (ap (λ (b : Bool). if b then InPart (part + 1) None else Over) (le-ltb (part + 1) (part + 1) (omega arith)))

some_is : (next : Option Cursor) → is_some next ≡ true → (cursor : Cursor) × (next ≡ Some cursor)
some_is None some = absurd (true≢false (sym some))
some_is (Some cursor) some = (cursor, refl)

-- if its part goes on, the walk is in the part
pub goes_on_there : (w : Walk) (part : ℕ) (cursor next : Option Cursor) → is_some next ≡ true → next_position w (InPart part cursor) next ≡ InPart part next
goes_on_there w part cursor next more = let s = some_is next more in rw s.1 refl

pub not_over : (part : ℕ) (cursor : Option Cursor) → InPart part cursor ≢ Over
not_over part cursor e = cc

pub none_left : {X : Type 0} (f : X → Cursor) (next : Option X) → is_some next ≡ false → option_map f next ≡ None
none_left f None none = refl
none_left f (Some x) none = absurd (true≢false none)

pub some_left : {X : Type 0} (f : X → Cursor) (next : Option X) → is_some next ≡ true → is_some (option_map f next) ≡ true
some_left f None some = absurd (true≢false (sym some))
some_left f (Some x) some = refl

-- ---- with named keys

pub named_plan : (options : Options) (part : ℕ) (plan : Option (List Datum)) (ks : List Datum) → plan ≡ Some ks → plan_in options part plan ≡ Some (filter (stands_in options part) ks)
named_plan options part plan ks some = ap (plan_in options part) some

pub starts_named : (w : Walk) (ks : List Datum) → w.plan ≡ Some ks → start_of w ≡ at_key 0 (length ks)
starts_named w ks plan = rw plan refl

pub at_that_key : (n count : ℕ) → n < count → at_key n count ≡ AtNamed n
at_that_key n count inside = ap (λ (b : Bool). if b then AtNamed n else Over) (lt-ltb n count inside)

pub behind_keys : (n count : ℕ) → n ≡ count → at_key n count ≡ Over
behind_keys n count all = ap (λ (b : Bool). if b then AtNamed n else Over) (le-ltb n count (omega (arith, all)))

pub named_not_over : (n : ℕ) → AtNamed n ≢ Over
named_not_over n e = cc

pub named_is : (w : Walk) (ks : List Datum) (n : ℕ) → w.plan ≡ Some ks → named_at w.plan n ≡ get_or ks n nil
named_is w ks n plan = rw plan refl

pub next_named : (w : Walk) (ks : List Datum) (n : ℕ) (next : Option Cursor) → w.plan ≡ Some ks → next_position w (AtNamed n) next ≡ at_key (n + 1) (length ks)
next_named w ks n next plan = rw plan refl
