-- Counts, visit after visit.
use Rattle.std.proofs.Common.{arith, ◌≡◌, ◌≢◌, ℕ, ◌+◌, ◌<◌, refl, ap, sym, subst, ◌∙◌, List, [], ◌++◌, length}
use Rattle.std.specs.Prelude.{Bool, min, IfOk, IfErr, Result, Ok, Err}
use Rattle.std.proofs.Props.{props}
use Rattle.std.proofs.Math.Logic.{∥∥₁_elim}
use Rattle.std.proofs.lemmas.List.{length-append}
use Rattle.term_core.specs.Datum.{Datum}
use Rattle.part_core.specs.declared.fault.Fault.{Fault}
use Rattle.part_core.specs.declared.fault.Fault.TheVariants as fault
use Rattle.part_core.specs.Acts.{Act, Purpose}
use Rattle.part_core.specs.Acts.Act.{Visit}
use Rattle.part_core.specs.Acts.Answer.{Refused}
use Rattle.part_core.specs.Ops.{refusal_of}
use Rattle.part_core.specs.Replies.{most_counted}
use Rattle.tables.specs.Turns.{Home, Views, Turned, Follows}
use Rattle.std.specs.Prelude.{None, option_map}
use Rattle.walk_core.specs.Goes.{way, whole, IsAt, Goes}
use Rattle.walk_core.specs.Goes.Goes.{stays, goes}
use Rattle.walk_core.specs.Moments.{AreLegal}
use Rattle.walk_core.specs.Walk.{Walk, Position, IsWalk, IsPosition, part_at, scope_at, start_of}
use Rattle.walk_core.specs.Walk.Position.{Over}
use Rattle.walk_core.proofs.GoesLemmas.{begins_so_far}
use Rattle.walk_core.proofs.TurnLemmas.{turned_drifts}
use Rattle.walks.specs.Counting.{CountsMore, CountsTo, StopsAtCount, FinishesCount, GivesUpCount}
use Rattle.walks.specs.Own.{FixesFirst, Releases}
use Rattle.walk_query.specs.declared.query.Query.{Query}
use Rattle.walks.specs.Query.{walk_of}
use Rattle.walks.specs.Visits.{StopsAnywhere}
use Rattle.walks.specs.Whole.{Wholly}
use Rattle.walks.proofs.WholeLemmas.{wholly_answers, wholly_gathers, wholly_once}
use Rattle.walks.proofs.GoingLemmas.{GoesBy, is_walk, no_stranger}

-- the sum of two limited counts, limited again, is the limited sum
together : (limit m n a b c : ℕ) → a ≡ min m limit → b ≡ min n limit → c ≡ min (a + b) limit → c ≡ min (m + n) limit
together limit m n a b c is_a is_b is_c = omega (arith, is_a, is_b, is_c)

pub counts_nothing : (h : Home) (w : Walk) (at : Position) (count : ℕ) (now : Views → Type 0) → count ≡ 0 → Follows now now (CountsTo h w at at count)
counts_nothing h w at count now none v b = (v, b, ([], stays, none))

pub counts_once : (h : Home) (w : Walk) (first at later : Position) (total count more : ℕ) (before now then : Views → Type 0) → at ≢ Over → more ≡ min (total + count) most_counted → Follows before now (CountsTo h w first at total) → Follows now then (CountsMore h w at later count) → Follows before then (CountsTo h w first later more)
counts_once h w first at later total count more before now then open_still sum so_far visit v b =
    let s = so_far v b in
    let t = visit s.0 s.1 in
    let m = t.2 s.2.0 in
    let long : length (s.2.0 ++ m.0) ≡ length s.2.0 + length m.0 = length-append s.2.0 m.0 in
    (t.0, t.1, (s.2.0 ++ m.0, goes s.2.1 open_still m.1, together most_counted (length s.2.0) (length m.0) total count more s.2.2 m.2 sum ∙ ap (λ (n : ℕ). min n most_counted) (sym long)))

pub count_stops : (h : Home) (w : Walk) (first at : Position) (total : ℕ) (before now then : Views → Type 0) (part : ℕ) (act : Act) → ((v : Views) → now v → AreLegal h.options v) → Follows before now (CountsTo h w first at total) → Follows now then (Turned h part act None) → Follows before then (StopsAtCount h w first at total)
count_stops h w first at total before now then part act legal so_far turned v b =
    let s = so_far v b in
    let t = turned s.0 s.1 in
    (t.0, t.1, (s.2.0, (s.0, s.2.1, turned_drifts h part act s.0 t.0 (legal s.0 s.1) t.2), s.2.2))

-- visits that count are visits of the walk
pub count_goes : (h : Home) (w : Walk) (first at : Position) (total : ℕ) (before now : Views → Type 0) (v : Views) → before v → Follows before now (CountsTo h w first at total) → (found : List Datum) × Follows (λ u. u ≡ v) now (GoesBy h w whole first [] at found)
count_goes h w first at total before now v b so_far =
    let s = so_far v b in
    (s.2.0, λ u same. (s.0, s.1, subst (λ (x : Views). Goes h w whole (way x first []) (way s.0 at s.2.0)) (sym same) s.2.1))

-- if a walk can go on from where it begins, its visits can only run out of memory
pub count_foreign : (h : Home) (w : Walk) (first at : Position) (total : ℕ) (before now then : Views → Type 0) (f : Fault) → IsAt h w → IsWalk w → at ≢ Over → f ≢ fault.Memory → Follows before now (CountsTo h w first at total) → Follows now then (Turned h (part_at w at) (Visit w.purpose w.program (scope_at w at) most_counted) (option_map Refused (refusal_of f))) → (v : Views) → before v → IsPosition w v first → ⊥
count_foreign h w first at total before now then f is_at walk open_still other so_far turned v b position =
    let c = count_goes h w first at total before now v b so_far in
    no_stranger h w whole first at [] c.0 (λ u. u ≡ v) now then most_counted f is_at walk open_still other c.1 turned v refl position

-- ---- whole walks

-- a walk that came to its end, or failed
pub tally_stops : {X Y : Type 0} (r : Result X Y) (ended : X → ℕ) (h : Home) (w : Walk) (total : Y → ℕ) (before now : Views → Type 0) → IfOk r (λ x. Follows before now (StopsAtCount h w (start_of w) Over (ended x))) → IfErr r (λ y. Follows before now (λ v u. (at : Position) × StopsAtCount h w (start_of w) at (total y) v u)) → Follows before now (StopsAnywhere h w whole)
tally_stops (Ok x) ended h w total before now done refused = λ v b. let f = done v b in (f.0, f.1, (Over, f.2.0, f.2.1))
tally_stops (Err y) ended h w total before now done refused = λ v b. let f = refused v b in (f.0, f.1, (f.2.0, f.2.1.0, f.2.1.1))

pub counts_wholly : (h : Home) (w : Walk) (own : List Bool) (total : ℕ) (before fixed last now : Views → Type 0) → IsAt h w → IsWalk w → ((v : Views) → before v → AreLegal h.options v) → Follows before fixed (FixesFirst h own) → Follows fixed last (StopsAtCount h w (start_of w) Over total) → Follows last now (Releases h own) → Follows before now (FinishesCount h w total)
counts_wholly h w own total before fixed last now is_at walk legal fixes stops releases v b =
    let f = fixes v b in
    let t = stops f.0 f.1 in
    let r = releases t.0 t.1 in
    let x : Wholly h w whole Over t.2.0 v r.0 = record { own = own; fixed = f.0; fixes = f.2; last = t.0; visits = t.2.1; releases = r.2 } in
    (r.0, r.1, (t.2.0, t.2.2, (x, wholly_once h w whole Over t.2.0 v r.0 is_at walk (legal v b) x, λ placed. wholly_answers h w whole t.2.0 v r.0 is_at walk (legal v b) x placed)))

pub count_given_up : (h : Home) (w : Walk) (own : List Bool) (total : ℕ) (before fixed last now : Views → Type 0) → IsAt h w → IsWalk w → ((v : Views) → before v → AreLegal h.options v) → Follows before fixed (FixesFirst h own) → Follows fixed last (λ v u. (at : Position) × StopsAtCount h w (start_of w) at total v u) → Follows last now (Releases h own) → Follows before now (GivesUpCount h w total)
count_given_up h w own total before fixed last now is_at walk legal fixes stops releases v b =
    let f = fixes v b in
    let t = stops f.0 f.1 in
    let r = releases t.0 t.1 in
    let x : Wholly h w whole t.2.0 t.2.1.0 v r.0 = record { own = own; fixed = f.0; fixes = f.2; last = t.0; visits = t.2.1.1; releases = r.2 } in
    (r.0, r.1, (t.2.0, t.2.1.0, t.2.1.2, x, wholly_once h w whole t.2.0 t.2.1.0 v r.0 is_at walk (legal v b) x, λ placed. wholly_gathers h w whole t.2.0 t.2.1.0 v r.0 is_at walk (legal v b) x placed))

-- a walk that can go on from where it begins can only run out of memory
pub scarce_alone : (w : Walk) (at : Position) (f : Fault) (before : Views → Type 0) → ∥ ((v : Views) × before v) ∥₁ → ((v : Views) → before v → IsPosition w v at) → (f ≢ fault.Memory → (v : Views) → before v → IsPosition w v at → ⊥) → f ≡ fault.Memory
scarce_alone w at fault.Memory before seen well other = refl
scarce_alone w at fault.TooSmall before seen well other = absurd (∥∥₁_elim seen (hlevel props) (λ s. other (λ e. cc) s.0 s.1 (well s.0 s.1)))
scarce_alone w at fault.FixLimit before seen well other = absurd (∥∥₁_elim seen (hlevel props) (λ s. other (λ e. cc) s.0 s.1 (well s.0 s.1)))
scarce_alone w at fault.NotFixed before seen well other = absurd (∥∥₁_elim seen (hlevel props) (λ s. other (λ e. cc) s.0 s.1 (well s.0 s.1)))
scarce_alone w at fault.BadKey before seen well other = absurd (∥∥₁_elim seen (hlevel props) (λ s. other (λ e. cc) s.0 s.1 (well s.0 s.1)))
scarce_alone w at fault.CursorOutside before seen well other = absurd (∥∥₁_elim seen (hlevel props) (λ s. other (λ e. cc) s.0 s.1 (well s.0 s.1)))

pub starts_there : {A : Type 0} (h : Home) (purpose : Purpose) (q : Query A) (v : Views) → (0 < h.options.parts) × (h.number < h.options.sessions) → IsPosition (walk_of h purpose q) v (start_of (walk_of h purpose q))
starts_there h purpose q v fits = (begins_so_far (walk_of h purpose q) v (is_walk h purpose q fits)).position
