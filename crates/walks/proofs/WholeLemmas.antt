-- Whole walks, with the fixes that they make themselves.
use Rattle.std.proofs.Common.{◌≡◌, ◌≢◌, ℕ, ◌+◌, ◌<◌, ◌≤◌, sym, subst, ◌∙◌, arith, List, [], ◌∷◌, ◌++◌, length, get_or}
use Rattle.std.specs.Prelude.{All, Bool, true, false, IfOk, IfErr, Result, Ok, Err}
use Rattle.std.proofs.Math.Logic.{∥∥₁_map}
use Rattle.std.proofs.lemmas.List.{append_assoc, append-nil, length-append}
use Rattle.std.proofs.lemmas.List.Elements.{All-nil}
use Rattle.term_core.specs.Datum.{Datum}
use Rattle.mcode.specs.Program.{Program}
use Rattle.part_core.specs.Acts.{Act, History, Purpose, Scope}
use Rattle.part_core.specs.Acts.Act.{Fix, Unfix, Visit}
use Rattle.part_core.specs.Acts.Said.{Nothing}
use Rattle.part_core.specs.Legal.{IsLegal, fix_count}
use Rattle.tables.specs.Options.{settings_of}
use Rattle.tables.specs.Turns.{Home, Views, Follows}
use Rattle.walk_core.specs.Goes.{way, IsAt, Stops}
use Rattle.walk_core.specs.Once.{IsOnce}
use Rattle.walk_core.specs.Moments.{IsVisit, span, Gathers, IsAnswer, IsGrown, ArePlaced, AreLegal, part_of_key}
use Rattle.walk_core.specs.Walk.{Walk, Position, IsWalk, is_done, start_of}
use Rattle.walk_core.specs.Walk.Position.{Over}
use Rattle.walk_core.proofs.CountLemmas.{turned_count, goes_count, drifted_count}
use Rattle.walk_core.proofs.GoesLemmas.{begins_so_far, drifted_grown, ends_answer, goes_grown, grown_further, grown_legal, placed_before, stops_so_far}
use Rattle.walk_core.proofs.GrowthLemmas.{grown_so_far, key_inside}
use Rattle.walk_core.proofs.OnceLemmas.{begins_once, stops_once, turned_quiet, wider_once}
use Rattle.walk_core.proofs.StepLemmas.{wider_gathers}
use Rattle.walk_core.proofs.TurnLemmas.{drifts_nowhere}
use Rattle.walks.specs.Own.{is_fixed_first, ChangedWhere, FixesFirst, Releases, AreHeld}
use Rattle.walks.specs.Visits.{StopsAnywhere}
use Rattle.walks.specs.Whole.{Wholly, Finishes, GivesUp}
use Rattle.walks.proofs.GoingLemmas.{GoesBy}

-- ---- own fixes

changed_grown : (h : Home) (act : Act) (here : Bool) (before after : History) → IsLegal (settings_of h.options) before → ChangedWhere h act here before after → (more : History) × (after ≡ before ++ more) × IsLegal (settings_of h.options) after
changed_grown h act true before after legal t =
    (t.between ++ _, t.grown ∙ append_assoc before t.between _, t.legal)
changed_grown h act false before after legal same =
    ([], same ∙ sym (append-nil before), subst (IsLegal (settings_of h.options)) (sym same) legal)

pub fixed_grown : (h : Home) (own : List Bool) (v w : Views) → AreLegal h.options v → FixesFirst h own v w → IsGrown h.options v w
fixed_grown h own v w legal fixes part inside =
    changed_grown h Fix (is_fixed_first h v part) (v part) (w part) (legal part inside) (fixes part inside).1

pub released_grown : (h : Home) (own : List Bool) (v w : Views) → AreLegal h.options v → Releases h own v w → IsGrown h.options v w
released_grown h own v w legal releases part inside =
    changed_grown h Unfix (get_or own part false) (v part) (w part) (legal part inside) (releases part inside)

-- what a call fixed first is still fixed at the end
pub held_by : (h : Home) (w : Walk) (wanted : ℕ → ℕ) (own : List Bool) (at : Position) (gained : List Datum) (v fixed last : Views) → FixesFirst h own v fixed → Stops h w wanted (way fixed (start_of w) []) at gained last → AreHeld h own last
held_by h w wanted own at gained v fixed last fixes (there, walk, drifted) part inside is_own =
    let f = fixes part inside in
    let first : is_fixed_first h v part ≡ true = sym f.0 ∙ is_own in
    let count : fix_count h.number (last part) ≡ fix_count h.number (fixed part) = drifted_count h there last part inside drifted ∙ goes_count h w wanted (way fixed (start_of w) []) (way there at gained) part walk in
    let one : fix_count h.number (fixed part) ≡ fix_count h.number (v part) + 1 = turned_count h (v part) (fixed part) Fix Nothing (subst (λ (b : Bool). ChangedWhere h Fix b (v part) (fixed part)) first f.1) in
    omega (arith, count, one)

-- ---- the answer

length_grown : (h : Home) (w : Walk) (u v : Views) → IsWalk w → IsGrown w.options u v → (k : Datum) → length (u (part_of_key w k)) ≤ length (v (part_of_key w k))
length_grown h w u v walk grown k =
    let g = grown (part_of_key w k) (key_inside w k walk) in
    let long = length-append (u (part_of_key w k)) g.0 in
    subst (λ (log : History). length (u (part_of_key w k)) ≤ length log) (sym g.1) (omega (arith, long))

-- what a whole walk gathered
pub wholly_gathers : (h : Home) (w : Walk) (wanted : ℕ → ℕ) (at : Position) (gained : List Datum) (v u : Views) → IsAt h w → IsWalk w → AreLegal h.options v → Wholly h w wanted at gained v u → ArePlaced h.options u → Gathers w (span v u ∷ []) u (is_done w at) gained
wholly_gathers h w wanted at gained v u is_at walk legal x placed =
    let same = is_at.options in
    let first = fixed_grown h x.own v x.fixed legal x.fixes in
    let legal_fixed = grown_legal h.options v x.fixed first in
    let went = goes_grown h w wanted (way x.fixed (start_of w) []) (way x.visits.0 at gained) is_at (subst (λ o. AreLegal o x.fixed) same legal_fixed) x.visits.1 in
    let drift = drifted_grown h w.options x.visits.0 x.last same x.visits.2 in
    let to_last = grown_further w.options x.fixed x.visits.0 x.last went drift in
    let legal_last = grown_legal w.options x.fixed x.last to_last in
    let after = subst (λ o. IsGrown o x.last u) same (released_grown h x.own x.last u (subst (λ o. AreLegal o x.last) (sym same) legal_last) x.releases) in
    let placed_last = placed_before w.options x.last u after (subst (λ o. ArePlaced o u) same placed) in
    let there = stops_so_far h w wanted [] [] (way x.fixed (start_of w) []) at gained x.last is_at walk (subst (λ o. AreLegal o x.fixed) same legal_fixed) placed_last (begins_so_far w x.fixed walk) x.visits in
    let later = grown_so_far w (span x.fixed x.last ∷ []) [] x.last u at gained walk after there in
    wider_gathers w x.fixed x.last v u u (is_done w at) gained (length_grown h w v x.fixed walk (subst (λ o. IsGrown o v x.fixed) same first)) (length_grown h w x.last u walk after) later.gathers

-- ---- each key once

changed_quiet : (h : Home) (w : Walk) (act : Act) (here : Bool) (before after : History) → IsAt h w → ((purpose : Purpose) (p : Program) (scope : Scope) (wanted : ℕ) → act ≢ Visit purpose p scope wanted) → ChangedWhere h act here before after → (more : History) × (after ≡ before ++ more) × ((k : Datum) → All (λ e. IsVisit w k e → ⊥) more)
changed_quiet h w act true before after is_at other t = turned_quiet h w before after act Nothing is_at other t
changed_quiet h w act false before after is_at other same =
    ([], same ∙ sym (append-nil before), λ k. All-nil (λ e. IsVisit w k e → ⊥))

fix_no_visit : (purpose : Purpose) (p : Program) (scope : Scope) (wanted : ℕ) → Fix ≢ Visit purpose p scope wanted
fix_no_visit purpose p scope wanted e = cc

unfix_no_visit : (purpose : Purpose) (p : Program) (scope : Scope) (wanted : ℕ) → Unfix ≢ Visit purpose p scope wanted
unfix_no_visit purpose p scope wanted e = cc

-- a whole walk covers each key once
pub wholly_once : (h : Home) (w : Walk) (wanted : ℕ → ℕ) (at : Position) (gained : List Datum) (v u : Views) → IsAt h w → IsWalk w → AreLegal h.options v → Wholly h w wanted at gained v u → IsOnce w (span v u ∷ []) u (is_done w at)
wholly_once h w wanted at gained v u is_at walk legal x =
    let same = is_at.options in
    let legal_fixed = subst (λ o. AreLegal o x.fixed) same (grown_legal h.options v x.fixed (fixed_grown h x.own v x.fixed legal x.fixes)) in
    let went = goes_grown h w wanted (way x.fixed (start_of w) []) (way x.visits.0 at gained) is_at legal_fixed x.visits.1 in
    let to_last = grown_further w.options x.fixed x.visits.0 x.last went (drifted_grown h w.options x.visits.0 x.last same x.visits.2) in
    let once = stops_once h w wanted [] (way x.fixed (start_of w) []) at gained x.last is_at walk legal_fixed (begins_so_far w x.fixed walk).position (begins_once w x.fixed) x.visits in
    wider_once w [] v x.fixed x.last u (is_done w at) walk
    (subst (λ o. (part : ℕ) → part < o.parts → (more : History) × (x.fixed part ≡ v part ++ more) × ((k : Datum) → All (λ e. IsVisit w k e → ⊥) more)) same (λ part inside. changed_quiet h w Fix (is_fixed_first h v part) (v part) (x.fixed part) is_at fix_no_visit (x.fixes part inside).1))
    to_last
    (subst (λ o. (part : ℕ) → part < o.parts → (more : History) × (u part ≡ x.last part ++ more) × ((k : Datum) → All (λ e. IsVisit w k e → ⊥) more)) same (λ part inside. changed_quiet h w Unfix (get_or x.own part false) (x.last part) (u part) is_at unfix_no_visit (x.releases part inside)))
    once

-- a whole walk that came to its end
pub wholly_answers : (h : Home) (w : Walk) (wanted : ℕ → ℕ) (gained : List Datum) (v u : Views) → IsAt h w → IsWalk w → AreLegal h.options v → Wholly h w wanted Over gained v u → ArePlaced h.options u → IsAnswer w (span v u ∷ []) u gained
wholly_answers h w wanted gained v u is_at walk legal x placed =
    ends_answer w (span v u ∷ []) gained u walk
    (record {
      gathers = subst (Gathers w (span v u ∷ []) u (is_done w Over)) (sym (append-nil gained)) (wholly_gathers h w wanted Over gained v u is_at walk legal x placed);
      position = tt;
    })

-- ---- calls

-- a walk that came to its end, with no further visit
pub ends_there : (h : Home) (w : Walk) (wanted : ℕ → ℕ) (first : Position) (gained : List Datum) (before now : Views → Type 0) → IsAt h w → IsWalk w → ((v : Views) → before v → AreLegal h.options v) → Follows before now (GoesBy h w wanted first [] Over gained) → Follows before now (λ v u. Stops h w wanted (way v first []) Over gained u)
ends_there h w wanted first gained before now is_at walk legal goes v b =
    let f = goes v b in
    let there : AreLegal h.options f.0 = subst (λ o. AreLegal o f.0) (sym is_at.options) (grown_legal w.options v f.0 (goes_grown h w wanted (way v first []) (way f.0 Over gained) is_at (subst (λ o. AreLegal o v) is_at.options (legal v b)) f.2)) in
    (f.0, f.1, (f.0, f.2, drifts_nowhere h f.0 there))

-- a walk that came to its end, or failed
pub went : {X Y : Type 0} (r : Result X Y) (items : X → List Datum) (h : Home) (w : Walk) (wanted : ℕ → ℕ) (before now : Views → Type 0) → IfOk r (λ x. Follows before now (λ v u. Stops h w wanted (way v (start_of w) []) Over (items x) u)) → IfErr r (λ y. Follows before now (StopsAnywhere h w wanted)) → Follows before now (StopsAnywhere h w wanted)
went (Ok x) items h w wanted before now ended refused = λ v b. let f = ended v b in (f.0, f.1, (Over, items x, f.2))
went (Err y) items h w wanted before now ended refused = refused

-- what was fixed first is still fixed after the walk
pub held_own : (h : Home) (w : Walk) (wanted : ℕ → ℕ) (own : List Bool) (before fixed now : Views → Type 0) → ∥ ((v : Views) × before v) ∥₁ → Follows before fixed (FixesFirst h own) → Follows fixed now (StopsAnywhere h w wanted) → ∥ ((v : Views) × now v × AreHeld h own v) ∥₁
held_own h w wanted own before fixed now seen fixes stops =
    ∥∥₁_map seen (λ s.
    let f = fixes s.0 s.1 in
    let t = stops f.0 f.1 in
    (t.0, t.1, held_by h w wanted own t.2.0 t.2.1 s.0 f.0 t.0 f.2 t.2.2))

pub finishes : (h : Home) (w : Walk) (wanted : ℕ → ℕ) (own : List Bool) (gained : List Datum) (before fixed last now : Views → Type 0) → IsAt h w → IsWalk w → ((v : Views) → before v → AreLegal h.options v) → Follows before fixed (FixesFirst h own) → Follows fixed last (λ v u. Stops h w wanted (way v (start_of w) []) Over gained u) → Follows last now (Releases h own) → Follows before now (Finishes h w wanted gained)
finishes h w wanted own gained before fixed last now is_at walk legal fixes stops releases v b =
    let f = fixes v b in
    let t = stops f.0 f.1 in
    let r = releases t.0 t.1 in
    let whole : Wholly h w wanted Over gained v r.0 = record { own = own; fixed = f.0; fixes = f.2; last = t.0; visits = t.2; releases = r.2 } in
    (r.0, r.1, (whole, wholly_once h w wanted Over gained v r.0 is_at walk (legal v b) whole, λ placed. wholly_answers h w wanted gained v r.0 is_at walk (legal v b) whole placed))

pub gives_up : (h : Home) (w : Walk) (wanted : ℕ → ℕ) (own : List Bool) (before fixed last now : Views → Type 0) → IsAt h w → IsWalk w → ((v : Views) → before v → AreLegal h.options v) → Follows before fixed (FixesFirst h own) → Follows fixed last (StopsAnywhere h w wanted) → Follows last now (Releases h own) → Follows before now (GivesUp h w wanted)
gives_up h w wanted own before fixed last now is_at walk legal fixes stops releases v b =
    let f = fixes v b in
    let t = stops f.0 f.1 in
    let r = releases t.0 t.1 in
    let whole : Wholly h w wanted t.2.0 t.2.1 v r.0 = record { own = own; fixed = f.0; fixes = f.2; last = t.0; visits = t.2.2; releases = r.2 } in
    (r.0, r.1, (t.2.0, t.2.1, whole, wholly_once h w wanted t.2.0 t.2.1 v r.0 is_at walk (legal v b) whole, λ placed. wholly_gathers h w wanted t.2.0 t.2.1 v r.0 is_at walk (legal v b) whole placed))
