-- Walks of a session that is alone, which ran out of memory on their way, leave the table as it was.
use Rattle.std.proofs.Common.{◌≡◌, ◌<◌, ◌+◌, ◌-◌, ℕ, List, [], ◌++◌, Option, Some, sym, subst, ◌∙◌, ap, arith, length, set, get_or, get_or-set_same, filter_map}
use Rattle.std.specs.Prelude.{IsTrue, Bool, true, false, if◌then◌else◌}
use Rattle.std.proofs.lemmas.List.{append-nil, set-set, set-get_or}
use Rattle.term_core.specs.Datum.{Datum}
use Rattle.mcode.specs.Program.{Program}
use Rattle.part_core.specs.Acts.{History, Purpose}
use Rattle.part_core.specs.Acts.Act.{Fix, Unfix}
use Rattle.part_core.specs.Acts.Answer.{Replied}
use Rattle.part_core.specs.Acts.Said.{Nothing}
use Rattle.part_core.specs.After.{state_with}
use Rattle.part_core.specs.Legal.{state_after}
use Rattle.part_core.specs.Rows.{PartState}
use Rattle.part_core.specs.States.{IsState}
use Rattle.part_core.specs.Visits.{yields}
use Rattle.part_core.proofs.AfterLemmas.{same_state}
use Rattle.part_core.proofs.StateLemmas.{after_replied}
use Rattle.tables.specs.Options.{settings_of}
use Rattle.tables.specs.Turns.{Home, Views, TurnedAt}
use Rattle.tables.proofs.TurnLemmas.{turned_alone}
use Rattle.walk_core.specs.Goes.{Drifted, Stops, way}
use Rattle.walk_core.specs.Walk.{Position, named_count, start_of}
use Rattle.walk_core.specs.Positions.{IsThere}
use Rattle.walks.specs.Own.{ChangedWhere, is_fixed_first}
use Rattle.walks.specs.Sights.{first_position}
use Rattle.walks.specs.Whole.{Wholly}
use Rattle.walks.proofs.GoneLemmas.{Gone, Reads, goes_gone}
use Rattle.walks.proofs.OneThreadLemmas.{AreStates}
use Rattle.walks.proofs.PlainLemmas.{first_there, plain, starts, table_of}
use Rattle.walks.proofs.WhollyLemmas.{fixed_once, held_state, held_where, turn_right}

-- ---- fixes that are released

-- a state with one more fix that is released again is as it was
released : (h : Home) (old new : History) (s : PartState) → IsTrue h.alone → IsState (settings_of h.options) s → h.number < length s.fixes → state_after (settings_of h.options) old ≡ fixed_once h.number s → TurnedAt h old Unfix (Some (Replied Nothing)) new
    → state_after (settings_of h.options) new ≡ s
released h old new s alone state within is t =
    let o = settings_of h.options in
    let n : ℕ = h.number in
    let turned = turned_alone h old new Unfix (Replied Nothing) alone t in
    let once : ℕ = get_or s.fixes n 0 + 1 in
    let counts : List ℕ = set s.fixes n once in
    let there : get_or counts n 0 ≡ once = get_or-set_same s.fixes n once 0 within in
    let less : get_or counts n 0 - 1 ≡ get_or s.fixes n 0 = omega (arith, there) in
    let back : set counts n (get_or counts n 0 - 1) ≡ s.fixes = ap (set counts n) less ∙ set-set s.fixes n once (get_or s.fixes n 0) ∙ set-get_or s.fixes n 0 in
    sym turned.1 ∙ after_replied o (state_after o old) n Unfix Nothing (sym turned.0)
    ∙ ap (λ (x : PartState). state_with o x x.rows (set x.fixes n (get_or x.fixes n 0 - 1))) is
    ∙ ap (λ (fixes : List ℕ). state_with o s s.rows fixes) back
    ∙ same_state o s state

released_where : (h : Home) (b : Bool) (old fixed last new : History) (s : PartState) → IsTrue h.alone → s ≡ state_after (settings_of h.options) old → ChangedWhere h Fix b old fixed → ChangedWhere h Unfix b last new
    → ◌≡◌ {A = PartState} (record { rows = s.rows; fixes = if b then set s.fixes h.number (get_or s.fixes h.number 0 + 1) else s.fixes; slots = s.slots; base = s.base }) (state_after (settings_of h.options) last)
    → s ≡ state_after (settings_of h.options) new
released_where h true old fixed last new s alone is t r held =
    let right = turn_right h old fixed Fix (Replied Nothing) alone t in
    let state : IsState (settings_of h.options) s = subst (IsState (settings_of h.options)) (sym is) right.1 in
    sym (released h last new s alone state (omega (arith, right.0.session, state.sessions)) (sym held) r)
released_where h false old fixed last new s alone is t r held = held ∙ ap (state_after (settings_of h.options)) (sym r)

-- ---- visits

-- entries of others there are none
drifted_same : (h : Home) (v w : Views) → IsTrue h.alone → Drifted h v w → (k : ℕ) → k < h.options.parts → w k ≡ v k
drifted_same h v w alone drift k inside =
    let d = drift k inside in
    d.2 ∙ ap (λ (es : History). v k ++ es) (d.1.alone alone) ∙ append-nil (v k)

-- visits that change no state, to wherever they came, after which other sessions might have made entries
pub stops_same : (f : Datum → Option Datum) (h : Home) (purpose : Purpose) (p : Program) (states : ℕ → PartState) (plan : Option (List Datum)) (wanted : ℕ → ℕ) (v u : Views) (at later : Position) (kept gained : List Datum) → yields purpose p ≡ filter_map f → Reads h purpose p → IsTrue h.alone → 0 < h.options.parts → AreStates h (table_of h states) v
    → IsThere h.options.parts (named_count plan) at → (s : Stops h (plain h purpose p plan) wanted (way v at kept) later gained u) → Gone f h states plan wanted (way v at kept) (way s.0 later gained) × AreStates h (table_of h states) u
stops_same f h purpose p states plan wanted v u at later kept gained same reads alone some are there s =
    let gone = goes_gone f h purpose p states plan wanted (way v at kept) (way s.0 later gained) same reads alone some are there s.1 in
    (gone.0, λ k inside. gone.1 k inside ∙ ap (state_after (settings_of h.options)) (sym (drifted_same h s.0 u alone s.2 k inside)))

-- visits from the beginning of a walk
pub begun_same : (f : Datum → Option Datum) (h : Home) (purpose : Purpose) (p : Program) (states : ℕ → PartState) (plan : Option (List Datum)) (wanted : ℕ → ℕ) (v u : Views) (later : Position) (gained : List Datum) → yields purpose p ≡ filter_map f → Reads h purpose p → IsTrue h.alone → 0 < h.options.parts → AreStates h (table_of h states) v
    → Stops h (plain h purpose p plan) wanted (way v (start_of (plain h purpose p plan)) []) later gained u → AreStates h (table_of h states) u
begun_same f h purpose p states plan wanted v u later gained same reads alone some are s =
    (stops_same f h purpose p states plan wanted v u (first_position plan) later [] gained same reads alone some are (first_there h.options.parts plan some)
    (subst (λ (at : Position). Stops h (plain h purpose p plan) wanted (way v at []) later gained u) (starts h purpose p plan some) s)).1

-- ---- whole walks

-- a whole walk that reads, to wherever it came, leaves the states
pub wholly_same : (f : Datum → Option Datum) (h : Home) (purpose : Purpose) (p : Program) (states : ℕ → PartState) (plan : Option (List Datum)) (wanted : ℕ → ℕ) (at : Position) (gained : List Datum) (v u : Views) → yields purpose p ≡ filter_map f → Reads h purpose p → IsTrue h.alone → 0 < h.options.parts → AreStates h (table_of h states) v
    → Wholly h (plain h purpose p plan) wanted at gained v u → AreStates h (table_of h states) u
wholly_same f h purpose p states plan wanted at gained v u same reads alone some are x =
    let held : ℕ → PartState = held_state h v states in
    let are_held : AreStates h (table_of h held) x.fixed = λ k inside. held_where h (is_fixed_first h v k) (v k) (x.fixed k) (states k) alone (are k inside) (x.fixes k inside).1 in
    let last : AreStates h (table_of h held) x.last = begun_same f h purpose p held plan wanted x.fixed x.last at gained same reads alone some are_held x.visits in
    λ k inside.
    released_where h (is_fixed_first h v k) (v k) (x.fixed k) (x.last k) (u k) (states k) alone (are k inside) (x.fixes k inside).1
    (subst (λ (b : Bool). ChangedWhere h Unfix b (x.last k) (u k)) (x.fixes k inside).0 (x.releases k inside))
    (last k inside)
