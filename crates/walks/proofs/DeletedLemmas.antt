-- Whole walks that delete, of a session that is alone.
use Rattle.std.proofs.Common.{◌≡◌, ◌≢◌, ◌<◌, ◌+◌, ◌-◌, ◌==◌, ℕ, Some, None, Option, List, [], ◌∷◌, ◌++◌, refl, sym, subst, ◌∙◌, ap, arith, length, set, get_or, get_or-set_same, flat_map, min, lt-ltb}
use Rattle.std.proofs.Math.Path.{fun_ext}
use Rattle.std.specs.Prelude.{IsTrue, Bool, true, false, ◌||◌, if◌then◌else◌, nat_lt, filter, filter_map}
use Rattle.std.proofs.lemmas.Bool.{eqb-true, eqb-false}
use Rattle.std.proofs.lemmas.List.{append-nil, append_assoc, set-set, set-get_or, length-set}
use Rattle.std.proofs.lemmas.List.Folds.{list_any_at}
use Rattle.term_core.specs.Datum.{Datum}
use Rattle.mcode.specs.Answer.{answer_of}
use Rattle.mcode.specs.Program.{Program}
use Rattle.part_core.specs.Acts.{Cursor, Scope, History, next_in}
use Rattle.part_core.specs.Acts.Act.{Fix, Unfix, Visit}
use Rattle.part_core.specs.Acts.Answer.{Replied}
use Rattle.part_core.specs.Acts.Purpose.{Deletes}
use Rattle.part_core.specs.Acts.Said.{Nothing}
use Rattle.part_core.specs.After.{kept_rows, slots_after, state_with}
use Rattle.part_core.specs.Covers.{covers}
use Rattle.part_core.specs.Laws.{LeadsTo}
use Rattle.part_core.specs.Legal.{state_after, IsLegal}
use Rattle.part_core.specs.Replies.{most_counted, yield_of}
use Rattle.part_core.specs.Rows.{Row, PartState, is_fixed, is_live, opening}
use Rattle.part_core.specs.Settings.{is_ordered}
use Rattle.part_core.specs.States.{IsState}
use Rattle.part_core.specs.Visits.{is_true, next_of, yields}
use Rattle.part_core.proofs.HistoryLemmas.{legal_front_from, state_of}
use Rattle.part_core.proofs.KeyLemmas.{by_test}
use Rattle.part_core.proofs.StateLemmas.{after_replied}
use Rattle.tables.specs.declared.options.Options.{Options}
use Rattle.tables.specs.Options.{settings_of}
use Rattle.tables.specs.OneThread.{TableState}
use Rattle.tables.specs.Turns.{Home, Views, TurnedAt}
use Rattle.tables.proofs.TurnLemmas.{turned_alone}
use Rattle.walk_core.specs.Goes.{Way, way, Goes, Visits}
use Rattle.walk_core.specs.Goes.Goes.{stays, goes}
use Rattle.walk_core.specs.Walk.{IsPlan, Walk, Position, named_count, next_position, part_at, scope_at}
use Rattle.walk_core.specs.Walk.Position.{Over}
use Rattle.walk_query.specs.declared.query.Query.{Query}
use Rattle.walk_query.specs.Plan.{AreVisited}
use Rattle.walks.specs.Counting.{FinishesCount}
use Rattle.walks.specs.Own.{ChangedWhere, is_fixed_first}
use Rattle.walk_core.specs.Positions.{IsThere}
use Rattle.walks.specs.Query.{plan_of, walk_of}
use Rattle.walks.specs.Sights.{after_removal, answers_in, first_position, is_met, number_true, rows_seen, whole}
use Rattle.walks.specs.Whole.{Wholly}
use Rattle.walks.proofs.OneThreadLemmas.{AreStates}
use Rattle.walks.specs.Alone.{IsSeen}
use Rattle.walks.proofs.AloneLemmas.{seen_table}
use Rattle.walks.proofs.AnewLemmas.{IsOnWay, elsewhere_at, first_on_way, more_at, next_on_way, none_done, same_at}
use Rattle.walks.proofs.CutLemmas.{cut, cut_length, cut_nowhere, cut_shows, cut_state, deleted_after}
use Rattle.walks.proofs.DoneLemmas.{done_in, inside_same, met_in}
use Rattle.walks.proofs.GoneLemmas.{Looked, Told, goes_along, gone_whole, visit_told}
use Rattle.walks.proofs.LookLemmas.{Looks}
use Rattle.walks.proofs.PlainLemmas.{first_there, part_inside, plain, starts, table_of, there_next, walk_looks}
use Rattle.walks.proofs.WhollyLemmas.{fixed_once, held_state, held_where, held_whole, those_that, turn_right}

-- ---- visits that delete

-- the walk can have reached this position, and the parts are as they were, without the objects for which the query
-- returns true at the keys that are done
pub record AreCut (h : Home) (p : Program) (states : ℕ → PartState) (plan : Option (List Datum)) (at : Position) (v : Views) : Type 0 where
  pub way : IsOnWay plan at
  pub left : (k : ℕ) → k < h.options.parts → state_after (settings_of h.options) (v k) ≡ cut_state (settings_of h.options) p (done_in (settings_of h.options) plan at k) (states k)

abbrev pub AllStates : Home → (ℕ → PartState) → Type 0
AllStates h states = (k : ℕ) → k < h.options.parts → IsState (settings_of h.options) (states k)

cut_visit : (f : Datum → Option Datum) (h : Home) (p : Program) (states : ℕ → PartState) (plan : Option (List Datum)) (wanted : ℕ → ℕ) (a b : Way) → yields Deletes p ≡ filter_map f → IsTrue h.alone → 0 < h.options.parts → IsPlan plan → AllStates h states → AreCut h p states plan a.at a.views
    → IsThere h.options.parts (named_count plan) a.at → a.at ≢ Over → Visits h (plain h Deletes p plan) wanted a b → Looked f h states plan wanted a b × AreCut h p states plan b.at b.views
cut_visit f h p states plan wanted a b same alone some distinct all are there more visit =
    let o = settings_of h.options in
    let w : Walk = plain h Deletes p plan in
    let n : ℕ = wanted (length a.gained) in
    let part : ℕ = part_at w a.at in
    let scope : Scope = scope_at w a.at in
    let done : Datum → Bool = done_in o plan a.at part in
    let inside : part < h.options.parts = part_inside h Deletes p plan a.at some there more in
    let s : PartState = states part in
    let x : PartState = state_after o (a.views part) in
    let told : Told h Deletes p scope n visit.said (b.views part) (state_after o (a.views part)) = visit_told h Deletes p scope n visit.said (a.views part) (b.views part) alone visit.turned.here in
    let is : x ≡ cut_state o p (done_in o plan a.at part) s = are.left part inside in
    let alike = same_at h p states x n a.at plan distinct there more (all part inside) is in
    let leads : LeadsTo o s.base scope (next_of o s Deletes p scope n) = subst (λ (base : ℕ). LeadsTo o base scope (next_of o s Deletes p scope n)) alike.base (subst (LeadsTo o x.base scope) alike.next told.leads) in
    let met : state_after o (a.views part ++ visit.turned.here.between) ≡ x = ap (λ (es : History). state_after o (a.views part ++ es)) (visit.turned.here.others.alone alone) ∙ ap (state_after o) (append-nil (a.views part)) in
    let at : b.at ≡ next_position w a.at (next_of o s Deletes p scope n) = visit.at ∙ ap (next_position w a.at) (told.next ∙ alike.next) in
    let left : state_after o (b.views part) ≡ cut_state o p (done_in o plan b.at part) s =
    sym told.leaves ∙ deleted_after o p (done_in o plan a.at part) s x h.number scope n visit.said (all part inside) told.state is told.inside told.replied
    ∙ ap (λ (next : Option Cursor). cut_state o p (λ j. done_in o plan a.at part j || covers o scope next j) s) (sym told.next)
    ∙ ap (λ (d : Datum → Bool). cut_state o p d s) (sym (more_at h p x.base (a.views part) (next_in visit.said) a.at plan are.way there more told.inside (subst (LeadsTo o x.base scope) (sym told.next) told.leads)))
    ∙ ap (λ (later : Position). cut_state o p (done_in o plan later part) s) (sym visit.at) in (
      record {
        found = yield_of o s Deletes p scope n;
        looks = subst (λ (later : Position). Looks f (table_of h states) plan n a.at later (yield_of o s Deletes p scope n)) (sym at)
            (walk_looks f h Deletes p states n a.at plan same told.some there more (all part inside) (inside_same o s x scope alike.base told.inside) leads);
        gained = visit.gained ∙ ap (λ (y : PartState). a.gained ++ yield_of o y Deletes p scope n) met ∙ ap (λ (xs : List Datum). a.gained ++ xs) alike.found;
        there = subst (IsThere h.options.parts (named_count plan)) (sym visit.at) (there_next h Deletes p plan a.at (next_in visit.said) there);
      },
      record {
        way = subst (IsOnWay plan) (sym visit.at) (next_on_way h p plan a.at (next_in visit.said) are.way);
        left = λ k within.
            by_test (k == part) (state_after o (b.views k) ≡ cut_state o p (done_in o plan b.at k) (states k))
            (λ here. subst (λ (i : ℕ). state_after o (b.views i) ≡ cut_state o p (done_in o plan b.at i) (states i)) (sym (eqb-true k part here)) left)
            (λ other. ap (state_after o) (visit.turned.rest k (eqb-false k part other)) ∙ are.left k within
            ∙ ap (λ (d : Datum → Bool). cut_state o p d (states k)) (sym (elsewhere_at h p k (next_in visit.said) a.at plan are.way there more within (eqb-false k part other)))
            ∙ ap (λ (later : Position). cut_state o p (done_in o plan later k) (states k)) (sym visit.at));
      },
    )

-- before a walk nothing is deleted
cut_first : (h : Home) (p : Program) (states : ℕ → PartState) (plan : Option (List Datum)) (v : Views) → AllStates h states → AreStates h (table_of h states) v → AreCut h p states plan (first_position plan) v
cut_first h p states plan v all are =
    let o = settings_of h.options in
    record {
      way = first_on_way plan;
      left = λ k inside.
          sym (are k inside) ∙ sym (cut_nowhere o p (states k) (all k inside)) ∙ ap (λ (d : Datum → Bool). cut_state o p d (states k)) (sym (none_done o plan k));
    }

-- ---- a whole walk

-- histories only grow
goes_longer : (h : Home) (w : Walk) (wanted : ℕ → ℕ) (a b : Way) (k : ℕ) → Goes h w wanted a b → (more : History) × (b.views k ≡ a.views k ++ more)
goes_longer h w wanted a b k stays = ([], sym (append-nil (a.views k)))
goes_longer h w wanted a c k (goes {b} g more visit) =
    let before = goes_longer h w wanted a b k g in
    by_test (k == part_at w b.at) _
    (λ here. let last = visit.turned.here.between ++ (record { session = h.number; act = Visit w.purpose w.program (scope_at w b.at) (wanted (length b.gained)); answer = Replied visit.said }) ∷ [] in (
      before.0 ++ last,
      subst (λ (i : ℕ). c.views i ≡ b.views i ++ last) (sym (eqb-true k (part_at w b.at) here)) (visit.turned.here.grown ∙ append_assoc (b.views (part_at w b.at)) visit.turned.here.between _)
          ∙ ap (λ (es : History). es ++ last) before.1 ∙ append_assoc (a.views k) before.0 last,
    ))
    (λ other. (before.0, visit.turned.rest k (eqb-false k (part_at w b.at) other) ∙ before.1))

-- the state of a part that the call fixed first, after it is released
cut_released : (h : Home) (p : Program) (done : Datum → Bool) (old new : History) (s : PartState) → IsTrue h.alone → h.number < length s.fixes → IsState (settings_of h.options) (fixed_once h.number s)
    → state_after (settings_of h.options) old ≡ cut_state (settings_of h.options) p done (fixed_once h.number s) → TurnedAt h old Unfix (Some (Replied Nothing)) new
    → state_after (settings_of h.options) new ≡ cut_state (settings_of h.options) p done s
cut_released h p done old new s alone within state is t =
    let o = settings_of h.options in
    let n : ℕ = h.number in
    let turned = turned_alone h old new Unfix (Replied Nothing) alone t in
    let once : ℕ = get_or s.fixes n 0 + 1 in
    let counts : List ℕ = set s.fixes n once in
    let rows : List Row = cut p done s.rows in
    let there : get_or counts n 0 ≡ once = get_or-set_same s.fixes n once 0 within in
    let fixed : is_fixed counts ≡ true = list_any_at (nat_lt 0) counts n 0 (omega (arith, within, length-set s.fixes n once)) (lt-ltb 0 _ (omega (arith, there))) in
    let less : get_or counts n 0 - 1 ≡ get_or s.fixes n 0 = omega (arith, there) in
    let back : set counts n (get_or counts n 0 - 1) ≡ s.fixes = ap (set counts n) less ∙ set-set s.fixes n once (get_or s.fixes n 0) ∙ set-get_or s.fixes n 0 in
    let shows : state_after o old ≡ record { rows = rows; fixes = counts; slots = s.slots; base = s.base } = is ∙ cut_shows o p done (fixed_once n s) state
    ∙ ap (λ (b : Bool). record { rows = if b then rows else filter is_live rows; fixes = counts; slots = s.slots; base = s.base }) fixed in
    sym turned.1 ∙ after_replied o (state_after o old) n Unfix Nothing (sym turned.0)
    ∙ ap (λ (y : PartState). state_with o y y.rows (set y.fixes n (get_or y.fixes n 0 - 1))) shows
    ∙ ap (λ (fixes : List ℕ). state_with o (record { rows = rows; fixes = counts; slots = s.slots; base = s.base }) rows fixes) back
    ∙ ap (λ (m : ℕ). record { rows = kept_rows s.fixes rows; fixes = s.fixes; slots = slots_after o.kind m (length (kept_rows s.fixes rows)) s.slots; base = if is_fixed s.fixes then s.base else slots_after o.kind m (length (kept_rows s.fixes rows)) s.slots }) (cut_length p done s.rows)

cut_where : (h : Home) (p : Program) (done : Datum → Bool) (b : Bool) (old fixed last new : History) (s : PartState) → IsTrue h.alone → s ≡ state_after (settings_of h.options) old → ChangedWhere h Fix b old fixed → ChangedWhere h Unfix b last new
    → IsState (settings_of h.options) (record { rows = s.rows; fixes = if b then set s.fixes h.number (get_or s.fixes h.number 0 + 1) else s.fixes; slots = s.slots; base = s.base })
    → state_after (settings_of h.options) last ≡ cut_state (settings_of h.options) p done (record { rows = s.rows; fixes = if b then set s.fixes h.number (get_or s.fixes h.number 0 + 1) else s.fixes; slots = s.slots; base = s.base })
    → cut_state (settings_of h.options) p done s ≡ state_after (settings_of h.options) new
cut_where h p done true old fixed last new s alone is t r state left =
    let right = turn_right h old fixed Fix (Replied Nothing) alone t in
    let met : IsState (settings_of h.options) s = subst (IsState (settings_of h.options)) (sym is) right.1 in
    sym (cut_released h p done last new s alone (omega (arith, right.0.session, met.sessions)) state left r)
cut_where h p done false old fixed last new s alone is t r state left = sym left ∙ ap (state_after (settings_of h.options)) (sym r)

removed_states : (f : Datum → Option Datum) (h : Home) (p : Program) (states : ℕ → PartState) (plan : Option (List Datum)) (wanted : ℕ → ℕ) (gained : List Datum) (v u : Views) → yields Deletes p ≡ filter_map f → IsTrue h.alone → 0 < h.options.parts → IsPlan plan → AreStates h (table_of h states) v
    → Wholly h (plain h Deletes p plan) wanted Over gained v u
    → (gained ≡ answers_in f (whole (table_of h states) plan)) × AreStates h (table_of h (λ k. cut_state (settings_of h.options) p (met_in (settings_of h.options) plan k) (states k))) u
removed_states f h p states plan wanted gained v u same alone some distinct are x =
    let o = settings_of h.options in
    let w : Walk = plain h Deletes p plan in
    let first : Position = first_position plan in
    let held : ℕ → PartState = held_state h v states in
    let are_held : AreStates h (table_of h held) x.fixed = λ k inside. held_where h (is_fixed_first h v k) (v k) (x.fixed k) (states k) alone (are k inside) (x.fixes k inside).1 in
    let went : Goes h w wanted (way x.fixed first []) (way x.visits.0 Over gained) = subst (λ (at : Position). Goes h w wanted (way x.fixed at []) (way x.visits.0 Over gained)) (starts h Deletes p plan some) x.visits.1 in
    let all : AllStates h held = λ k inside.
    let drift = x.visits.2 k inside in
    let longer = goes_longer h w wanted _ _ k went in
    let front : IsLegal o (x.fixed k) = legal_front_from o (opening o) (x.fixed k) (longer.0 ++ drift.0) (subst (IsLegal o) (drift.2 ∙ ap (λ (es : History). es ++ drift.0) longer.1 ∙ append_assoc (x.fixed k) longer.0 drift.0) drift.3) in
    subst (IsState o) (sym (are_held k inside)) (state_of o (x.fixed k) front) in
    let gone = goes_along f h w held plan wanted (λ (y : Way). AreCut h p held plan y.at y.views) _ _ (λ a b known there more visit. cut_visit f h p held plan wanted a b same alone some distinct all known there more visit) (cut_first h p held plan x.fixed all are_held) (first_there h.options.parts plan some) went in (
      gone_whole f h held plan wanted x.fixed x.visits.0 gained gone.0 ∙ ap (answers_in f) (held_whole h v states plan),
      λ k inside.
          let drift = x.visits.2 k inside in
          let stays_so : x.last k ≡ x.visits.0 k = drift.2 ∙ ap (λ (es : History). x.visits.0 k ++ es) (drift.1.alone alone) ∙ append-nil (x.visits.0 k) in
          cut_where h p (met_in o plan k) (is_fixed_first h v k) (v k) (x.fixed k) (x.last k) (u k) (states k) alone (are k inside) (x.fixes k inside).1
          (subst (λ (b : Bool). ChangedWhere h Unfix b (x.last k) (u k)) (x.fixes k inside).0 (x.releases k inside))
          (all k inside) (ap (state_after o) stays_so ∙ gone.1.left k inside),
    )

-- the keys that the walk meets, written with the table's settings
met_is : (t : TableState) (plan : Option (List Datum)) (k : ℕ) → (λ j. is_met t plan k j) ≡ met_in (settings_of t.options) plan k
met_is t None k = refl
met_is t (Some ks) k = refl

-- the keys that a query names are distinct
distinct_plan : (code : Program) (keypos : ℕ) (plan : Option (List Datum)) → AreVisited code keypos plan → IsPlan plan
distinct_plan code keypos None visited = tt
distinct_plan code keypos (Some ks) visited = visited.0

pub removed_alone : {A : Type 0} (h : Home) (t : TableState) (q : Query A) (count : ℕ) (v u : Views)
    → IsTrue h.alone → 0 < h.options.parts → IsSeen h t v → FinishesCount h (walk_of h Deletes q) count v u
    → (count ≡ number_true t (plan_of q h.options) (answer_of q.code)) × IsSeen h (after_removal t (plan_of q h.options) (answer_of q.code)) u
removed_alone h t q count v u alone some seen (found, counts, done) =
    let p = q.code in
    let plan : Option (List Datum) = plan_of q h.options in
    let distinct : IsPlan plan = distinct_plan p h.options.keypos plan (q.kept h.options.keypos (is_ordered h.options.kind)) in
    let same : yields Deletes p ≡ filter_map (λ x. if is_true p x then Some x else None) = fun_ext (those_that (is_true p)) in
    let is = seen_table h t v seen in
    let all = removed_states (λ x. if is_true p x then Some x else None) h p t.states plan _ found v u same alone some distinct seen.states done.0 in
    let left : (k : ℕ) → k < h.options.parts → cut_state (settings_of t.options) p (met_in (settings_of t.options) plan k) (t.states k) ≡ state_after (settings_of h.options) (u k) =
    subst (λ (o : Options). (k : ℕ) → k < h.options.parts → cut_state (settings_of o) p (met_in (settings_of o) plan k) (t.states k) ≡ state_after (settings_of h.options) (u k)) (sym seen.options) all.1 in (
      counts ∙ ap (λ (xs : List Datum). min (length xs) most_counted)
          (all.0 ∙ ap (λ (y : TableState). answers_in (λ x. if is_true p x then Some x else None) (whole y plan)) (sym is)
          ∙ ap (λ (g : List Datum → List Datum). flat_map (λ (r : Row). g r.1) (rows_seen (whole t plan))) (sym same)),
      record {
        options = seen.options;
        states = λ k inside. ap (λ (d : Datum → Bool). cut_state (settings_of t.options) p d (t.states k)) (met_is t plan k) ∙ left k inside;
      },
    )
