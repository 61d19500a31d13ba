-- Whole walks of a session that is alone.
use Rattle.std.proofs.Common.{◌≡◌, ◌<◌, ◌+◌, ◌-◌, ℕ, Some, None, Option, List, [], ◌∷◌, ◌++◌, refl, sym, subst, ◌∙◌, ap, arith, length, set, get_or, get_or-set_same, flat_map, min, lt-ltb}
use Rattle.std.proofs.Math.Path.{fun_ext}
use Rattle.std.specs.Prelude.{IsTrue, Bool, true, false, if◌then◌else◌, nat_lt, filter, filter_map}
use Rattle.std.proofs.lemmas.List.{append-nil, set-set, set-get_or, length-set}
use Rattle.std.proofs.lemmas.List.Folds.{list_any_at}
use Rattle.term_core.specs.Datum.{Datum}
use Rattle.mcode.specs.Answer.{answer_of}
use Rattle.mcode.specs.Program.{Program}
use Rattle.part_core.specs.declared.settings.Settings.{Settings}
use Rattle.part_core.specs.Acts.{Act, Answer, Purpose, Entry, History}
use Rattle.part_core.specs.Acts.Act.{Fix, Unfix}
use Rattle.part_core.specs.Acts.Answer.{Replied}
use Rattle.part_core.specs.Acts.Purpose.{Answers, Counts}
use Rattle.part_core.specs.Acts.Said.{Nothing}
use Rattle.part_core.specs.After.{state_with}
use Rattle.part_core.specs.Legal.{state_after, IsLegal, IsRight}
use Rattle.part_core.specs.Replies.{most_counted}
use Rattle.part_core.specs.Rows.{Row, PartState, is_empty, is_fixed, is_live, opening}
use Rattle.part_core.specs.States.{IsState}
use Rattle.part_core.specs.Visits.{is_true, yields}
use Rattle.part_core.proofs.AfterLemmas.{counted_after, same_state}
use Rattle.part_core.proofs.HistoryLemmas.{legal_front_from, legal_rest_from, state_of}
use Rattle.part_core.proofs.KeyLemmas.{by_test}
use Rattle.part_core.proofs.StateLemmas.{after_replied}
use Rattle.tables.specs.Options.{settings_of}
use Rattle.tables.specs.OneThread.{TableState}
use Rattle.tables.specs.Turns.{Home, Views, TurnedAt}
use Rattle.tables.proofs.TurnLemmas.{turned_alone}
use Rattle.walk_core.specs.Goes.{way, Goes}
use Rattle.walk_core.specs.Walk.{Position}
use Rattle.walk_core.specs.Walk.Position.{AtNamed, Over}
use Rattle.walk_query.specs.declared.query.Query.{Query}
use Rattle.walks.specs.Counting.{FinishesCount}
use Rattle.walks.specs.Own.{ChangedWhere, is_fixed_first}
use Rattle.walks.specs.Query.{plan_of, walk_of}
use Rattle.walks.specs.Sights.{Sight, answers_in, first_position, key_sights, number_true, rows_seen, selected, whole}
use Rattle.walks.specs.Whole.{Finishes, Wholly}
use Rattle.walks.proofs.OneThreadLemmas.{AreStates}
use Rattle.walks.specs.Alone.{IsSeen}
use Rattle.walks.proofs.AloneLemmas.{seen_table}
use Rattle.walks.proofs.GoneLemmas.{Reads, goes_gone, gone_whole}
use Rattle.walks.proofs.NamedLemmas.{key_sight}
use Rattle.walks.proofs.PlainLemmas.{first_there, plain, starts, table_of}

-- ---- own fixes

-- an answered turn is right in the state that was seen, which satisfies the invariant
pub turn_right : (h : Home) (old new : History) (act : Act) (answer : Answer) → IsTrue h.alone → TurnedAt h old act (Some answer) new
    → IsRight (settings_of h.options) (state_after (settings_of h.options) old) (record { session = h.number; act = act; answer = answer }) × IsState (settings_of h.options) (state_after (settings_of h.options) old)
turn_right h old new act answer alone t =
    let o = settings_of h.options in
    let last : Entry = record { session = h.number; act = act; answer = answer } in
    let grown : new ≡ old ++ last ∷ [] = t.grown ∙ ap (λ (es : History). (old ++ es) ++ last ∷ []) (t.others.alone alone) ∙ ap (λ (es : History). es ++ last ∷ []) (append-nil old) in
    let legal : IsLegal o (old ++ last ∷ []) = subst (IsLegal o) grown t.legal in
    ((legal_rest_from o (opening o) old (last ∷ []) legal).0, state_of o old (legal_front_from o (opening o) old (last ∷ []) legal))

-- a state with one more fix
abbrev pub fixed_once : ℕ → PartState → PartState
fixed_once n s =
    record { rows = s.rows; fixes = set s.fixes n (get_or s.fixes n 0 + 1); slots = s.slots; base = s.base }

fixed_shows : (o : Settings) (n : ℕ) (s : PartState) → n < length s.fixes → state_with o s s.rows (set s.fixes n (get_or s.fixes n 0 + 1)) ≡ fixed_once n s
fixed_shows o n s within =
    let counts : List ℕ = set s.fixes n (get_or s.fixes n 0 + 1) in
    let there : get_or counts n 0 ≡ get_or s.fixes n 0 + 1 = get_or-set_same s.fixes n (get_or s.fixes n 0 + 1) 0 within in
    let fixed : is_fixed counts ≡ true = list_any_at (nat_lt 0) counts n 0 (omega (arith, within, length-set s.fixes n (get_or s.fixes n 0 + 1))) (lt-ltb 0 _ (omega (arith, there))) in
    counted_after o s counts ∙ ap (λ (b : Bool). record { rows = if b then s.rows else filter is_live s.rows; fixes = counts; slots = s.slots; base = if b then s.base else s.slots }) fixed

pub fixed_alone : (h : Home) (old new : History) → IsTrue h.alone → TurnedAt h old Fix (Some (Replied Nothing)) new → state_after (settings_of h.options) new ≡ fixed_once h.number (state_after (settings_of h.options) old)
fixed_alone h old new alone t =
    let o = settings_of h.options in
    let turned = turned_alone h old new Fix (Replied Nothing) alone t in
    let right = turn_right h old new Fix (Replied Nothing) alone t in
    sym turned.1 ∙ after_replied o (state_after o old) h.number Fix Nothing (sym turned.0)
    ∙ fixed_shows o h.number (state_after o old) (omega (arith, right.0.session, right.1.sessions))

-- a state with one more fix that is released again is as it was
released_alone : (h : Home) (old new : History) (s : PartState) → IsTrue h.alone → IsState (settings_of h.options) s → h.number < length s.fixes → state_after (settings_of h.options) old ≡ fixed_once h.number s → TurnedAt h old Unfix (Some (Replied Nothing)) new
    → state_after (settings_of h.options) new ≡ s
released_alone h old new s alone state within is t =
    let o = settings_of h.options in
    let n : ℕ = h.number in
    let turned = turned_alone h old new Unfix (Replied Nothing) alone t in
    let once : ℕ = get_or s.fixes n 0 + 1 in
    let counts : List ℕ = set s.fixes n once in
    let there : get_or counts n 0 ≡ once = get_or-set_same s.fixes n once 0 within in
    let less : get_or counts n 0 - 1 ≡ get_or s.fixes n 0 = omega (arith, there) in
    let back : set counts n (get_or counts n 0 - 1) ≡ s.fixes = ap (set counts n) less ∙ set-set s.fixes n once (get_or s.fixes n 0) ∙ set-get_or s.fixes n 0 in
    sym turned.1 ∙ after_replied o (state_after o old) n Unfix Nothing (sym turned.0)
    ∙ ap (λ (x : PartState). state_with o x x.rows (set x.fixes n (get_or x.fixes n 0 - 1))) is
    ∙ ap (λ (fixes : List ℕ). state_with o s s.rows fixes) back
    ∙ same_state o s state

-- the states after a session fixed the parts that it didn't fix
abbrev pub held_state : Home → Views → (ℕ → PartState) → ℕ → PartState
held_state h v states k = record {
  rows = (states k).rows;
  fixes = if is_fixed_first h v k then set (states k).fixes h.number (get_or (states k).fixes h.number 0 + 1) else (states k).fixes;
  slots = (states k).slots;
  base = (states k).base;
}

-- fixing doesn't change what visits look at
held_keys : (h : Home) (v : Views) (states : ℕ → PartState) (n : ℕ) (ks : List Datum) → key_sights (table_of h (held_state h v states)) n ks ≡ key_sights (table_of h states) n ks
held_keys h v states n [] = refl
held_keys h v states n (k ∷ ks) =
    ap (λ (rest : List Sight). key_sight (table_of h states) k (if is_empty ks then Over else AtNamed (n + 1)) ∷ rest) (held_keys h v states (n + 1) ks)

pub held_whole : (h : Home) (v : Views) (states : ℕ → PartState) (plan : Option (List Datum)) → whole (table_of h (held_state h v states)) plan ≡ whole (table_of h states) plan
held_whole h v states None = refl
held_whole h v states (Some []) = refl
held_whole h v states (Some (k ∷ ks)) = held_keys h v states 0 (k ∷ ks)

pub held_where : (h : Home) (b : Bool) (old new : History) (s : PartState) → IsTrue h.alone → s ≡ state_after (settings_of h.options) old → ChangedWhere h Fix b old new
    → ◌≡◌ {A = PartState} (record { rows = s.rows; fixes = if b then set s.fixes h.number (get_or s.fixes h.number 0 + 1) else s.fixes; slots = s.slots; base = s.base }) (state_after (settings_of h.options) new)
held_where h true old new s alone is t = ap (fixed_once h.number) is ∙ sym (fixed_alone h old new alone t)
held_where h false old new s alone is t = is ∙ ap (state_after (settings_of h.options)) (sym t)

back_where : (h : Home) (b : Bool) (old fixed last new : History) (s : PartState) → IsTrue h.alone → s ≡ state_after (settings_of h.options) old → ChangedWhere h Fix b old fixed → ChangedWhere h Unfix b last new
    → ◌≡◌ {A = PartState} (record { rows = s.rows; fixes = if b then set s.fixes h.number (get_or s.fixes h.number 0 + 1) else s.fixes; slots = s.slots; base = s.base }) (state_after (settings_of h.options) last)
    → s ≡ state_after (settings_of h.options) new
back_where h true old fixed last new s alone is t r held =
    let right = turn_right h old fixed Fix (Replied Nothing) alone t in
    let state : IsState (settings_of h.options) s = subst (IsState (settings_of h.options)) (sym is) right.1 in
    sym (released_alone h last new s alone state (omega (arith, right.0.session, state.sessions)) (sym held) r)
back_where h false old fixed last new s alone is t r held = held ∙ ap (state_after (settings_of h.options)) (sym r)

-- ---- a whole walk

wholly_states : (f : Datum → Option Datum) (h : Home) (purpose : Purpose) (p : Program) (states : ℕ → PartState) (plan : Option (List Datum)) (wanted : ℕ → ℕ) (gained : List Datum) (v u : Views) → yields purpose p ≡ filter_map f → Reads h purpose p → IsTrue h.alone → 0 < h.options.parts → AreStates h (table_of h states) v
    → Wholly h (plain h purpose p plan) wanted Over gained v u → (gained ≡ answers_in f (whole (table_of h states) plan)) × AreStates h (table_of h states) u
wholly_states f h purpose p states plan wanted gained v u same reads alone some are x =
    let o = settings_of h.options in
    let held : ℕ → PartState = held_state h v states in
    let first : Position = first_position plan in
    let are_held : AreStates h (table_of h held) x.fixed = λ k inside. held_where h (is_fixed_first h v k) (v k) (x.fixed k) (states k) alone (are k inside) (x.fixes k inside).1 in
    let went : Goes h (plain h purpose p plan) wanted (way x.fixed first []) (way x.visits.0 Over gained) = subst (λ (at : Position). Goes h (plain h purpose p plan) wanted (way x.fixed at []) (way x.visits.0 Over gained)) (starts h purpose p plan some) x.visits.1 in
    let gone = goes_gone f h purpose p held plan wanted (way x.fixed first []) (way x.visits.0 Over gained) same reads alone some are_held (first_there h.options.parts plan some) went in (
      gone_whole f h held plan wanted x.fixed x.visits.0 gained gone.0 ∙ ap (answers_in f) (held_whole h v states plan),
      λ k inside.
          let drift = x.visits.2 k inside in
          let stays : x.last k ≡ x.visits.0 k = drift.2 ∙ ap (λ (es : History). x.visits.0 k ++ es) (drift.1.alone alone) ∙ append-nil (x.visits.0 k) in
          back_where h (is_fixed_first h v k) (v k) (x.fixed k) (x.last k) (u k) (states k) alone (are k inside) (x.fixes k inside).1
          (subst (λ (b : Bool). ChangedWhere h Unfix b (x.last k) (u k)) (x.fixes k inside).0 (x.releases k inside))
          (gone.1 k inside ∙ ap (state_after o) (sym stays)),
    )

wholly_alone : (f : Datum → Option Datum) (h : Home) (t : TableState) (purpose : Purpose) (p : Program) (plan : Option (List Datum)) (wanted : ℕ → ℕ) (gained : List Datum) (v u : Views) → yields purpose p ≡ filter_map f → Reads h purpose p → IsTrue h.alone → 0 < h.options.parts → IsSeen h t v
    → Wholly h (plain h purpose p plan) wanted Over gained v u → (gained ≡ answers_in f (whole t plan)) × IsSeen h t u
wholly_alone f h t purpose p plan wanted gained v u same reads alone some seen x =
    let is = seen_table h t v seen in
    let done = wholly_states f h purpose p t.states plan wanted gained v u same reads alone some seen.states x in
    (done.0 ∙ ap (λ (y : TableState). answers_in f (whole y plan)) (sym is), record { options = seen.options; states = done.1 })

pub selected_alone : {A : Type 0} (h : Home) (t : TableState) (q : Query A) (wanted : ℕ → ℕ) (gained : List Datum) (v u : Views)
    → IsTrue h.alone → 0 < h.options.parts → IsSeen h t v → Finishes h (walk_of h Answers q) wanted gained v u
    → (gained ≡ selected t (plan_of q h.options) (answer_of q.code)) × IsSeen h t u
selected_alone h t q wanted gained v u alone some seen done =
    wholly_alone (answer_of q.code) h t Answers q.code (plan_of q h.options) wanted gained v u refl (λ s scope n. refl) alone some seen done.0

-- ---- one that counts

pub those_that : (p : Datum → Bool) (xs : List Datum) → filter p xs ≡ filter_map (λ x. if p x then Some x else None) xs
those_that p [] = refl
those_that p (x ∷ xs) =
    by_test (p x) _ (λ holds. rw holds (ap (λ ys. x ∷ ys) (those_that p xs))) (λ fails. rw fails (those_that p xs))

pub counted_alone : {A : Type 0} (h : Home) (t : TableState) (q : Query A) (count : ℕ) (v u : Views)
    → IsTrue h.alone → 0 < h.options.parts → IsSeen h t v → FinishesCount h (walk_of h Counts q) count v u
    → (count ≡ number_true t (plan_of q h.options) (answer_of q.code)) × IsSeen h t u
counted_alone h t q count v u alone some seen (found, counts, done) =
    let p = q.code in
    let same : yields Counts p ≡ filter_map (λ x. if is_true p x then Some x else None) = fun_ext (those_that (is_true p)) in
    let all = wholly_alone (λ x. if is_true p x then Some x else None) h t Counts p (plan_of q h.options) _ found v u same (λ s scope n. refl) alone some seen done.0 in (
      counts ∙ ap (λ (xs : List Datum). min (length xs) most_counted) (all.0 ∙ ap (λ (g : List Datum → List Datum). flat_map (λ (r : Row). g r.1) (rows_seen (whole t (plan_of q h.options)))) (sym same)),
      all.1,
    )
