-- Turns that are visits of a walk, and turns that were refused.
use Rattle.std.proofs.Common.{◌≡◌, ◌≢◌, ℕ, refl, ap, sym, subst, ◌∙◌, List, [], ◌∷◌, ◌++◌}
use Rattle.std.specs.Prelude.{length, false, ◌==◌, IsTrue, Some, None}
use Rattle.std.proofs.lemmas.Bool.{eqb-true, eqb-false, false≢true}
use Rattle.std.proofs.lemmas.List.{append-nil}
use Rattle.term_core.specs.Datum.{Datum}
use Rattle.mcode.specs.Program.{Program}
use Rattle.part_core.specs.declared.settings.Settings.{Settings}
use Rattle.part_core.specs.Acts.{Act, Purpose, Refusal, Scope, Said, History, next_in, is_refused}
use Rattle.part_core.specs.Acts.Act.{Visit}
use Rattle.part_core.specs.Acts.Answer.{Replied, Refused}
use Rattle.part_core.specs.Legal.{state_after, IsLegal}
use Rattle.part_core.specs.Replies.{reply_of, said_by_visit, yield_of}
use Rattle.part_core.specs.Rows.{PartState}
use Rattle.part_core.specs.Visits.{is_inside}
use Rattle.part_core.proofs.CoverLemmas.{visit_yields}
use Rattle.part_core.proofs.KeyLemmas.{by_test}
use Rattle.part_core.proofs.LawLemmas.{inside_stays}
use Rattle.tables.specs.Options.{settings_of}
use Rattle.tables.specs.declared.options.Options.{Options}
use Rattle.tables.specs.Turns.{Home, Views, IsBetween, Turned}
use Rattle.tables.proofs.TurnLemmas.{turned_right, turned_front}
use Rattle.walk_core.specs.Walk.{Walk, Position, IsWalk, IsPosition, part_at, scope_at, next_position}
use Rattle.walk_core.specs.Walk.Position.{InPart, AtNamed, Over}
use Rattle.walk_core.specs.Goes.{way, IsAt, Visits, Drifted}
use Rattle.walk_core.specs.Moments.{AreLegal}
use Rattle.walk_core.proofs.StepLemmas.{visit_entry}

-- a turn that was not refused is a visit, and returns what the visit found
pub turn_visits : (h : Home) (w : Walk) (wanted : ℕ → ℕ) (at : Position) (gained : List Datum) (v u : Views) (said : Said) → IsAt h w → Turned h (part_at w at) (Visit w.purpose w.program (scope_at w at) (wanted (length gained))) (Some (Replied said)) v u
    → (found : List Datum) × Visits h w wanted (way v at gained) (way u (next_position w at (next_in said)) (gained ++ found)) × (said ≡ said_by_visit w.purpose found (next_in said))
turn_visits h w wanted at gained v u said is_at t =
    let o = settings_of w.options in
    let past : History = v (part_at w at) ++ t.here.between in
    let legal : IsLegal o (past ++ visit_entry w (scope_at w at) (wanted (length gained)) said ∷ []) =
    subst (λ (n : ℕ). IsLegal o (past ++ (record { session = n; act = Visit w.purpose w.program (scope_at w at) (wanted (length gained)); answer = Replied said }) ∷ [])) is_at.number
    (subst (λ (p : Options). IsLegal (settings_of p) (past ++ (record { session = h.number; act = Visit w.purpose w.program (scope_at w at) (wanted (length gained)); answer = Replied said }) ∷ [])) is_at.options (subst (IsLegal (settings_of h.options)) t.here.grown t.here.legal)) in
    let says = visit_yields o past w.number w.purpose w.program (scope_at w at) (wanted (length gained)) said legal in (
      yield_of o (state_after o past) w.purpose w.program (scope_at w at) (wanted (length gained)),
      record { said = said; turned = t; at = refl; gained = refl },
      says.says,
    )

replies_inside : (o : Settings) (s : PartState) (n : ℕ) (purpose : Purpose) (p : Program) (scope : Scope) (wanted : ℕ) → IsTrue (is_inside o s scope) → is_refused (reply_of o s n (Visit purpose p scope wanted)) ≡ false
unfolding reply_of
replies_inside o s n purpose p scope wanted inside = rw inside refl

-- the scope of a walk's next visit is inside its part
scope_inside : (w : Walk) (now : Views) (at : Position) → at ≢ Over → IsPosition w now at → IsTrue (is_inside (settings_of w.options) (state_after (settings_of w.options) (now (part_at w at))) (scope_at w at))
scope_inside w now (InPart part cursor) more position = position.3
scope_inside w now (AtNamed n) more position = refl
scope_inside w now Over more position = refl

-- the next visit of a walk isn't refused
pub never_outside : (h : Home) (w : Walk) (at : Position) (wanted : ℕ) (v u : Views) (refusal : Refusal) → IsAt h w → IsWalk w → at ≢ Over → IsPosition w v at → Turned h (part_at w at) (Visit w.purpose w.program (scope_at w at) wanted) (Some (Refused refusal)) v u → ⊥
never_outside h w at wanted v u refusal is_at walk more position t =
    let o = settings_of w.options in
    let part = part_at w at in
    let front : IsLegal o (v part ++ t.here.between) = subst (λ (p : Options). IsLegal (settings_of p) (v part ++ t.here.between)) is_at.options (turned_front h (v part) (u part) _ _ t.here) in
    let inside = inside_stays o (v part) t.here.between (scope_at w at) front (scope_inside w v at more position) in
    let right : Refused refusal ≡ reply_of o (state_after o (v part ++ t.here.between)) h.number (Visit w.purpose w.program (scope_at w at) wanted) = subst (λ (p : Options). Refused refusal ≡ reply_of (settings_of p) (state_after (settings_of p) (v part ++ t.here.between)) h.number (Visit w.purpose w.program (scope_at w at) wanted)) is_at.options (turned_right h (v part) (u part) _ (Refused refusal) t.here) in
    false≢true (sym (ap is_refused right ∙ replies_inside o (state_after o (v part ++ t.here.between)) h.number w.purpose w.program (scope_at w at) wanted inside))

-- a turn that ran out of memory leaves no entry of the session
pub turned_drifts : (h : Home) (part : ℕ) (act : Act) (v u : Views) → AreLegal h.options v → Turned h part act None v u → Drifted h v u
turned_drifts h part act v u legal t k inside =
    by_test (k == part) _
    (λ here. let is = eqb-true k part here in
    subst (λ (q : ℕ). (between : History) × IsBetween h between × (u q ≡ v q ++ between) × IsLegal (settings_of h.options) (u q)) (sym is)
    (t.here.between, t.here.others, t.here.grown ∙ append-nil (v part ++ t.here.between), t.here.legal))
    (λ other. let rest = t.rest k (eqb-false k part other) in
    ([], record { others = refl; alone = λ alone. refl }, rest ∙ sym (append-nil (v k)), subst (IsLegal (settings_of h.options)) (sym rest) (legal k inside)))

pub drifts_nowhere : (h : Home) (v : Views) → AreLegal h.options v → Drifted h v v
drifts_nowhere h v legal k inside =
    ([], record { others = refl; alone = λ alone. refl }, sym (append-nil (v k)), legal k inside)
