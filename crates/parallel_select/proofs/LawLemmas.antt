-- What the walks of a worker mean.
use Rattle.std.proofs.Common.{◌≡◌, ℕ, ◌+◌, ◌<◌, ◌==◌, refl, sym, subst, arith, List, [], ◌∷◌}
use Rattle.std.specs.Prelude.{Bool, true, false, IsTrue, MatchBool, Some, nat_lt}
use Rattle.std.proofs.lemmas.Bool.{eqb-true, eqb-false, ltb-true, ltb-false}
use Rattle.std.proofs.lemmas.List.{append-nil}
use Rattle.term_core.specs.Datum.{Datum}
use Rattle.part_core.specs.Acts.{Act, Purpose}
use Rattle.part_core.specs.Acts.Act.{Fix, Unfix}
use Rattle.part_core.specs.Acts.Answer.{Replied}
use Rattle.part_core.specs.Acts.Said.{Nothing}
use Rattle.part_core.proofs.KeyLemmas.{by_test}
use Rattle.tables.specs.Turns.{Home, Views}
use Rattle.walk_core.specs.Goes.{way, whole, IsAt}
use Rattle.walk_core.specs.Moments.{span, Gathers, IsGrown, AreLegal, ArePlaced}
use Rattle.walk_core.specs.Walk.{Walk, Position, IsWalk, is_done, start_of}
use Rattle.walk_core.specs.Walk.Position.{Over}
use Rattle.walk_core.proofs.GoesLemmas.{begins_so_far, drifted_grown, ends_answer, goes_grown, grown_further, grown_itself, grown_legal, placed_before, stops_so_far}
use Rattle.walk_core.proofs.GrowthLemmas.{grown_gathers}
use Rattle.walk_core.proofs.OnceLemmas.{begins_once, grown_once, stops_once}
use Rattle.walk_core.proofs.StepLemmas.{turned_grown}
use Rattle.walk_query.specs.declared.query.Query.{Query}
use Rattle.walks.specs.Own.{is_fixed_first}
use Rattle.parallel_select.specs.Laws.{IsAnsweredWithin, IsGatheredWithin, IsWell}
use Rattle.parallel_select.specs.Parts.{part_walk, ChangesFix, Selects, Passes, Works, Ceases}
use Rattle.parallel_select.specs.Parts.Works.{begins, passes}
use Rattle.parallel_select.proofs.WalkLemmas.{part_is_walk}

changed_grown : (h : Home) (act : Act) (part : ℕ) (here : Bool) (v u : Views) → AreLegal h.options v → ChangesFix h act part here v u → IsGrown h.options v u
changed_grown h act part true v u legal turned = turned_grown h h.options part act (Some (Replied Nothing)) v u refl legal turned
changed_grown h act part false v u legal same = subst (IsGrown h.options v) (sym same) (grown_itself h.options v legal)

-- ---- one walk

-- the steps of what a walk did, one after the other
record Grows (h : Home) (w : Walk) (v fixed last u : Views) : Type 0 where
  first : IsGrown h.options v fixed
  walk : IsGrown h.options fixed last
  after : IsGrown h.options last u

grows : (h : Home) (w : Walk) (at : Position) (gained : List Datum) (v u : Views) → w.options ≡ h.options → IsAt h w → AreLegal h.options v → (x : Selects h w at gained v u) → Grows h w v x.fixed x.last u
grows h w at gained v u same is_at legal x =
    let first = changed_grown h Fix w.from (is_fixed_first h v w.from) v x.fixed legal x.fixes in
    let legal_fixed = grown_legal h.options v x.fixed first in
    let went = subst (λ o. IsGrown o x.fixed x.visits.0) same (goes_grown h w whole (way x.fixed (start_of w) []) (way x.visits.0 at gained) is_at (subst (λ o. AreLegal o x.fixed) (sym same) legal_fixed) x.visits.1) in
    let drift = drifted_grown h h.options x.visits.0 x.last refl x.visits.2 in
    let to_last = grown_further h.options x.fixed x.visits.0 x.last went drift in
    let legal_last = grown_legal h.options x.fixed x.last to_last in
    record { first = first; walk = to_last; after = changed_grown h Unfix w.from (is_fixed_first h v w.from) x.last u legal_last x.releases }

selects_grown : (h : Home) (w : Walk) (at : Position) (gained : List Datum) (v u : Views) → w.options ≡ h.options → IsAt h w → AreLegal h.options v → Selects h w at gained v u → IsGrown h.options v u
selects_grown h w at gained v u same is_at legal x =
    let g = grows h w at gained v u same is_at legal x in
    grown_further h.options v x.fixed u g.first (grown_further h.options x.fixed x.last u g.walk g.after)

selects_gathers : (h : Home) (w : Walk) (at : Position) (gained : List Datum) (v u : Views) → w.options ≡ h.options → IsAt h w → IsWalk w → AreLegal h.options v → ArePlaced h.options u → Selects h w at gained v u → IsGatheredWithin w at gained v u
selects_gathers h w at gained v u same is_at walk legal placed x =
    let g = grows h w at gained v u same is_at legal x in
    let into = λ (a b : Views) (k : IsGrown h.options a b). subst (λ o. IsGrown o a b) (sym same) k in
    let legal_fixed = subst (λ o. AreLegal o x.fixed) (sym same) (grown_legal h.options v x.fixed g.first) in
    let after = subst (λ o. IsGrown o x.last u) (sym same) g.after in
    let placed_last = placed_before w.options x.last u after (subst (λ o. ArePlaced o u) (sym same) placed) in
    let there = stops_so_far h w whole [] [] (way x.fixed (start_of w) []) at gained x.last is_at walk legal_fixed placed_last (begins_so_far w x.fixed walk) x.visits in
    let once = stops_once h w whole [] (way x.fixed (start_of w) []) at gained x.last is_at walk legal_fixed (begins_so_far w x.fixed walk).position (begins_once w x.fixed) x.visits in
    record {
      before = x.fixed;
      after = x.last;
      begins = subst (λ o. IsGrown o v x.fixed) (sym same) g.first;
      ends = after;
      gathers = grown_gathers w (span x.fixed x.last ∷ []) x.last u (is_done w at) gained walk after there.gathers;
      once = grown_once w (span x.fixed x.last ∷ []) x.last u (is_done w at) walk after once;
    }

selects_answers : (h : Home) (w : Walk) (gained : List Datum) (v u : Views) → w.options ≡ h.options → IsAt h w → IsWalk w → AreLegal h.options v → ArePlaced h.options u → Selects h w Over gained v u → IsAnsweredWithin w gained v u
selects_answers h w gained v u same is_at walk legal placed x =
    let g = selects_gathers h w Over gained v u same is_at walk legal placed x in
    record {
      before = g.before;
      after = g.after;
      begins = g.begins;
      ends = g.ends;
      answer = ends_answer w (span g.before g.after ∷ []) gained u walk (record { gathers = subst (Gathers w (span g.before g.after ∷ []) u (is_done w Over)) (sym (append-nil gained)) g.gathers; position = tt });
      once = g.once;
    }

-- what was done before and what is done later doesn't change a walk's answer
answered_later : (w : Walk) (gained : List Datum) (v x u t : Views) → IsWalk w → IsGrown w.options v x → IsGrown w.options u t → IsAnsweredWithin w gained x u → IsAnsweredWithin w gained v t
answered_later w gained v x u t walk earlier later a = record {
  before = a.before;
  after = a.after;
  begins = grown_further w.options v x a.before earlier a.begins;
  ends = grown_further w.options a.after u t a.ends later;
  answer = record { gathers = grown_gathers w (span a.before a.after ∷ []) u t (is_done w Over) gained walk later a.answer.gathers; all = a.answer.all };
  once = grown_once w (span a.before a.after ∷ []) u t (is_done w Over) walk later a.once;
}

gathered_later : (w : Walk) (at : Position) (gained : List Datum) (v x u : Views) → IsGrown w.options v x → IsGatheredWithin w at gained x u → IsGatheredWithin w at gained v u
gathered_later w at gained v x u earlier a = record {
  before = a.before;
  after = a.after;
  begins = grown_further w.options v x a.before earlier a.begins;
  ends = a.ends;
  gathers = a.gathers;
  once = a.once;
}

-- ---- all walks of a worker

module _ {A : Type 0} (h : Home) (purpose : Purpose) (q : Query A) (own : ℕ → Bool) (gained : ℕ → List Datum) where
  passes_grown : (part : ℕ) (v u : Views) → AreLegal h.options v → Passes h (part_walk h purpose q) own part (gained part) v u → IsGrown h.options v u
  passes_grown part v u legal = of (own part)
    where
      of : (mine : Bool) → MatchBool mine (Selects h (part_walk h purpose q part) Over (gained part) v u) (u ≡ v) → IsGrown h.options v u
      of true x = selects_grown h (part_walk h purpose q part) Over (gained part) v u refl (record { options = refl; number = refl }) legal x
      of false same = subst (IsGrown h.options v) (sym same) (grown_itself h.options v legal)

  works_grown : (v : Views) → AreLegal h.options v → (count : ℕ) (u : Views) → Works h (part_walk h purpose q) own gained v count u → IsGrown h.options v u
  works_grown v legal count u begins = grown_itself h.options v legal
  works_grown v legal count u (passes {part = part} {u = x} {w = w} works pass) =
      let so_far = works_grown v legal part x works in
      grown_further h.options v x u so_far (passes_grown part x u (grown_legal h.options v x so_far) pass)

  walk_there : (v : Views) → IsWell h v → (part : ℕ) → part < h.options.parts → IsWalk (part_walk h purpose q part)
  walk_there v well part inside = part_is_walk h purpose q part (well.parts, well.number) inside

  pub parts_answered : (v : Views) → IsWell h v → (count : ℕ) (u : Views) → ArePlaced h.options u → Works h (part_walk h purpose q) own gained v count u → (part : ℕ) → part < count → part < h.options.parts → IsTrue (own part) → IsAnsweredWithin (part_walk h purpose q part) (gained part) v u
  parts_answered v well count u placed begins part below inside mine = absurd (omega (arith, below))
  parts_answered v well count u placed (passes {part = last} {u = x} {w = w} works pass) part below inside mine =
      let so_far = works_grown v well.legal last x works in
      let legal = grown_legal h.options v x so_far in
      let later = passes_grown last x u legal pass in
      by_test (part == last) _
      (λ same.
      let is = eqb-true part last same in
      let walk = walk_there v well part inside in
      let here = subst (λ (k : ℕ). Passes h (part_walk h purpose q) own k (gained k) x u) (sym is) pass in
      let selects = subst (λ (b : Bool). MatchBool b (Selects h (part_walk h purpose q part) Over (gained part) x u) (u ≡ x)) mine here in
      answered_later (part_walk h purpose q part) (gained part) v x u u walk so_far (grown_itself h.options u (grown_legal h.options x u later)) (selects_answers h (part_walk h purpose q part) (gained part) x u refl (record { options = refl; number = refl }) walk legal placed selects))
      (λ other.
      let apart = eqb-false part last other in
      let before : part < last = less part last below apart in
      answered_later (part_walk h purpose q part) (gained part) v v x u (walk_there v well part inside) (grown_itself h.options v well.legal) later (parts_answered v well last x (placed_before h.options x u later placed) works part before inside mine))
    where
      less : (k last : ℕ) → k < last + 1 → (k ≡ last → ⊥) → k < last
      less k last below apart =
          by_test (nat_lt k last) _ (λ lt. ltb-true k last lt) (λ ge. let above = ltb-false k last ge in absurd (apart (omega (arith, above, below))))

  pub broken_gathered : (last : ℕ) (v u : Views) → IsWell h v → ArePlaced h.options u → Ceases h (part_walk h purpose q) own gained last v u
      → ((part : ℕ) → part < last → IsTrue (own part) → IsAnsweredWithin (part_walk h purpose q part) (gained part) v u)
      × ((at : Position) × IsGatheredWithin (part_walk h purpose q last) at (gained last) v u)
  broken_gathered last v u well placed c =
      let so_far = works_grown v well.legal last c.before c.works in
      let legal = grown_legal h.options v c.before so_far in
      let later = selects_grown h (part_walk h purpose q last) c.last.at (gained last) c.before u refl (record { options = refl; number = refl }) legal c.last.selects in (
        (λ part below mine.
            answered_later (part_walk h purpose q part) (gained part) v v c.before u (walk_there v well part (omega (arith, below, c.inside))) (grown_itself h.options v well.legal) later (parts_answered v well last c.before (placed_before h.options c.before u later placed) c.works part below (omega (arith, below, c.inside)) mine)),
        (
          c.last.at,
          gathered_later (part_walk h purpose q last) c.last.at (gained last) v c.before u so_far (selects_gathers h (part_walk h purpose q last) c.last.at (gained last) c.before u refl (record { options = refl; number = refl }) (walk_there v well last c.inside) legal placed c.last.selects),
        ),
      )
