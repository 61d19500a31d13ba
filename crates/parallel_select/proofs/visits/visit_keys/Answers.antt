use Rattle.std.proofs.Common.{◌≡◌, ◌∙◌, ◌+◌, ◌<◌, List, Option, refl, ap, sym, subst, arith, length}
use Rattle.std.specs.Prelude.{true, false, filter, get_or, ℕ, ◌%◌}
use Rattle.std.proofs.lemmas.Bool.{eq-eqb, eqb-true}
use Rattle.term_core.specs.Datum.{Datum}
use Rattle.term_core.specs.Datum.Datum.{nil}
use Rattle.term_core.specs.KeyHash.{key_hash}
use Rattle.part_core.specs.Acts.{Cursor}
use Rattle.part_core.specs.Settings.{part_of}
use Rattle.part_core.proofs.KeyLemmas.{by_test}
use Rattle.tables.specs.Options.{settings_of}
use Rattle.part_core.specs.Acts.Scope.{Named}
use Rattle.tables.specs.declared.options.Options.{Options}
use Rattle.tables.specs.Turns.{Home, Views, Follows}
use Rattle.walk_core.specs.Moments.{AreLegal}
use Rattle.walk_core.specs.Walk.{Position, at_key, start_of}
use Rattle.walks.specs.Query.{plan_of}
use Rattle.parallel_select.specs.Gained.{purpose_of}
use Rattle.parallel_select.specs.Parts.{part_walk, stands_in, Visited, Missed, GoesGaining}
use Rattle.parallel_select.proofs.GainLemmas.{gains_nothing, gains_key, misses_key}
use Rattle.parallel_select.proofs.KeyLemmas.{count_first, none_yet, key_skipped, key_taken, all_there, there}
use Rattle.parallel_select.proofs.WalkLemmas.{part_is_walk, starts_named, named_plan, behind_keys}
use Rattle.parallel_select.proofs.visits.visit_keys.Goals as goal

pub loop-number-init : goal.loop-number-init
loop-number-init g c =
    let h = g.T.TryTurns.home c.args.turns.now in
    let q = c.args.query.now in
    let w = part_walk h (purpose_of c.args.asking) q c.args.part in
    let p = stands_in h.options c.args.part in
    let ks = filter p c.args.keys.now in
    let begins = starts_named w ks (named_plan h.options c.args.part (plan_of q h.options) c.args.keys.now c.requires.named) ∙ ap (λ n. at_key n (length ks)) (sym (none_yet p c.args.keys.now)) in
    (c.requires.ready, refl, c.requires.purpose, gains_nothing h w (start_of w) (at_key (count_first p 0 c.args.keys.now) (length ks)) c.args.gained.now (g.T.TryTurns.sees c.args.turns.now) begins)

-- whether a key is in the part, given the part's number
stands : (k : Datum) (options : Options) (o : Options) (part found : ℕ) → o ≡ options → found ≡ key_hash k % o.parts → found ≡ part → part_of (settings_of options) k ≡ part
stands k options o part found same is here = sym (ap (λ (x : Options). key_hash k % x.parts) same) ∙ sym is ∙ here

elsewhere : (k : Datum) (options : Options) (o : Options) (part found : ℕ) → o ≡ options → found ≡ key_hash k % o.parts → (found ≡ part → ⊥) → stands_in options part k ≡ false
elsewhere k options o part found same is other =
    by_test (stands_in options part k) _
    (λ here. absurd (other (is ∙ ap (λ (x : Options). key_hash k % x.parts) same ∙ eqb-true (part_of (settings_of options) k) part here)))
    (λ away. away)

-- the loop's key, if it is in the part: how many of the part's keys are done after it, which of them it is, and its part
record IsTaken (options : Options) (part n : ℕ) (keys : List Datum) (key : Datum) : Type 0 where
  done : count_first (stands_in options part) (n + 1) keys ≡ count_first (stands_in options part) n keys + 1
  is : get_or (filter (stands_in options part) keys) (count_first (stands_in options part) n keys) nil ≡ key
  inside : count_first (stands_in options part) n keys < length (filter (stands_in options part) keys)
  part_is : part_of (settings_of options) key ≡ part

taken : (options o : Options) (part found n : ℕ) (keys : List Datum) (looked key : Datum) → n < length keys → looked ≡ get_or keys n looked → key ≡ get_or keys n key → o ≡ options → found ≡ key_hash looked % o.parts → found ≡ part → IsTaken options part n keys key
taken options o part found n keys looked key within looked_is key_is same found_is here =
    let p = stands_in options part in
    let looked_there = there keys n looked looked within looked_is in
    let key_there = there keys n key key within key_is in
    let stands_there = stands looked options o part found same found_is here in
    let t = key_taken p n keys within (ap p looked_there ∙ eq-eqb (part_of (settings_of options) looked) part stands_there) in
    record { done = t.0; is = t.1 ∙ key_there; inside = t.2; part_is = ap (part_of (settings_of options)) (sym key_there ∙ looked_there) ∙ stands_there }

pub loop-number-preserved-then-part_of_key-part : goal.loop-number-preserved-then-part_of_key-part
loop-number-preserved-then-part_of_key-part g c =
    let h = g.T.TryTurns.home c.args.turns.now in
    let w = part_walk h (purpose_of c.args.asking) c.args.query.now c.args.part in
    let p = stands_in h.options c.args.part in
    let keys = c.args.keys.now in
    let n = c.loop-number.number in
    let away = elsewhere c.index-keys-number.result h.options c.options-parts.result c.args.part c.part_of_key.result c.options-parts.ensures c.part_of_key.ensures.part c.if-part_of_key-part.true in
    let is_there = there keys n c.index-keys-number.result c.index-keys-number.result c.loop-number-test.true c.index-keys-number.is in
    let same = key_skipped p n keys c.loop-number-test.true (ap p is_there ∙ away) in (
      c.loop-number.invariant.0,
      c.loop-number.invariant.1,
      c.loop-number.invariant.2,
      subst (λ (m : ℕ). Follows (g.T.TryTurns.sees c.args.turns.now) (g.T.TryTurns.sees c.loop-number.turns) (GoesGaining h w (start_of w) (at_key m (length (filter p keys))) c.args.gained.now c.loop-number.gained)) (sym same) c.loop-number.invariant.3,
    )

pub loop-number-preserved : goal.loop-number-preserved
loop-number-preserved g c =
    let h = g.T.TryTurns.home c.args.turns.now in
    let q = c.args.query.now in
    let purpose = purpose_of c.args.asking in
    let w = part_walk h purpose q c.args.part in
    let p = stands_in h.options c.args.part in
    let keys = c.args.keys.now in
    let ks = filter p keys in
    let n = c.loop-number.number in
    let before = g.T.TryTurns.sees c.args.turns.now in
    let now = g.T.TryTurns.sees c.loop-number.turns in
    let later = g.T.TryTurns.sees c.visit_key.new.turns in
    let key = c.index-keys-number-in-loop-number.result in
    let t = taken h.options c.options-parts.result c.args.part c.part_of_key.result n keys c.index-keys-number.result key c.loop-number-test.true c.index-keys-number.is c.index-keys-number-in-loop-number.is c.options-parts.ensures c.part_of_key.ensures.part c.if-part_of_key-part.false in
    let visit = subst (λ (home : Home). (next : Option Cursor) × Follows now later (Visited home c.args.part purpose q.code (Named key) next c.loop-number.gained c.visit_key.new.gained)) c.loop-number.invariant.1 c.in-Ok.ensures.done in
    let made = gains_key h w (start_of w) ks (count_first p n keys) c.args.part key c.args.gained.now c.loop-number.gained c.visit_key.new.gained before now later (record { options = refl; number = refl }) (named_plan h.options c.args.part (plan_of q h.options) keys c.requires.named) t.inside t.is t.part_is c.loop-number.invariant.3 visit in (
      c.visit_key.ensures.ready,
      c.visit_key.ensures.same ∙ c.loop-number.invariant.1,
      c.visit_key.ensures.purpose,
      subst (λ (m : ℕ). Follows before later (GoesGaining h w (start_of w) (at_key m (length ks)) c.args.gained.now c.visit_key.new.gained)) (sym t.done) made,
    )

pub returns-in-Err-clause-refused : goal.returns-in-Err-clause-refused
returns-in-Err-clause-refused g c =
    let h = g.T.TryTurns.home c.args.turns.now in
    let q = c.args.query.now in
    let purpose = purpose_of c.args.asking in
    let w = part_walk h purpose q c.args.part in
    let p = stands_in h.options c.args.part in
    let keys = c.args.keys.now in
    let ks = filter p keys in
    let n = c.loop-number.number in
    let before = g.T.TryTurns.sees c.args.turns.now in
    let now = g.T.TryTurns.sees c.loop-number.turns in
    let later = g.T.TryTurns.sees c.visit_key.new.turns in
    let key = c.index-keys-number-in-loop-number.result in
    let t = taken h.options c.options-parts.result c.args.part c.part_of_key.result n keys c.index-keys-number.result key c.loop-number-test.true c.index-keys-number.is c.index-keys-number-in-loop-number.is c.options-parts.ensures c.part_of_key.ensures.part c.if-part_of_key-part.false in
    let same = c.visit_key.ensures.same ∙ c.loop-number.invariant.1 in
    let legal = subst (λ (home : Home). (v : Views) → now v → AreLegal home.options v) c.loop-number.invariant.1 (λ v b part inside. g.met.T.TryTurns.legal c.loop-number.turns v part c.loop-number.invariant.0 b inside) in
    let legal_later = subst (λ (home : Home). (v : Views) → later v → AreLegal home.options v) same (λ v b part inside. g.met.T.TryTurns.legal c.visit_key.new.turns v part c.visit_key.ensures.ready b inside) in
    let visit = subst (λ (home : Home). Follows now later (Missed home c.args.part purpose q.code (Named key) c.in-Err.field-0 c.loop-number.gained c.visit_key.new.gained)) c.loop-number.invariant.1 c.in-Err.ensures.refused in
    misses_key h w ks (count_first p n keys) c.args.part key c.args.gained.now c.loop-number.gained c.visit_key.new.gained c.in-Err.field-0 before now later (record { options = refl; number = refl }) (part_is_walk h purpose q c.args.part (g.met.T.TryTurns.fits c.args.turns.now c.requires.ready) c.requires.part) (named_plan h.options c.args.part (plan_of q h.options) keys c.requires.named) t.inside t.is t.part_is legal legal_later c.loop-number.invariant.3 visit

pub returns-clause-done : goal.returns-clause-done
returns-clause-done g c =
    let h = g.T.TryTurns.home c.args.turns.now in
    let w = part_walk h (purpose_of c.args.asking) c.args.query.now c.args.part in
    let p = stands_in h.options c.args.part in
    let keys = c.args.keys.now in
    let all = all_there p c.loop-number.number keys (omega (arith, c.loop-number-test.false)) in
    subst (λ (at : Position). Follows (g.T.TryTurns.sees c.args.turns.now) (g.T.TryTurns.sees c.loop-number.turns) (GoesGaining h w (start_of w) at c.args.gained.now c.loop-number.gained)) (behind_keys (count_first p c.loop-number.number keys) (length (filter p keys)) all) c.loop-number.invariant.3
