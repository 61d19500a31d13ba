use Rattle.std.proofs.Common.{◌≡◌, List, All, [], ◌∷◌, length, ap, subst, sym, ◌∙◌, arith, refl}
use Rattle.std.proofs.lemmas.List.{nil_from_length, length-append}
use Rattle.std.proofs.lemmas.List.Elements.{All-head, All-tail}
use Rattle.gate.specs.Views.{GateId}
use Rattle.tables.specs.Options.{settings_of}
use Rattle.tables.specs.Opened.{AreDealt}
use Rattle.tables.proofs.opening.new_gates.Goals as goal

pub loop-part-init : goal.loop-part-init
loop-part-init g c =
    let given = c.into_iter-part-iterator.ensures.into_iter_gives.0 in (
      refl,
      omega (arith, ap length c.new-gates.ensures.items, ap length given),
      subst (All (λ p. (g.P.Part.settings p ≡ settings_of c.args.options) × g.P.Part.is_after p [])) (sym given) c.requires.opening,
      subst (λ (gates : List GateId). AreDealt (settings_of c.args.options) gates c.args.sessions.now.items) (sym c.new-gates.ensures.items) c.requires.dealt,
    )

pub new_gate-requires-clause-opening : goal.new_gate-requires-clause-opening
new_gate-requires-clause-opening g c =
    let Opening : g.row.P.Denot → Type 0 = λ p. (g.P.Part.settings p ≡ settings_of c.args.options) × g.P.Part.is_after p [] in
    All-head Opening c.in-Some.part c.next.new.self.rest.items (subst (All Opening) c.in-Some.ensures.steps.0 c.loop-part.invariant.2)

pub loop-part-preserved : goal.loop-part-preserved
loop-part-preserved g c =
    let Opening : g.row.P.Denot → Type 0 = λ p. (g.P.Part.settings p ≡ settings_of c.args.options) × g.P.Part.is_after p [] in
    let split = c.in-Some.ensures.steps.0 in (
      c.new_gate.ensures.count ∙ c.loop-part.invariant.0,
      omega (arith, ap length c.in-Ok.ensures.items, length-append c.loop-part.gates.items (c.in_ok-gate.gate ∷ []), ap length split, c.loop-part.invariant.1),
      All-tail Opening c.in-Some.part c.next.new.self.rest.items (subst (All Opening) split c.loop-part.invariant.2),
      subst (λ (gates : List GateId). AreDealt (settings_of c.args.options) gates c.new_gate.new.sessions.items) (sym c.in-Ok.ensures.items)
          (c.in_ok-gate.ensures.dealt c.loop-part.gates.items c.loop-part.invariant.3),
    )

pub returns-clause-dealt : goal.returns-clause-dealt
returns-clause-dealt g c =
    let over : c.loop-part.part-iterator.rest.items ≡ [] = nil_from_length c.loop-part.part-iterator.rest.items (sym c.loop-part.part-iterator.rest.ok.0 ∙ c.in-None.ensures.steps.0) in (
      omega (arith, ap length over, c.loop-part.invariant.1),
      c.loop-part.invariant.3,
    )
