use Rattle.std.proofs.Common.{rules, ◌≡◌, ◌<◌, ap, sym, subst, arith, IsTrue, get_or}
use Rattle.std.specs.Prelude.{true, false, nat_lt}
use Rattle.std.proofs.Math.Logic.{∥∥₁_map}
use Rattle.std.proofs.lemmas.Bool.{lt-ltb}
use Rattle.part_core.specs.Legal.{fix_count}
use Rattle.tables.specs.declared.options.Options.{Options}
use Rattle.tables.specs.Turns.{Home, Views}
use Rattle.walks.proofs.OwnLemmas.{held_still}
use Rattle.walks.proofs.own.release_own.Goals as goal

pub unfix_at-requires-clause-granted : goal.unfix_at-requires-clause-granted
unfix_at-requires-clause-granted g c =
    let h = g.T.TryTurns.home c.args.turns.now in
    let inside : c.loop-part.part < h.options.parts = omega (arith, c.loop-part-test.true, ap (λ (o : Options). o.parts) c.options-part-end.ensures) in
    let is_own : get_or c.args.own.now c.loop-part.part false ≡ true = search rules in
    subst (λ (home : Home). ∥ ((x : Views) × g.T.TryTurns.sees c.loop-part.turns x × IsTrue (nat_lt 0 (fix_count home.number (x c.loop-part.part)))) ∥₁) (sym c.loop-part.invariant.1)
    (∥∥₁_map (held_still h c.args.own.now c.loop-part.part (g.T.TryTurns.sees c.args.turns.now) (g.T.TryTurns.sees c.loop-part.turns) inside is_own c.requires.held c.loop-part.invariant.2) (λ s. (s.0, s.1, lt-ltb 0 _ s.2)))
