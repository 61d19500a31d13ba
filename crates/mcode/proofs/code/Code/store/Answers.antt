use Rattle.std.proofs.Common.{ap, arith, sym, subst, length, ◌<◌, ◌∙◌}
use Rattle.std.proofs.lemmas.List.{length-set}
use Rattle.std.proofs.lemmas.List.Elements.{All-set}
use Rattle.mcode.specs.Program.{IsRoutine, code_of}
use Rattle.mcode.specs.Building.{with_stored}
use Rattle.mcode.proofs.BuildLemmas.{code_whole, body_whole, body_set}
use Rattle.mcode.proofs.code.Code.store.Goals as goal

pub invariant_of-self : goal.invariant_of-self
invariant_of-self g c =
    code_whole _ _ _ c.self.invariant.seen.constants (body_whole _ c.self.invariant.seen) (omega (arith, c.self.invariant.routine_count, length-set c.self.inside.routines.items c.args.place c.exchange.new.self))
    (All-set IsRoutine c.self.inside.routines.items c.args.place c.exchange.new.self c.exchange.ensures.within c.self.invariant.routines)

pub returns : goal.returns
returns g c =
    ap (code_of c.self.inside.constants.items c.self.inside.parts) (body_set c.self.inside.routines.items c.args.place c.args.parts c.index_mut.result.now c.exchange.new.self (subst (λ p. c.args.place < length p.around.routines) (sym c.self.view_is) c.requires) c.index_mut.ensures.value c.exchange.ensures.value)
    ∙ ap (λ p. with_stored p c.args.place c.args.parts) c.self.view_is
