use Rattle.std.proofs.Common.{sym, subst, length, ◌<◌}
use Rattle.mcode.specs.Program.{Program, most_routines}
use Rattle.mcode.proofs.BuildLemmas.{code_whole, body_whole, routines_pushed}
use Rattle.mcode.proofs.code.Code.push_routine.Goals as goal

pub invariant_of-self : goal.invariant_of-self
invariant_of-self g c =
    let few = subst (λ (p : Program). length p.around.routines < most_routines) (sym c.self.view_is) c.requires.count in
    let pushed = routines_pushed c.push.result c.self.inside.routines.items c.push.new.self.items c.args.routine c.push.ensures.items few c.self.invariant.routines c.requires.within in
    code_whole _ _ _ c.self.invariant.seen.constants (body_whole _ c.self.invariant.seen) pushed.0 pushed.1
