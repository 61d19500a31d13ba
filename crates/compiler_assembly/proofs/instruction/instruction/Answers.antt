use Rattle.std.proofs.Common.{◌≡◌, sym, subst, ◌∙◌}
use Rattle.std.proofs.lemmas.Result.{IfOk-weaker}
use Rattle.std.specs.Prelude.{MatchOption}
use Rattle.compiler_assembly.specs.Assembled.{resolved}
use Rattle.compiler_assembly.proofs.InstructionLemmas.{instr_reached}
use Rattle.compiler_assembly.proofs.instruction.instruction.Goals as goal
use Rattle.compiler_assembly.proofs.instruction.instruction.Goals.{in-None, in-Some+in-Some-resolve}

pub returns-clause-instr : goal.returns-clause-instr
returns-clause-instr g c = IfOk-weaker c.instruction_to.result _ _ (λ instr is all front.
    let here = is all front in
    let to = c.match-target.to in
    let behind = c.args.place.behind in
    let pc = c.args.place.pc in
    elim c.match-target.branch [
      | in-None w ↦
          let reached = subst (λ t. MatchOption t (Unit {0}) (λ t. to ≡ resolved behind pc t)) (sym w.in-None.is ∙ c.target.ensures) tt in
          here ∙ instr_reached all behind pc to c.args.op reached
      | in-Some+in-Some-resolve w ↦
          let reached = subst (λ t. MatchOption t (Unit {0}) (λ t. to ≡ resolved behind pc t)) (sym w.in-Some.is ∙ c.target.ensures) (w.to-is ∙ w.in-Some-resolve.ensures) in
          here ∙ instr_reached all behind pc to c.args.op reached
    ])
    c.instruction_to.ensures.instr
