use Rattle.std.proofs.Common.{arith, ap, inl, inr, ◌∙◌, ◌≡◌, suc, ◌+◌}
use Rattle.std.proofs.lemmas.Result.{err_from_is_err_and, on_ok_weaker, IfErr-weaker}
use Rattle.compiler_assembly.specs.Assembling.{with_labelled}
use Rattle.compiler_assembly.proofs.AssemblerLemmas.{line_added, line_constants, line_target, line_instruction, line_label, part_refused}
use Rattle.compiler_assembly.proofs.assembler.Assembler.add_line.Goals as goal

pub returns-in_err-instr-clause-refused : goal.returns-in_err-instr-clause-refused
returns-in_err-instr-clause-refused g c =
    let back = err_from_is_err_and c.from_residual.result c.from_residual.ensures.1 in
    let cs = c.args.self.now.pool in
    let p = c.args.self.now.builder in
    rw (back.1, back.2) (elim c.in_err-instr.ensures.refused [
      | inl memory ↦ inl memory
      | inr out ↦
          elim out [
            | inl many ↦ inr (line_constants cs p c.args.slots.now c.args.place.behind c.args.place.pc c.args.line many)
            | inr far ↦ inr (line_target cs p c.args.slots.now c.args.place.behind c.args.place.pc c.args.line far)
          ]
    ])

pub returns-in_err-_pc-clause-refused : goal.returns-in_err-_pc-clause-refused
returns-in_err-_pc-clause-refused g c =
    let back = err_from_is_err_and c.from_residual-in_err-_pc.result c.from_residual-in_err-_pc.ensures.1 in
    let cs = c.args.self.now.pool in
    let p = c.args.self.now.builder in
    rw (back.1, back.2) (elim (part_refused _ _ c.in_err-_pc.ensures.refused) [
      | inl memory ↦ inl memory
      | inr many ↦ inr (line_instruction cs p c.args.slots.now c.args.place.behind c.args.place.pc c.args.line many)
    ])

pub returns-clause-ok : goal.returns-clause-ok
returns-clause-ok g c =
    let cs = c.args.self.now.pool in
    let p = c.args.self.now.builder in
    let next : c.args.place.pc + 1 ≡ suc c.args.place.pc = omega arith in
    on_ok_weaker c.add_label.result
    (λ made.
    let grown = made ∙ ap (λ q. with_labelled q c.args.slots.now (c.args.place.pc + 1) c.args.line.label) c.in_ok-_pc.ensures.ok.0 in
    line_added cs p c.instruction.new.pool c.add_label.new.builder c.args.slots.now c.args.place.behind c.args.place.pc c.args.line c.in_ok-instr.instr c.in_ok-instr.ensures.pool c.in_ok-instr.ensures.instr (rw next at grown))
    c.add_label.ensures.ok

pub returns-clause-refused : goal.returns-clause-refused
returns-clause-refused g c =
    let cs = c.args.self.now.pool in
    let p = c.args.self.now.builder in
    let next : c.args.place.pc + 1 ≡ suc c.args.place.pc = omega arith in
    IfErr-weaker c.add_label.result _ _
    (λ fault refused. elim refused [
      | inl memory ↦ inl memory
      | inr out ↦
          let here = rw (next, c.in_ok-_pc.ensures.ok.0) at out in
          inr (line_label cs p c.args.slots.now c.args.place.behind c.args.place.pc c.args.line c.in_ok-instr.instr here)
    ])
    c.add_label.ensures.refused
