use Rattle.std.proofs.Common.{arith, ap, inl, inr, ◌∙◌, ◌≡◌, ◌+◌, ◌<◌, length}
use Rattle.std.proofs.lemmas.Result.{err_from_is_err_and}
use Rattle.mcode.specs.Program.{most_parts}
use Rattle.compiler_assembly.proofs.AssemblerLemmas.{lines_begin, block_lines, no_code}
use Rattle.compiler_assembly.proofs.assembler.Assembler.add_block.Goals as goal

pub returns-in_default-clause-refused : goal.returns-in_default-clause-refused
returns-in_default-clause-refused g c =
    let lines = ap length c.into_parts-slots.ensures.lines in
    let many : most_parts < c.args.pc + length c.args.block.lines = omega (arith, c.in_default.ensures, c.len.ensures, lines) in
    inr (block_lines c.args.self.now.pool c.args.self.now.builder c.args.pc c.args.block c.requires many)

pub returns-clause-ok : goal.returns-clause-ok
returns-clause-ok g c =
    let lines = ap length c.into_parts-slots.ensures.lines in
    let is : c.in-Some.behind ≡ c.args.pc + length c.args.block.lines = omega (arith, c.in-Some.ensures, c.len.ensures, lines) in
    let added = rw (c.into_parts-slots.ensures.slots, c.into_parts-slots.ensures.lines) at c.in_ok-add_lines.ensures.ok in
    λ bs. added bs ∙ lines_begin c.args.self.now.pool c.args.self.now.builder c.in-Some.behind c.args.pc c.args.block bs is

pub returns-in_err-add_lines-clause-refused : goal.returns-in_err-add_lines-clause-refused
returns-in_err-add_lines-clause-refused g c =
    let p = err_from_is_err_and c.from_residual.result c.from_residual.ensures.1 in
    let lines = ap length c.into_parts-slots.ensures.lines in
    let is : c.in-Some.behind ≡ c.args.pc + length c.args.block.lines = omega (arith, c.in-Some.ensures, c.len.ensures, lines) in
    rw (p.1, p.2) (elim c.in_err-add_lines.ensures.refused [
      | inl memory ↦ inl memory
      | inr out ↦
          let here = rw (c.into_parts-slots.ensures.slots, c.into_parts-slots.ensures.lines) at out in
          inr (λ bs. no_code (lines_begin c.args.self.now.pool c.args.self.now.builder c.in-Some.behind c.args.pc c.args.block bs is) (here bs))
    ])
