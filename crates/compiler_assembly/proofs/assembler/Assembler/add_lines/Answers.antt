use Rattle.std.proofs.Common.{arith, sym, ap, inl, inr, ◌∙◌, ◌≡◌, suc, ◌+◌, length}
use Rattle.std.proofs.lemmas.Result.{err_from_is_err_and}
use Rattle.compiler_assembly.specs.Assembling.{with_blocks, with_lines}
use Rattle.compiler_assembly.proofs.AssemblerLemmas.{lines_done, no_code}
use Rattle.compiler_assembly.proofs.assembler.Assembler.add_lines.Goals as goal

pub loop-line-preserved : goal.loop-line-preserved
loop-line-preserved g c =
    let inv = c.loop-line.invariant in
    let pool = c.loop-line.self.pool in
    let builder = c.loop-line.self.builder in
    let behind = c.loop-line.place.behind in
    let pc = c.loop-line.place.pc in
    let next : pc + 1 ≡ suc pc = omega arith in
    record {
      behind = inv.behind;
      fits = omega (arith, ap length c.in-Some.ensures, inv.fits);
      count = omega (arith, c.in_ok-add_line.ensures.count, inv.count);
      whole = λ bs.
          rw next (c.in_ok-add_line.ensures.ok c.pop_front.new.self bs ∙ ap (λ ls. with_lines pool builder c.args.slots.now behind pc ls bs) (sym c.in-Some.ensures) ∙ inv.whole bs);
    }

pub returns-in_err-add_line-clause-refused : goal.returns-in_err-add_line-clause-refused
returns-in_err-add_line-clause-refused g c =
    let p = err_from_is_err_and c.from_residual.result c.from_residual.ensures.1 in
    let inv = c.loop-line.invariant in
    let pool = c.loop-line.self.pool in
    let builder = c.loop-line.self.builder in
    let behind = c.loop-line.place.behind in
    let pc = c.loop-line.place.pc in
    rw (p.1, p.2) (elim c.in_err-add_line.ensures.refused [
      | inl memory ↦ inl memory
      | inr out ↦
          inr (λ bs. no_code (ap (λ ls. with_lines pool builder c.args.slots.now behind pc ls bs) (sym c.in-Some.ensures) ∙ inv.whole bs) (out c.pop_front.new.self bs))
    ])

pub returns-clause-ok : goal.returns-clause-ok
returns-clause-ok g c = λ bs.
    let inv = c.loop-line.invariant in
    let pool = c.loop-line.self.pool in
    let builder = c.loop-line.self.builder in
    let behind = c.loop-line.place.behind in
    let pc = c.loop-line.place.pc in
    ap (λ n. with_blocks pool builder n bs) (sym inv.behind)
    ∙ lines_done pool builder c.args.slots.now behind pc c.loop-line.lines bs c.in_default.ensures.0 inv.fits ∙ inv.whole bs
