use Rattle.std.proofs.Common.{sym, ap, inl, inr, ◌∙◌, reverse}
use Rattle.std.proofs.lemmas.Result.{err_from_is_err_and}
use Rattle.compiler_assembly.specs.Assembling.{with_blocks}
use Rattle.compiler_assembly.proofs.AssemblerLemmas.{last_first, none_left, last_number, no_code}
use Rattle.compiler_assembly.proofs.assembler.Assembler.add_blocks.Goals as goal

pub loop-block-preserved : goal.loop-block-preserved
loop-block-preserved g c =
    let pool = c.loop-block.self.pool in
    let builder = c.loop-block.self.builder in
    let front = last_first c.loop-block.left.items c.pop.new.self.items c.in-Some.block c.in-Some.ensures.items in
    record {
      count = c.in_ok-pc.ensures.count;
      whole = c.in_ok-pc.ensures.ok (reverse c.pop.new.self.items) ∙ ap (λ bs. with_blocks pool builder c.loop-block.pc bs) (sym front) ∙ c.loop-block.invariant.whole;
    }

pub returns-in_err-pc-clause-refused : goal.returns-in_err-pc-clause-refused
returns-in_err-pc-clause-refused g c =
    let p = err_from_is_err_and c.from_residual.result c.from_residual.ensures.1 in
    let pool = c.loop-block.self.pool in
    let builder = c.loop-block.self.builder in
    let front = last_first c.loop-block.left.items c.pop.new.self.items c.in-Some.block c.in-Some.ensures.items in
    let whole = ap (λ bs. with_blocks pool builder c.loop-block.pc bs) (sym front) ∙ c.loop-block.invariant.whole in
    rw (p.1, p.2) (elim c.in_err-pc.ensures.refused [
      | inl memory ↦ inl memory
      | inr out ↦ inr (no_code whole (out (reverse c.pop.new.self.items)))
    ])

pub returns-clause-ok : goal.returns-clause-ok
returns-clause-ok g c =
    let pool = c.loop-block.self.pool in
    let builder = c.loop-block.self.builder in
    let over = none_left c.loop-block.left.items c.loop-block.left.len c.loop-block.left.ok.0 c.in_default.ensures.cases.0 in
    last_number pool builder c.loop-block.pc ∙ ap (λ bs. with_blocks pool builder c.loop-block.pc bs) (sym over) ∙ c.loop-block.invariant.whole
