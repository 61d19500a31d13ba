use Rattle.std.proofs.Common.{sym, ap, inl, inr, ◌∙◌, [], reverse}
use Rattle.std.proofs.lemmas.Result.{err_from_is_err_and}
use Rattle.mcode.specs.Building.{finished}
use Rattle.compiler_assembly.specs.Assembling.{with_blocks}
use Rattle.compiler_assembly.proofs.AssemblerLemmas.{constant_moved, constant_out, nothing_left, last_first, none_left, no_code, part_refused}
use Rattle.compiler_assembly.proofs.assembler.with_constants.Goals as goal

pub loop-term-preserved : goal.loop-term-preserved
loop-term-preserved g c =
    let builder = c.loop-term.builder in
    let rest = reverse c.pop.new.self.items in
    let front = last_first c.loop-term.left.items c.pop.new.self.items c.in-Some.term c.in-Some.ensures.items in
    ap (λ p. with_blocks rest p 0 []) c.in_ok-add_constant.ensures.ok ∙ constant_moved c.in-Some.term rest builder
    ∙ ap (λ ds. with_blocks ds builder 0 []) (sym front) ∙ c.loop-term.invariant

pub returns-in_err-add_constant-clause-refused : goal.returns-in_err-add_constant-clause-refused
returns-in_err-add_constant-clause-refused g c =
    let p = err_from_is_err_and c.from_residual.result c.from_residual.ensures.1 in
    let builder = c.loop-term.builder in
    let front = last_first c.loop-term.left.items c.pop.new.self.items c.in-Some.term c.in-Some.ensures.items in
    let whole = ap (λ ds. with_blocks ds builder 0 []) (sym front) ∙ c.loop-term.invariant in
    rw (p.1, p.2) (elim (part_refused _ _ c.in_err-add_constant.ensures.refused) [
      | inl memory ↦ inl memory
      | inr many ↦
          inr (no_code whole (constant_out c.in-Some.term (reverse c.pop.new.self.items) builder many))
    ])

pub returns-clause-ok : goal.returns-clause-ok
returns-clause-ok g c =
    let builder = c.loop-term.builder in
    let over = none_left c.loop-term.left.items c.loop-term.left.len c.loop-term.left.ok.0 c.in_default.ensures.cases.0 in
    c.finish.ensures ∙ ap finished (nothing_left builder ∙ ap (λ ds. with_blocks ds builder 0 []) (sym over) ∙ c.loop-term.invariant)
