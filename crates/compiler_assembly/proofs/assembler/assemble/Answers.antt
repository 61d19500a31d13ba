use Rattle.std.proofs.Common.{ap, inl, inr, ◌∙◌, []}
use Rattle.std.proofs.lemmas.Result.{err_from_is_err_and, IfOk-weaker, IfErr-weaker}
use Rattle.mcode.specs.Building.{finished}
use Rattle.compiler_assembly.specs.Assembling.{with_blocks}
use Rattle.compiler_assembly.proofs.AssemblerLemmas.{whole_is, slots_out, no_code, finished_assembled}
use Rattle.compiler_assembly.proofs.assembler.assemble.Goals as goal

pub returns-in_err-assembler-clause-refused : goal.returns-in_err-assembler-clause-refused
returns-in_err-assembler-clause-refused g c =
    let p = err_from_is_err_and c.from_residual.result c.from_residual.ensures.1 in
    rw (p.1, p.2) (inr (slots_out c.args.slots c.args.blocks.items c.in_err-assembler.ensures.refused))

pub returns-in_err-add_blocks-clause-refused : goal.returns-in_err-add_blocks-clause-refused
returns-in_err-add_blocks-clause-refused g c =
    let begun = c.in_ok-assembler.ensures in
    let whole = whole_is c.in_ok-assembler.assembler.pool c.in_ok-assembler.assembler.builder c.args.slots c.args.blocks.items begun.pool begun.builder in
    let p = err_from_is_err_and c.from_residual-in_err-add_blocks.result c.from_residual-in_err-add_blocks.ensures.1 in
    rw (p.1, p.2) (elim c.in_err-add_blocks.ensures.refused [ inl memory ↦ inl memory | inr out ↦ inr (no_code whole out) ])

pub returns-clause-ok : goal.returns-clause-ok
returns-clause-ok g c =
    let begun = c.in_ok-assembler.ensures in
    let whole = whole_is c.in_ok-assembler.assembler.pool c.in_ok-assembler.assembler.builder c.args.slots c.args.blocks.items begun.pool begun.builder in
    IfOk-weaker c.with_constants.result _ _
    (λ code is. is ∙ ap finished (ap (λ cs. with_blocks cs c.add_blocks.new.self.builder 0 []) c.into_terms.ensures ∙ c.in_ok-add_blocks.ensures.ok ∙ whole) ∙ finished_assembled c.args.slots c.args.blocks.items)
    c.with_constants.ensures.ok

pub returns-clause-refused : goal.returns-clause-refused
returns-clause-refused g c =
    let begun = c.in_ok-assembler.ensures in
    let whole = whole_is c.in_ok-assembler.assembler.pool c.in_ok-assembler.assembler.builder c.args.slots c.args.blocks.items begun.pool begun.builder in
    let same = ap (λ cs. with_blocks cs c.add_blocks.new.self.builder 0 []) c.into_terms.ensures ∙ c.in_ok-add_blocks.ensures.ok ∙ whole in
    IfErr-weaker c.with_constants.result _ _
    (λ fault refused. elim refused [ inl memory ↦ inl memory | inr out ↦ inr (no_code same out) ])
    c.with_constants.ensures.refused
