use Rattle.std.proofs.Common.{◌∙◌, ap, sym, subst, length, arith, inl, inr}
use Rattle.compiler_assembly.specs.Assembled.{IsCode}
use Rattle.compiler.proofs.CompilerLemmas.{code_is}
use Rattle.compiler.proofs.compilation.assembled.Goals as goal

pub overflow_cast-slots : goal.overflow_cast-slots
overflow_cast-slots g c =
    omega (arith, c.len-slots.ensures ∙ ap length c.variables.ensures, c.clauses-clauses.ensures.limits.variables)

pub unreachable-requires : goal.unreachable-requires
unreachable-requires g c =
    let is = code_is c.args.specification.now c.len-slots.result c.variables.result.now c.in_ok-blocks.blocks.items c.len-slots.ensures c.variables.ensures c.in_ok-blocks.ensures in
    elim c.in-Err.ensures.refused [
      | inl memory ↦ c.in_default.not-Memory memory
      | inr other ↦ other (subst IsCode (sym is) c.is_good.ensures.code)
    ]

pub returns-in-Ok : goal.returns-in-Ok
returns-in-Ok g c =
    c.in-Ok.ensures.ok ∙ code_is c.args.specification.now c.len-slots.result c.variables.result.now c.in_ok-blocks.blocks.items c.len-slots.ensures c.variables.ensures c.in_ok-blocks.ensures
