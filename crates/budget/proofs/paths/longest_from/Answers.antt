use Rattle.std.proofs.Common.{arith, get_or}
use Rattle.std.proofs.lemmas.Option.{slice_get-get_or}
use Rattle.mcode.specs.declared.instr.Instr.TheVariants.{Load}
use Rattle.budget.specs.Pass.{code_of}
use Rattle.budget.proofs.PassLemmas.{onward_small, longest_step}
use Rattle.budget.proofs.paths.longest_from.Goals as goal

pub overflow_add-result : goal.overflow_add-result
overflow_add-result c =
    let most = onward_small (get_or c.args.instructions.now c.args.pc Load) c.args.pc _ c.args.numbers.now c.requires.small in
    omega (arith, most, c.onward_number.ensures, c.weight.ensures.small, c.requires.count, c.requires.inside)

pub returns-clause-longest : goal.returns-clause-longest
returns-clause-longest c =
    let is = c.args.instructions.now in
    let here = slice_get-get_or is c.args.pc Load c.requires.inside in
    rw (c.weight.ensures.value, c.onward_number.ensures) (longest_step (code_of is) c.args.budgets.now c.args.pc _ c.args.numbers.now c.requires.jumps c.requires.later here)

pub returns-clause-small : goal.returns-clause-small
returns-clause-small c =
    let most = onward_small (get_or c.args.instructions.now c.args.pc Load) c.args.pc _ c.args.numbers.now c.requires.small in
    omega (arith, most, c.onward_number.ensures, c.weight.ensures.small, c.requires.inside)
