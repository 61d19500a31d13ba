use Rattle.std.proofs.Common.{arith}
use Rattle.term_core.proofs.LimitLemmas.{cell_count-sound}
use Rattle.term_build.proofs.RestLemmas.{rest_of-count, rest_of-next}
use Rattle.term_operand.proofs.ViewLemmas.{first_of_cells}
use Rattle.term_operand.proofs.operand.split_after.Goals as goal

pub overflow_add-result : goal.overflow_add-result
overflow_add-result g c =
    let list = c.in-List-len1-up-default in
    let first = first_of_cells _ c.head-item.result _ _ _ list.len_at_least c.head-item.is list.ensures.value in
    omega (
      arith,
      rest_of-count c.args.count c.args.list.now c.head-item.result first.0 first.1,
      cell_count-sound c.args.list.now list.ensures.within.sound,
    )

pub returns-in-List-len1-up-default : goal.returns-in-List-len1-up-default
returns-in-List-len1-up-default g c =
    let list = c.in-List-len1-up-default in
    let first = first_of_cells _ c.head-item.result _ _ _ list.len_at_least c.head-item.is list.ensures.value in
    rest_of-next c.args.count c.args.list.now c.head-item.result first.0 first.1
