use Rattle.std.proofs.Common.{length, ap, arith}
use Rattle.mspec_syntax.specs.Rising.{rank_of}
use Rattle.mspec_syntax.proofs.RankLemmas.{rank-below}
use Rattle.compiler_patterns.proofs.slots.VariableSlots.slot.Goals as goal

pub overflow_cast-result : goal.overflow_cast-result
overflow_cast-result g c =
    omega (arith, rank-below c.args.self.now c.args.number c.requires, c.count_before-rank.ensures, c.self.invariant, ap length c.self.view_is, ap (λ l. rank_of l c.args.number) c.self.view_is)
