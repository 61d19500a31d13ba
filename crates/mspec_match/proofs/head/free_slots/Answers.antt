use Rattle.std.proofs.Common.{List, Option, None, option_map, refl, sym, subst, arith}
use Rattle.term_operand.specs.Operand.{operand_datum}
use Rattle.mspec_match.specs.Slots.{seen, AreFree}
use Rattle.term_operand.specs.declared.operand.Operand.{Operand}
use Rattle.mspec_match.proofs.SlotLemmas.{AreFree-push}
use Rattle.mspec_match.proofs.head.free_slots.Goals as goal

pub loop-slots-preserved : goal.loop-slots-preserved
loop-slots-preserved g c =
    let F : List (Option (Operand _)) → Type 0 = λ xs. AreFree (seen xs) in
    (omega (arith, c.in_ok-push.ensures.len, c.loop-slots-test.true), subst F (sym c.in_ok-push.ensures.items) (AreFree-push (λ o. option_map operand_datum o) _ None refl c.loop-slots.invariant.1))
