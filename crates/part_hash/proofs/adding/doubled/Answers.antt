use Rattle.std.proofs.Common.{◌++◌, ◌∷◌, [], ap, sym, ◌∙◌, arith}
use Rattle.std.proofs.lemmas.List.FromFn.{map-range_with_len_more}
use Rattle.part_hash.specs.Slots.{half_at}
use Rattle.part_hash.proofs.adding.doubled.Goals as goal

pub loop-number-preserved : goal.loop-number-preserved
loop-number-preserved g c =
    c.in_ok-push.ensures.items
    ∙ ap (λ v. c.loop-number.wide.items ++ v ∷ []) c.in_ok-half.ensures
    ∙ ap (λ vs. vs ++ half_at c.args.slots.now c.loop-number.number ∷ []) c.loop-number.invariant
    ∙ sym (map-range_with_len_more (half_at c.args.slots.now) 0 c.loop-number.number c.loop-number.number (omega arith))
