use Rattle.std.proofs.Common.{rules}
use Rattle.std.proofs.lemmas.Fn.{always_returns_same}
use Rattle.term_core.specs.Order.{datum_cmp}
use Rattle.term_operand.specs.Operand.{operand_datum}
use Rattle.prims.proofs.MapLemmas.{value_found, value_between, keys_partition}
use Rattle.prims.proofs.maps.find_value.Goals as goal

pub returns-in-Ok : goal.returns-in-Ok
returns-in-Ok g c =
    let key = operand_datum c.args.key in
    let same = c.in-Ok.ensures.position (λ y. datum_cmp y.0 key) (always_returns_same _ _ _ (λ a r f' k. search rules)) in
    value_found key c.args.pairs.now c.in-Ok.place c.index-pairs-place.result c.requires c.in-Ok.ensures.bound (same c.index-pairs-place.result)

pub returns-in-Err : goal.returns-in-Err
returns-in-Err g c =
    let key = operand_datum c.args.key in
    value_between key c.args.pairs.now c.in-Err.field-0
    (c.in-Err.ensures.position (λ y. datum_cmp y.0 key) (always_returns_same _ _ _ (λ a r f' k. search rules)) (keys_partition key c.args.pairs.now c.requires))
