use Rattle.std.proofs.Common.{◌<◌, ◌^◌, ◌∙◌, ap, sym, arith, pos, length}
use Rattle.std.specs.Int.{w64}
use Rattle.std.proofs.lemmas.Int.{to_z_pos}
use Rattle.term_core.proofs.LimitLemmas.{item_count-items_of}
use Rattle.prims.proofs.tuples.element_count.Goals as goal

pub overflow_cast-result : goal.overflow_cast-result
overflow_cast-result g c =
    record { sfits = omega (arith, c.requires, item_count-items_of c.args.elements.now) }

pub returns : goal.returns
returns g c =
    let small : length c.args.elements.now < 2 ^ 63 = omega (arith, c.requires, item_count-items_of c.args.elements.now) in
    to_z_pos w64 (length c.args.elements.now) small ∙ ap pos (sym (item_count-items_of c.args.elements.now))
