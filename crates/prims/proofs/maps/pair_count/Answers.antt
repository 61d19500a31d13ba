use Rattle.std.proofs.Common.{◌<◌, ◌^◌, ◌∙◌, ap, sym, arith, pos, length}
use Rattle.std.specs.Int.{w64}
use Rattle.std.proofs.lemmas.Int.{to_z_pos}
use Rattle.term_core.proofs.LimitLemmas.{entry_count-entries_of}
use Rattle.prims.proofs.maps.pair_count.Goals as goal

pub overflow_cast-result : goal.overflow_cast-result
overflow_cast-result g c =
    record { sfits = omega (arith, c.requires, entry_count-entries_of c.args.pairs.now) }

pub returns : goal.returns
returns g c =
    let small : length c.args.pairs.now < 2 ^ 63 = omega (arith, c.requires, entry_count-entries_of c.args.pairs.now) in
    to_z_pos w64 (length c.args.pairs.now) small ∙ ap pos (sym (entry_count-entries_of c.args.pairs.now))
