use Rattle.std.proofs.Common.{◌<◌, length, arith, ap, sym, ◌∙◌}
use Rattle.std.specs.Option.{option_copied}
use Rattle.term_core.specs.Limits.{depth}
use Rattle.term_core.specs.Term.{tail_of}
use Rattle.term_core.specs.TermFalls.{depth-cells}
use Rattle.term_core.proofs.HashLemmas.{key_hash-cells}
use Rattle.term_core.proofs.RowLemmas.{depth-element, depth-entry}
use Rattle.term_core.proofs.hash.+hash.Goals as goal

pub hash_of-mix_list-requires : goal.hash_of-mix_list-requires
hash_of-mix_list-requires g t c κs within =
    let deep = depth-cells c.in-List.elements.now (tail_of (option_copied c.in-List.tail)) c.in-List.ensures.split.0 in
    let whole = ap depth c.in-List.ensures.value in (omega arith, (within, c.in-List.ensures.split))

pub mix_elements-hash_of-requires : goal.mix_elements-hash_of-requires
mix_elements-hash_of-requires g t c κs within =
    let there : c.loop-i.i < length c.args.elements.now = omega arith in
    let deep = depth-element c.args.elements.now c.loop-i.i c.index-elements-i.result there c.index-elements-i.is in (omega arith, within)

pub mix_list-returns : goal.mix_list-returns
mix_list-returns g t c =
    rw (c.mix_elements.ensures, c.hash_of_tail.ensures) at c.mix.ensures ∙ sym (key_hash-cells c.args.elements.now (option_copied c.args.tail) c.requires.some c.requires.tail)

pub mix_pairs-hash_of-key-requires : goal.mix_pairs-hash_of-key-requires
mix_pairs-hash_of-key-requires g t c κs within =
    let there : c.loop-i.i < length c.args.pairs.now = omega arith in
    let deep = depth-entry c.args.pairs.now c.loop-i.i c.index-pairs-i.result there c.index-pairs-i.is in
    let same = ap (λ p. depth p.0) c.index-pairs-i.is in (omega arith, within)

pub mix_pairs-hash_of-value-requires : goal.mix_pairs-hash_of-value-requires
mix_pairs-hash_of-value-requires g t c κs within =
    let there : c.loop-i.i < length c.args.pairs.now = omega arith in
    let deep = depth-entry c.args.pairs.now c.loop-i.i c.index-pairs-i-in-loop-i.result there c.index-pairs-i-in-loop-i.is in
    let same = ap (λ p. depth p.1) c.index-pairs-i-in-loop-i.is in (omega arith, within)
