use Rattle.machine_stack.proofs.MapLemmas.{pairs_apart}
use Rattle.machine_stack.proofs.made.map_of.Goals as goal

pub make_map-requires : goal.make_map-requires
make_map-requires g c =
    rw c.in_ok-pairs.ensures (pairs_apart c.args.keys.items c.args.values.items c.requires.count c.requires.apart)
