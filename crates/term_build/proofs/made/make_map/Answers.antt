use Rattle.term_core.specs.Datum.{entries_of}
use Rattle.term_core.specs.Datum.Datum.{map}
use Rattle.term_core.specs.MapPairs.{by_key}
use Rattle.term_build.proofs.ByKeyLemmas.{IsMapOf-by_key}
use Rattle.term_build.proofs.MadeLemmas.{made-within_limits, map-refused}
use Rattle.term_build.proofs.made.make_map.Goals as goal

pub returns-in-Ok : goal.returns-in-Ok
returns-in-Ok g c =
    let es = c.args.pairs.items in
    let whole = map (entries_of (by_key es)) in
    made-within_limits whole _ (c.in-Ok.ensures.only whole (IsMapOf-by_key es c.requires)) c.depth.ensures.within

pub returns-in_ok-unless_memory-in-Err : goal.returns-in_ok-unless_memory-in-Err
returns-in_ok-unless_memory-in-Err g c =
    map-refused c.in-Err.refused.fault c.args.pairs.items c.in-Err.ensures.refused.1 c.requires c.in_ok-unless_memory-in-Err.ensures
