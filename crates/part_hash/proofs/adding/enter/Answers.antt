use Rattle.std.proofs.Common.{ap, sym, ◌∙◌}
use Rattle.std.specs.Prelude.{is_some}
use Rattle.std.proofs.lemmas.Bool.{true≢false}
use Rattle.part_hash.proofs.AddLemmas.{only_more}
use Rattle.part_hash.proofs.adding.enter.Goals as goal

pub put-passed-requires-clause-absent : goal.put-passed-requires-clause-absent
put-passed-requires-clause-absent g c = λ m has.
    true≢false (sym (c.args.store.now.only m c.insert_reserved-at.result has) ∙ ap is_some c.insert_reserved-at.ensures.was_vacant)

pub invariant_of-store : goal.invariant_of-store
invariant_of-store g c = record {
  is_base = c.args.store.now.is_base;
  only = only_more c.args.store.now.rows c.insert_reserved-at.new.self c.args.store.now.index c.put-passed.new.self c.args.mixed c.insert_reserved-at.result c.args.row c.args.store.now.only c.insert_reserved-at.ensures.was_vacant c.insert_reserved-at.ensures.updates c.put-passed.ensures.puts;
}
