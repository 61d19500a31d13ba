use Rattle.std.proofs.Common.{◌≡◌, [], sym, ◌∙◌}
use Rattle.std.proofs.lemmas.List.{nil_from_length}
use Rattle.term_text.proofs.Places.{put_all_itself, one_put, all_put}
use Rattle.term_text.proofs.pairs.in_tree.Goals as goal

pub loop-pair-init : goal.loop-pair-init
loop-pair-init g c = rw (c.new-tree.ensures.empty, c.into_iter-pair-iterator.ensures.into_iter_gives.0) (put_all_itself c.args.pairs.items c.requires)

pub loop-pair-preserved-in_ok-insert : goal.loop-pair-preserved-in_ok-insert
loop-pair-preserved-in_ok-insert g c =
    rw c.in_ok-insert.ensures.entries (one_put c.loop-pair.tree.entries c.loop-pair.pair-iterator.rest.items c.next.new.self.rest.items c.args.pairs.items c.in-Some.pair c.in-Some.ensures.steps.0 c.loop-pair.invariant)

pub loop-pair-preserved : goal.loop-pair-preserved
loop-pair-preserved g c =
    rw c.in_ok-insert.ensures.entries (one_put c.loop-pair.tree.entries c.loop-pair.pair-iterator.rest.items c.next.new.self.rest.items c.args.pairs.items c.in-Some.pair c.in-Some.ensures.steps.0 c.loop-pair.invariant)

pub returns : goal.returns
returns g c =
    let over : c.loop-pair.pair-iterator.rest.items ≡ [] = nil_from_length c.loop-pair.pair-iterator.rest.items (sym c.loop-pair.pair-iterator.rest.ok.0 ∙ c.in-None.ensures.steps.0) in
    all_put c.loop-pair.tree.entries c.loop-pair.pair-iterator.rest.items c.args.pairs.items over c.loop-pair.invariant
