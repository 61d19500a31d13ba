-- The pairs that are left are those that are to be inserted.
use Rattle.std.proofs.Common.{◌≡◌}
use Rattle.term_text.proofs.Keys.{put_all}
use Rattle.term_text.proofs.pairs.in_tree.Given as goal

abbrev pub invariant-loop-pair : goal.invariant-loop-pair
invariant-loop-pair g l = put_all l.tree.entries l.pair-iterator.rest.items ≡ l.fn.pairs.items
