use Rattle.std.proofs.Common.{◌≡◌, ◌∷◌, ◌++◌, [], ◌∙◌}
use Rattle.machine_stack.proofs.MapLemmas.{pairs_more}
use Rattle.machine_stack.proofs.made.pairs_of.Goals as goal

pub loop-key-preserved : goal.loop-key-preserved
loop-key-preserved g c =
    let keys_are : c.loop-key.keys.items ≡ c.pop.new.self.items ++ c.in-Some.key ∷ [] = c.in-Some.ensures.items in
    let values_are : c.loop-key.values.items ≡ c.pop-in-Some.new.self.items ++ c.in-Some-pop.value ∷ [] = c.in-Some-pop.ensures.items in
    let inv = rw (keys_are, values_are) at c.loop-key.invariant in
    let more = pairs_more c.pop.new.self.items c.pop-in-Some.new.self.items c.in-Some.key c.in-Some-pop.value c.loop-key.pairs.items inv.0 in
    rw c.in_ok-push-in-Some-pop.ensures.items (more.0, more.1 ∙ inv.1)
