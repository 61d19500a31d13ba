use Rattle.std.proofs.Common.{◌≡◌, ◌++◌, ◌∷◌, [], true, rules}
use Rattle.std.specs.HashSet.{Updates}
use Rattle.term_operand.specs.Order.{is_same}
use Rattle.walk_query.proofs.KeyLemmas.{key_put}
use Rattle.walk_query.proofs.keys.put_key.Goals as goal

pub returns-clause-set : goal.returns-clause-set
returns-clause-set g c =
    let updates : Updates is_same c.args.set.now c.insert.new.self c.args.key true = search rules in
    let more : c.push.new.self.items ≡ c.args.keys.now.items ++ c.args.key ∷ [] = search rules in
    key_put c.args.set.now c.insert.new.self c.args.keys.now.items c.push.new.self.items c.args.key c.requires updates more
