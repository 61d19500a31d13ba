use Rattle.std.proofs.Common.{ℕ, subst}
use Rattle.ets.specs.Acts.Act.{Delete, Insert}
use Rattle.ets.specs.Calls.{at_key, at_object}
use Rattle.ets.specs.Shows.{Shows}
use Rattle.example.proofs.local.replace.Goals as goal

pub returns : goal.returns
returns c = λ t at.
    let deleted = c.delete.ensures.done t at in
    let left = (at_key c.args.table.now.session c.args.key.now (Delete c.args.key.now) t).1 in
    subst (λ (n : ℕ). Shows c.insert.new.self (at_object n c.args.object (Insert c.args.object) left).1) c.delete.ensures.same.1 (c.in_ok-insert.ensures.done left deleted.1).1
