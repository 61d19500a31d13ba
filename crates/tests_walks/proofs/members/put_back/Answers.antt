use Rattle.std.proofs.Common.{rules, ◌≡◌, ◌++◌, ◌∷◌, []}
use Rattle.std.proofs.lemmas.List.Elements.{All-push}
use Rattle.tables.specs.Sessions.{IsOpened}
use Rattle.tests_walks.proofs.members.put_back.Goals as goal

pub returns-in-Some : goal.returns-in-Some
returns-in-Some g c =
    let items : c.push.new.self.items ≡ c.args.sessions.items ++ (c.args.last ∷ []) = search rules in
    rw items (All-push (λ s. IsOpened c.args._table.now.options c.args._table.now.gates.items s.number s.passes.items) c.args.sessions.items c.args.last c.requires.0 c.requires.1)
