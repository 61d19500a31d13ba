-- the keys so far, followed by those of the clauses that are left, are those of all clauses
use Rattle.std.proofs.Common.{◌≡◌, [], drop}
use Rattle.walk_query.specs.Named.{HasKeys, named_from}
use Rattle.walk_query.proofs.keys.keys_of.Given as goal

abbrev pub invariant-loop-clause : goal.invariant-loop-clause
invariant-loop-clause g l =
    HasKeys l.set l.keys.items
    × (named_from l.keypos l.keys.items (drop l.clause-index l.clauses) ≡ named_from l.keypos [] l.clauses)
