-- Which clauses can be written: those of a specification within its limits.
use Rattle.std.specs.Prelude.{ℕ, ◌≡◌, ◌≤◌, true, List, length, sum_by}
use Rattle.mcode.specs.Program.{most_slots}
use Rattle.mspec_syntax.specs.Expression.{Expression, expression_nodes}
use Rattle.mspec_syntax.specs.Grammar.{is_among}
use Rattle.mspec_syntax.specs.Sound.{IsSoundClause}
use Rattle.mspec_syntax.specs.Specification.{Clause, clause_variables, clause_nodes, most_nodes}

-- each number of the first list is in the second
abbrev pub AreAmong : List ℕ → List ℕ → Type 0
AreAmong ns vs = (n : ℕ) → is_among ns n ≡ true → is_among vs n ≡ true

-- the number of nodes of expressions under a head with these variables
abbrev pub node_total : List ℕ → List Expression → ℕ
node_total bound es = sum_by (expression_nodes (length bound)) es

-- A clause of a specification with these variables: they can be numbered, the clause's are among them, all its parts
-- are sound, and it has few enough nodes.
pub record IsWritableClause (vs : List ℕ) (c : Clause) : Type 0 where
  pub count : length vs ≤ most_slots
  pub among : AreAmong (clause_variables c) vs
  pub sound : IsSoundClause c
  pub nodes : clause_nodes c ≤ most_nodes
