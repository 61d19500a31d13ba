-- Match specifications as mathematical objects. (ERTS User's Guide, "Match Specifications in
-- Erlang", "Grammar".)
use Rattle.std.specs.Prelude.{ℕ, suc, ◌≡◌, ◌+◌, ◌<◌, ◌≤◌, Option, MatchOption, List, [], ◌∷◌, ◌++◌, length, sum_by}
use Rattle.mspec_syntax.specs.Pattern.{Pattern, pattern_variables, pattern_nodes}
use Rattle.mspec_syntax.specs.Expression.{Expression, expression_nodes}
use Rattle.mspec_syntax.specs.Rising.{rising}

-- a head, the conditions on what it binds, and the body that gives the answer
pub record Clause : Type 0 where
  pub head : Pattern
  pub conditions : List Expression
  pub body : List Expression

-- the clauses, in the order in which they are tried
abbrev pub Specification : Type 0
Specification = List Clause

-- the variables that a clause binds, in ascending order
abbrev pub clause_variables : Clause → List ℕ
clause_variables c = rising (pattern_variables c.head)

-- the number of nodes of a clause: the clause itself, and the nodes of its head, conditions and body
abbrev pub clause_nodes : Clause → ℕ
clause_nodes c =
    let nodes = expression_nodes (length (clause_variables c)) in
    suc (pattern_nodes c.head + (sum_by nodes c.conditions + sum_by nodes c.body))

abbrev pub specification_nodes : Specification → ℕ
specification_nodes s = sum_by clause_nodes s

abbrev pub heads_variables : Specification → List ℕ
heads_variables [] = []
heads_variables (c ∷ cs) = pattern_variables c.head ++ heads_variables cs

-- the variables of all clauses together, in ascending order
abbrev pub specification_variables : Specification → List ℕ
specification_variables s = rising (heads_variables s)

-- the largest number of nodes of a specification
abbrev pub most_nodes : ℕ
most_nodes = 8000

abbrev pub most_variables : ℕ
most_variables = 256

-- a specification small enough to be accepted
pub record IsWithinLimits (s : Specification) : Type 0 where
  pub nodes : specification_nodes s ≤ most_nodes
  pub variables : length (specification_variables s) ≤ most_variables

-- what is left of some room after this number of nodes is taken, None if there are more nodes
abbrev pub Leaves : Option ℕ → ℕ → ℕ → Type 0
Leaves left room nodes = MatchOption left (room < nodes) (λ rest. rest + nodes ≡ room)
