-- What each part of a specification satisfies because it was read from a term.
use Rattle.std.specs.Prelude.{ℕ, ◌≡◌, ◌<◌, true, List, length, IfSome}
use Rattle.std.specs.List.{All}
use Rattle.term_core.specs.Datum.{Datum, cells}
use Rattle.term_core.specs.Datum.Datum.{nil}
use Rattle.term_core.specs.Limits.{IsTerm}
use Rattle.prims_table.specs.Names.{takes}
use Rattle.mspec_syntax.specs.Grammar.{is_among}
use Rattle.mspec_syntax.specs.Keys.{AreKeysRising}
use Rattle.mspec_syntax.specs.Pattern.{Pattern, Patterns, Fields, field_keys, own_term}
use Rattle.mspec_syntax.specs.Pattern.Pattern.{variable, anything, literal, tuple_of, cell_of, map_of}
use Rattle.mspec_syntax.specs.Pattern.Patterns.{no_patterns, pattern}
use Rattle.mspec_syntax.specs.Pattern.Fields.{no_fields, field}
use Rattle.mspec_syntax.specs.Expression.{Expression, Expressions, Assignments, assignment_keys, expression_count}
use Rattle.mspec_syntax.specs.Expression.Expression.{bound, object, bindings, constant, quoted, call, and_also, or_else, new_tuple, new_cell, new_map}
use Rattle.mspec_syntax.specs.Expression.Expressions.{no_expressions, expression}
use Rattle.mspec_syntax.specs.Expression.Assignments.{no_assignments, assignment}
use Rattle.mspec_syntax.specs.Specification.{Clause, clause_variables}

-- The keys of a map are in ascending order, and their list is a term.
pub record AreSoundKeys (keys : List Datum) : Type 0 where
  pub rising : AreKeysRising keys
  pub listed : IsTerm (cells keys nil)

-- if a pattern contains no variable, '_' or map, what it spells is a term
abbrev pub SpellsTerm : Pattern → Type 0
SpellsTerm p = IfSome (own_term p) IsTerm

abbrev mutual
  -- each pattern in a pattern spells a term if it spells anything, and the keys of its maps are sound
  pub IsSoundPattern : Pattern → Type 0
  IsSoundPattern (variable n) = Unit {0}
  IsSoundPattern anything = Unit {0}
  IsSoundPattern (literal d) = IsTerm d
  IsSoundPattern (tuple_of ps) = SpellsTerm (tuple_of ps) × AreSoundPatterns ps
  IsSoundPattern (cell_of p q) = SpellsTerm (cell_of p q) × IsSoundPattern p × IsSoundPattern q
  IsSoundPattern (map_of fs) = AreSoundKeys (field_keys fs) × AreSoundFields fs

  pub AreSoundPatterns : Patterns → Type 0
  AreSoundPatterns no_patterns = Unit {0}
  AreSoundPatterns (pattern p ps) = IsSoundPattern p × AreSoundPatterns ps

  -- the keys of a map and the patterns of its values are sound
  pub AreSoundFields : Fields → Type 0
  AreSoundFields no_fields = Unit {0}
  AreSoundFields (field k p fs) = IsTerm k × IsSoundPattern p × AreSoundFields fs

abbrev mutual
  -- An expression under a head with these variables is sound. Each variable in it is one of them. Each function takes
  -- the number of arguments that it is given; andalso and orelse have at least one. Terms that mean themselves are
  -- terms, and the keys of its maps are sound.
  pub IsSoundExpression : List ℕ → Expression → Type 0
  IsSoundExpression variables (bound n) = is_among variables n ≡ true
  IsSoundExpression variables object = Unit {0}
  IsSoundExpression variables bindings = Unit {0}
  IsSoundExpression variables (constant d) = IsTerm d
  IsSoundExpression variables (quoted d) = IsTerm d
  IsSoundExpression variables (call f es) =
      (takes f (expression_count es) ≡ true) × AreSoundExpressions variables es
  IsSoundExpression variables (and_also es) =
      (0 < expression_count es) × AreSoundExpressions variables es
  IsSoundExpression variables (or_else es) =
      (0 < expression_count es) × AreSoundExpressions variables es
  IsSoundExpression variables (new_tuple es) = AreSoundExpressions variables es
  IsSoundExpression variables (new_cell e f) =
      IsSoundExpression variables e × IsSoundExpression variables f
  IsSoundExpression variables (new_map ms) =
      AreSoundKeys (assignment_keys ms) × AreSoundAssignments variables ms

  pub AreSoundExpressions : List ℕ → Expressions → Type 0
  AreSoundExpressions variables no_expressions = Unit {0}
  AreSoundExpressions variables (expression e es) =
      IsSoundExpression variables e × AreSoundExpressions variables es

  -- the keys of a map and the expressions of its values are sound
  pub AreSoundAssignments : List ℕ → Assignments → Type 0
  AreSoundAssignments variables no_assignments = Unit {0}
  AreSoundAssignments variables (assignment k e ms) =
      IsTerm k × IsSoundExpression variables e × AreSoundAssignments variables ms

-- a clause with sound parts and at least one expression in its body
pub record IsSoundClause (c : Clause) : Type 0 where
  pub head : IsSoundPattern c.head
  pub conditions : All (IsSoundExpression (clause_variables c)) c.conditions
  pub body : All (IsSoundExpression (clause_variables c)) c.body
  pub answers : 0 < length c.body
