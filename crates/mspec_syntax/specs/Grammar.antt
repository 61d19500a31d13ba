-- Which term is read as which specification. (ERTS User's Guide, "Match Specifications in Erlang", "Grammar".)
use Rattle.std.specs.Prelude.{ℕ, ◌≡◌, ◌==◌, Bool, true, false, ◌||◌, Option, Some, None, List, [], ◌∷◌}
use Rattle.std.specs.List.{list_any}
use Rattle.term_core.specs.Datum.{Datum, Items, Entries, item_count, proper_elements}
use Rattle.term_core.specs.Datum.Datum.{integer, atom, tuple, map, nil, cons, binary}
use Rattle.term_core.specs.Datum.Items.{no_items, item}
use Rattle.term_core.specs.Datum.Entries.{no_entries, entry}
use Rattle.mspec_syntax.specs.Word.{word_of}
use Rattle.mspec_syntax.specs.Pattern.{Pattern, Patterns, Fields}
use Rattle.mspec_syntax.specs.Pattern.Pattern.{variable, anything, literal, tuple_of, cell_of, map_of}
use Rattle.mspec_syntax.specs.Pattern.Patterns.{no_patterns, pattern}
use Rattle.mspec_syntax.specs.Pattern.Fields.{no_fields, field}
use Rattle.mspec_syntax.specs.Callee.{callee_of}
use Rattle.mspec_syntax.specs.Expression.{Expression, Expressions, Assignments}
use Rattle.mspec_syntax.specs.Expression.Expression.{bound, object, bindings, constant, quoted, call, and_also, or_else, new_tuple, new_cell, new_map}
use Rattle.mspec_syntax.specs.Expression.Expressions.{no_expressions, expression}
use Rattle.mspec_syntax.specs.Expression.Assignments.{no_assignments, assignment}
use Rattle.mspec_syntax.specs.Specification.{Clause, Specification, clause_variables}
use Rattle.mspec_syntax.specs.declared.word.Callee.{Callee}
use Rattle.mspec_syntax.specs.declared.word.Callee.TheVariants as callee
use Rattle.mspec_syntax.specs.declared.word.Word.{Word}
use Rattle.mspec_syntax.specs.declared.word.Word.TheVariants as word

-- a word is a variable or '_'
abbrev pub is_hole : Word → Bool
is_hole (word.Variable n) = true
is_hole word.Underscore = true
is_hole w = false

-- a word is $ and digits that are not a variable's number
abbrev pub is_misnumbered : Word → Bool
is_misnumbered word.Misnumbered = true
is_misnumbered w = false

abbrev mutual
  -- an atom whose word passes the test occurs in a term
  pub mentions : (Word → Bool) → Datum → Bool
  mentions test (integer z) = false
  mentions test (atom cs) = test (word_of cs)
  mentions test (tuple ds) = items_mention test ds
  mentions test (map es) = entries_mention test es
  mentions test nil = false
  mentions test (cons head tail) = mentions test head || mentions test tail
  mentions test (binary bs) = false

  pub items_mention : (Word → Bool) → Items → Bool
  items_mention test no_items = false
  items_mention test (item d ds) = mentions test d || items_mention test ds

  pub entries_mention : (Word → Bool) → Entries → Bool
  entries_mention test no_entries = false
  entries_mention test (entry k v es) =
      mentions test k || (mentions test v || entries_mention test es)

-- a key that means itself
pub record IsKey (k : Datum) : Type 0 where
  pub whole : mentions is_hole k ≡ false
  pub numbered : mentions is_misnumbered k ≡ false

-- an atom inside a head is read as this pattern: a variable, '_', or itself
abbrev pub IsAtomPattern : List ℕ → Word → Pattern → Type 0
IsAtomPattern cs (word.Variable n) p = p ≡ variable n
IsAtomPattern cs word.Misnumbered p = ⊥
IsAtomPattern cs word.Underscore p = p ≡ anything
IsAtomPattern cs w p = p ≡ literal (atom cs)

abbrev mutual
  -- a term inside a head is read as this pattern: tuples, lists and maps of patterns, and terms that mean themselves
  pub IsPattern : Datum → Pattern → Type 0
  IsPattern (integer z) p = p ≡ literal (integer z)
  IsPattern (atom cs) p = IsAtomPattern cs (word_of cs) p
  IsPattern (tuple ds) (tuple_of ps) = ArePatterns ds ps
  IsPattern (map es) (map_of fs) = AreFields es fs
  IsPattern nil p = p ≡ literal nil
  IsPattern (cons head tail) (cell_of p q) = IsPattern head p × IsPattern tail q
  IsPattern (binary bs) p = p ≡ literal (binary bs)
  IsPattern d p = ⊥

  pub ArePatterns : Items → Patterns → Type 0
  ArePatterns no_items no_patterns = Unit {0}
  ArePatterns (item d ds) (pattern p ps) = IsPattern d p × ArePatterns ds ps
  ArePatterns ds ps = ⊥

  pub AreFields : Entries → Fields → Type 0
  AreFields no_entries no_fields = Unit {0}
  AreFields (entry k v es) (field l p fs) = IsKey k × (l ≡ k) × IsPattern v p × AreFields es fs
  AreFields es fs = ⊥

-- a pattern that may be a whole head: a variable, '_' or a tuple
abbrev pub IsHeadForm : Pattern → Type 0
IsHeadForm (variable n) = Unit {0}
IsHeadForm anything = Unit {0}
IsHeadForm (tuple_of ps) = Unit {0}
IsHeadForm p = ⊥

-- a variable is among these
abbrev pub is_among : List ℕ → ℕ → Bool
is_among ns n = list_any (λ m. m == n) ns

-- an atom in a condition or a body, under a head with these variables, is read as this expression
abbrev pub IsAtomExpression : List ℕ → List ℕ → Word → Expression → Type 0
IsAtomExpression variables cs (word.Variable n) e = (is_among variables n ≡ true) × (e ≡ bound n)
IsAtomExpression variables cs word.Misnumbered e = ⊥
IsAtomExpression variables cs word.Object e = e ≡ object
IsAtomExpression variables cs word.Bindings e = e ≡ bindings
IsAtomExpression variables cs w e = e ≡ constant (atom cs)

-- the term after const is read as this expression
abbrev pub IsQuoted : Items → Expression → Type 0
IsQuoted (item d no_items) e = e ≡ quoted d
IsQuoted ds e = ⊥

-- a call of these terms is read as this expression, given what their reading as arguments means
abbrev pub IsCall : Callee → (Expressions → Type 0) → Items → Expression → Type 0
IsCall callee.Quote Arguments ds e = IsQuoted ds e
IsCall callee.AndAlso Arguments ds (and_also es) = Arguments es
IsCall callee.OrElse Arguments ds (or_else es) = Arguments es
IsCall (callee.Function f) Arguments ds (call g es) = (g ≡ f) × Arguments es
IsCall c Arguments ds e = ⊥

abbrev mutual
  -- a term in a condition or a body, under a head with these variables, is read as this expression
  pub IsExpression : List ℕ → Datum → Expression → Type 0
  IsExpression variables (integer z) e = e ≡ constant (integer z)
  IsExpression variables (atom cs) e = IsAtomExpression variables cs (word_of cs) e
  IsExpression variables (tuple ds) e = IsTupleExpression variables ds e
  IsExpression variables (map es) (new_map ms) = AreAssignments variables es ms
  IsExpression variables nil e = e ≡ constant nil
  IsExpression variables (cons head tail) (new_cell e f) =
      IsExpression variables head e × IsExpression variables tail f
  IsExpression variables (binary bs) e = e ≡ constant (binary bs)
  IsExpression variables d e = ⊥

  -- The elements of a tuple are read as this expression: an atom that calls something and its arguments, or one tuple,
  -- which is made of its elements.
  pub IsTupleExpression : List ℕ → Items → Expression → Type 0
  IsTupleExpression variables (item (atom cs) ds) e =
      IsCall (callee_of cs (item_count ds)) (AreParts variables ds) ds e
  IsTupleExpression variables (item (tuple ds) no_items) (new_tuple es) = AreParts variables ds es
  IsTupleExpression variables ds e = ⊥

  -- arguments or elements are each read as an expression
  pub AreParts : List ℕ → Items → Expressions → Type 0
  AreParts variables no_items no_expressions = Unit {0}
  AreParts variables (item d ds) (expression e es) =
      IsExpression variables d e × AreParts variables ds es
  AreParts variables ds es = ⊥

  -- the pairs of a map are read as assignments: its keys mean themselves, each value is read as an expression
  pub AreAssignments : List ℕ → Entries → Assignments → Type 0
  AreAssignments variables no_entries no_assignments = Unit {0}
  AreAssignments variables (entry k v es) (assignment l e ms) =
      (l ≡ k) × IsExpression variables v e × AreAssignments variables es ms
  AreAssignments variables es ms = ⊥

abbrev pub AreExpressions : List ℕ → List Datum → List Expression → Type 0
AreExpressions variables [] [] = Unit {0}
AreExpressions variables (d ∷ ds) (e ∷ es) =
    IsExpression variables d e × AreExpressions variables ds es
AreExpressions variables ds es = ⊥

-- the elements of a list of conditions are read as these expressions
abbrev pub AreConditions : List ℕ → Option (List Datum) → List Expression → Type 0
AreConditions variables None es = ⊥
AreConditions variables (Some ds) es = AreExpressions variables ds es

-- the elements of a body, of which there is at least one, are read as these expressions
abbrev pub AreBodyExpressions : List ℕ → Option (List Datum) → List Expression → Type 0
AreBodyExpressions variables None es = ⊥
AreBodyExpressions variables (Some []) es = ⊥
AreBodyExpressions variables (Some (d ∷ ds)) es = AreExpressions variables (d ∷ ds) es

abbrev pub triple : Datum → Datum → Datum → Datum
triple a b c = tuple (item a (item b (item c no_items)))

-- a term that is not a tuple of three elements
abbrev pub IsNoTriple : Datum → Type 0
IsNoTriple (tuple (item a (item b (item c no_items)))) = ⊥
IsNoTriple d = Unit {0}

-- a tuple of a head, a list of conditions and a body is read as this clause; conditions and body may name the variables
-- of the head
abbrev pub IsClause : Datum → Clause → Type 0
IsClause (tuple (item head (item conditions (item body no_items)))) c =
    IsPattern head c.head
    × IsHeadForm c.head
    × AreConditions (clause_variables c) (proper_elements conditions) c.conditions
    × AreBodyExpressions (clause_variables c) (proper_elements body) c.body
IsClause d c = ⊥

abbrev pub AreClauses : List Datum → Specification → Type 0
AreClauses [] [] = Unit {0}
AreClauses (d ∷ ds) (c ∷ cs) = IsClause d c × AreClauses ds cs
AreClauses ds cs = ⊥

abbrev pub AreElementsClauses : Option (List Datum) → Specification → Type 0
AreElementsClauses None s = ⊥
AreElementsClauses (Some ds) s = AreClauses ds s

-- a proper list of clauses is read as this specification
abbrev pub IsSpecification : Datum → Specification → Type 0
IsSpecification d s = AreElementsClauses (proper_elements d) s
