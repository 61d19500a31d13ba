-- The code of patterns: what is matched is on the top of the stack, and is popped; if it doesn't match, the clause fails.
use Rattle.std.specs.Prelude.{ℕ, suc, Option, Some, None, option_map, List, [], ◌∷◌, ◌++◌}
use Rattle.term_core.specs.Datum.{Datum}
use Rattle.term_core.specs.Datum.Datum.{tuple}
use Rattle.mspec_syntax.specs.Pattern.{Pattern, Patterns, Fields, pattern_variables, own_term, own_terms}
use Rattle.mspec_syntax.specs.Pattern.Pattern.{variable, anything, literal, tuple_of, cell_of, map_of}
use Rattle.mspec_syntax.specs.Pattern.Patterns.{no_patterns, pattern}
use Rattle.mspec_syntax.specs.Pattern.Fields.{no_fields, field}
use Rattle.compiler_assembly.specs.Line.{SourceLine, plain}
use Rattle.compiler_assembly.specs.declared.op.Op.TheVariants as op
use Rattle.compiler_assembly.specs.declared.op.Target.TheVariants.{Failing}
use Rattle.compiler_patterns.specs.Leaves.{same_lines, variable_lines}

-- the number of elements
abbrev pub pattern_count : Patterns → ℕ
pattern_count no_patterns = 0
pattern_count (pattern p ps) = suc (pattern_count ps)

-- the lines of the term that a pattern spells, i.e. if it contains no variable, '_' or map; else the given lines
abbrev pub same_or : Option Datum → List SourceLine → List SourceLine
same_or None ls = ls
same_or (Some d) ls = same_lines d

-- '_' as an element needs no lines
abbrev pub unless_anything : Pattern → List SourceLine → List SourceLine
unless_anything anything ls = []
unless_anything p ls = ls

abbrev mutual
  -- the lines of a pattern, in code over these variables, of which some are known
  pub pattern_lines : List ℕ → List ℕ → Pattern → List SourceLine
  pattern_lines vs known (variable n) = variable_lines vs known n
  pattern_lines vs known anything = plain op.Drop ∷ []
  pattern_lines vs known (literal d) = same_lines d
  pattern_lines vs known (tuple_of ps) =
      same_or (option_map tuple (own_terms ps))
      (plain (op.Tuple (pattern_count ps) Failing)
      ∷ (element_lines vs known 1 ps ++ plain op.Drop ∷ []))
  pattern_lines vs known (cell_of p q) =
      same_or (own_term (cell_of p q))
      (plain (op.Cons Failing)
      ∷ plain op.Dup
      ∷ plain op.Head
      ∷ (pattern_lines vs known p
      ++ plain op.Tail ∷ pattern_lines vs (known ++ pattern_variables p) q))
  pattern_lines vs known (map_of fs) =
      plain (op.Map Failing) ∷ (field_lines vs known fs ++ plain op.Drop ∷ [])

  -- the lines of a tuple's elements, of which the first has number i; the tuple stays on the stack
  pub element_lines : List ℕ → List ℕ → ℕ → Patterns → List SourceLine
  element_lines vs known i no_patterns = []
  element_lines vs known i (pattern p ps) =
      unless_anything p (plain op.Dup ∷ plain (op.Field i) ∷ pattern_lines vs known p)
      ++ element_lines vs (known ++ pattern_variables p) (suc i) ps

  -- the lines of the values of a map's keys; the map stays on the stack
  pub field_lines : List ℕ → List ℕ → Fields → List SourceLine
  field_lines vs known no_fields = []
  field_lines vs known (field k p fs) =
      plain op.Dup
      ∷ plain (op.Value k Failing)
      ∷ (pattern_lines vs known p ++ field_lines vs (known ++ pattern_variables p) fs)

-- the lines of a clause's head: the object is pushed and matched, unless the head is '_', which can't fail or bind anything
abbrev pub head_lines : List ℕ → Pattern → List SourceLine
head_lines vs anything = []
head_lines vs p = plain op.Load ∷ pattern_lines vs [] p
