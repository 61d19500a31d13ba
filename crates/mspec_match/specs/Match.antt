-- When a pattern matches a term. (ERTS User's Guide, "Match Specifications in Erlang",
-- "Semantics".)
use Rattle.std.specs.Prelude.{ℕ, ◌≡◌, ◌==◌, if◌then◌else◌, Option, Some, None, List, [], ◌∷◌, map}
use Rattle.prims.specs.Maps.{value_at}
use Rattle.term_core.specs.Datum.{Datum, Items, Entries}
use Rattle.term_core.specs.Datum.Datum.{tuple, cons, map as table}
use Rattle.term_core.specs.Datum.Items.{no_items, item}
use Rattle.mspec_syntax.specs.Pattern.{Pattern, Patterns, Fields, pattern_variables}
use Rattle.mspec_syntax.specs.Pattern.Pattern.{variable, anything, literal, tuple_of, cell_of, map_of}
use Rattle.mspec_syntax.specs.Pattern.Patterns.{no_patterns, pattern}
use Rattle.mspec_syntax.specs.Pattern.Fields.{no_fields, field}
use Rattle.mspec_syntax.specs.Rising.{rising}

-- a finite map from variables to terms, as its pairs in ascending order of the variables
abbrev pub Substitution : Type 0
Substitution = List (ℕ × Datum)

-- the variables that have a value
abbrev pub domain : Substitution → List ℕ
domain s = map (λ e. e.0) s

-- the values, in the order of their variables
abbrev pub values_of : Substitution → List Datum
values_of s = map (λ e. e.1) s

-- the value of a variable, None if it has none
abbrev pub lookup : Substitution → ℕ → Option Datum
lookup [] n = None
lookup (e ∷ s) n = if e.0 == n then Some e.1 else lookup s n

abbrev mutual
  -- The term is the pattern with each variable replaced by its value, each '_' by any term, and
  -- each map by a map that has at least its keys, whose values are its patterns in the same way.
  pub Fits : Pattern → (ℕ → Option Datum) → Datum → Type 0
  Fits (variable n) s t = s n ≡ Some t
  Fits anything s t = Unit {0}
  Fits (literal d) s t = t ≡ d
  Fits (tuple_of ps) s (tuple ds) = AllFit ps s ds
  Fits (cell_of p q) s (cons head tail) = Fits p s head × Fits q s tail
  Fits (map_of fs) s (table es) = FieldsFit fs s es
  Fits p s t = ⊥

  pub AllFit : Patterns → (ℕ → Option Datum) → Items → Type 0
  AllFit no_patterns s no_items = Unit {0}
  AllFit (pattern p ps) s (item d ds) = Fits p s d × AllFit ps s ds
  AllFit ps s ds = ⊥

  pub FieldsFit : Fields → (ℕ → Option Datum) → Entries → Type 0
  FieldsFit no_fields s es = Unit {0}
  FieldsFit (field k p fs) s es =
      ((v : Datum) × (value_at k es ≡ Some v) × Fits p s v) × FieldsFit fs s es

-- Pattern p matches term t under s, a finite map whose keys are exactly the variables of p.
pub record Matches (p : Pattern) (s : Substitution) (t : Datum) : Type 0 where
  pub domain : domain s ≡ rising (pattern_variables p)
  pub fits : Fits p (lookup s) t
