-- What a specification means on an object. (ERTS User's Guide, "Match Specifications in Erlang",
-- "Semantics".)
use Rattle.std.specs.Prelude.{◌≡◌, ◌⊎◌, true, false, Option, Some, None, option_map, List, [], ◌∷◌, codes}
use Rattle.term_operand.specs.Operand.{boolean}
use Rattle.term_core.specs.Datum.{Datum, Entries, cells, items_of}
use Rattle.term_core.specs.Datum.Entries.{no_entries, entry}
use Rattle.term_core.specs.Datum.Datum.{atom, tuple, map, nil, cons}
use Rattle.mspec_syntax.specs.Expression.{Expression, Expressions, Assignments}
use Rattle.mspec_syntax.specs.Expression.Expression.{bound, object, bindings, constant, quoted, call, and_also, or_else, new_tuple, new_cell, new_map}
use Rattle.mspec_syntax.specs.Expression.Expressions.{no_expressions, expression}
use Rattle.mspec_syntax.specs.Expression.Assignments.{no_assignments, assignment}
use Rattle.mspec_syntax.specs.Mode.{Position}
use Rattle.mspec_syntax.specs.Mode.Position.{by_itself, as_tail}
use Rattle.mspec_syntax.specs.Specification.{Clause, Specification}
use Rattle.mspec_match.specs.Match.{Substitution, values_of, lookup, Matches}
use Rattle.mspec_meaning.specs.Made.{made, made_of}
use Rattle.mspec_meaning.specs.Called.{called}
use Rattle.mspec_meaning.specs.Decided.{and_step, or_step}
use Rattle.mspec_syntax.specs.declared.mode.Mode.{Mode}
use Rattle.mspec_syntax.specs.declared.mode.Mode.TheVariants.{Condition, Body}

-- the atom true
abbrev pub true_term : Datum
true_term = atom (codes "true")

-- a value followed by other values, None if one of them is missing
abbrev pub before : Option Datum → Option (List Datum) → Option (List Datum)
before (Some d) (Some ds) = Some (d ∷ ds)
before d ds = None

-- a key with its value followed by other pairs, None if a value is missing
abbrev pub at_key : Datum → Option Datum → Option Entries → Option Entries
at_key k (Some v) (Some es) = Some (entry k v es)
at_key k v es = None

-- the list of a head and a tail, None if one of them is missing
abbrev pub joined : Option Datum → Option Datum → Option Datum
joined (Some head) (Some tail) = Some (cons head tail)
joined head tail = None

-- the value of a list that is made; its limits are checked for the list as a whole, not for its tails
abbrev pub made_list : Mode → Position → Option Datum → Option Datum
made_list mode by_itself list = made_of mode list
made_list mode as_tail list = list

abbrev mutual
  -- the value of an expression at this position
  pub value_at : Mode → Expression → Position → Substitution → Datum → Option Datum
  value_at mode (bound n) position s o = lookup s n
  value_at mode object position s o = Some o
  value_at mode bindings position s o = made mode (cells (values_of s) nil)
  value_at mode (constant d) position s o = Some d
  value_at mode (quoted d) position s o = Some d
  value_at mode (call f es) position s o = called mode f (argument_values mode es s o)
  value_at mode (and_also es) position s o = all_true mode es s o
  value_at mode (or_else es) position s o = any_true mode es s o
  value_at mode (new_tuple es) position s o =
      made_of mode (option_map (λ ds. tuple (items_of ds)) (argument_values mode es s o))
  value_at mode (new_cell e f) position s o =
      made_list mode position (joined (value_at mode e by_itself s o) (value_at mode f as_tail s o))
  value_at mode (new_map ms) position s o =
      made_of mode (option_map map (entry_values mode ms s o))

  -- the values of arguments or elements, None if one of them has none
  pub argument_values : Mode → Expressions → Substitution → Datum → Option (List Datum)
  argument_values mode no_expressions s o = Some []
  argument_values mode (expression e es) s o =
      before (value_at mode e by_itself s o) (argument_values mode es s o)

  -- the keys of a map with the values of their expressions, None if one of them has none
  pub entry_values : Mode → Assignments → Substitution → Datum → Option Entries
  entry_values mode no_assignments s o = Some no_entries
  entry_values mode (assignment k e ms) s o =
      at_key k (value_at mode e by_itself s o) (entry_values mode ms s o)

  -- the value of andalso: whether all are true, evaluated from the left up to the first that is false
  pub all_true : Mode → Expressions → Substitution → Datum → Option Datum
  all_true mode no_expressions s o = Some (boolean true)
  all_true mode (expression e es) s o =
      and_step mode (value_at mode e by_itself s o) (all_true mode es s o)

  -- the value of orelse: whether one is true, evaluated from the left up to the first that is
  pub any_true : Mode → Expressions → Substitution → Datum → Option Datum
  any_true mode no_expressions s o = Some (boolean false)
  any_true mode (expression e es) s o =
      or_step mode (value_at mode e by_itself s o) (any_true mode es s o)

-- The value of an expression, given a substitution and an object; None if it fails, which has no value in conditions
-- only.
abbrev pub value_of : Mode → Expression → Substitution → Datum → Option Datum
value_of mode e s o = value_at mode e by_itself s o

-- each condition has the value true
abbrev pub AllHold : List Expression → Substitution → Datum → Type 0
AllHold [] s o = Unit {0}
AllHold (e ∷ es) s o = (value_of Condition e s o ≡ Some true_term) × AllHold es s o

-- the value of the last expression of a body
abbrev pub body_value : List Expression → Substitution → Datum → Option Datum
body_value [] s o = None
body_value (e ∷ []) s o = value_of Body e s o
body_value (e ∷ f ∷ es) s o = body_value (f ∷ es) s o

-- the head matches the object under the substitution, and all conditions hold
pub record Applies (c : Clause) (s : Substitution) (o : Datum) : Type 0 where
  pub head : Matches c.head s o
  pub conditions : AllHold c.conditions s o

-- some substitution makes the clause apply
pub record IsApplicable (c : Clause) (o : Datum) : Type 0 where
  pub substitution : Substitution
  pub applies : Applies c substitution o

-- The first clause that applies to the object gives the answer, which is the value of its body. If no clause applies,
-- there is no answer.
abbrev pub Means : Specification → Datum → Option Datum → Type 0
Means [] o answer = answer ≡ None
Means (c ∷ cs) o answer =
    ((s : Substitution) × Applies c s o × (answer ≡ body_value c.body s o))
    ⊎ ((¬ IsApplicable c o) × Means cs o answer)
