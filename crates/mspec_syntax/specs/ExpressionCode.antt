-- An expression as a row of numbers, functions and terms from which it can be read back. Proofs use it to tell
-- expressions apart. Each part follows its own parts, and a stack of what was read so far puts them together.
use Rattle.std.specs.Prelude.{ℕ, ◌≡◌, ◌==◌, if◌then◌else◌, List, [], ◌∷◌, refl}
use Rattle.std.specs.Coded.{Coded, code_by, coded×, coded_ℕ, coded_list}
use Rattle.std.proofs.Common.{◌∙◌, ap}
use Rattle.term_core.specs.Datum.{Datum}
use Rattle.term_core.specs.Datum.Datum.{nil}
use Rattle.term_core.specs.DatumCode.{datum_code}
use Rattle.prims_table.specs.PrimitiveCode.{primitive_code}
use Rattle.prims_table.specs.declared.prim.Primitive.{Primitive}
use Rattle.prims_table.specs.declared.prim.Primitive.TheVariants as prim
use Rattle.prims_table.specs.declared.prim.Function.TheVariants as function
use Rattle.prims_table.specs.declared.prim.BooleanFunction.TheVariants as boolean
use Rattle.mspec_syntax.specs.Expression.{Expression, Expressions, Assignments}
use Rattle.mspec_syntax.specs.Expression.Expression.{bound, object, bindings, constant, quoted, call, and_also, or_else, new_tuple, new_cell, new_map}
use Rattle.mspec_syntax.specs.Expression.Expressions.{no_expressions, expression}
use Rattle.mspec_syntax.specs.Expression.Assignments.{no_assignments, assignment}

-- one part in such a row: the number of its kind, a variable's number, a term and a function
abbrev pub Mark : Type 0
Mark = ℕ × (ℕ × (Datum × Primitive))

abbrev pub no_function : Primitive
no_function = prim.Function (function.Boolean boolean.Not)

abbrev pub part : ℕ → Mark
part kind = (kind, (0, (nil, no_function)))

abbrev pub of_variable : ℕ → Mark
of_variable n = (0, (n, (nil, no_function)))

abbrev pub of_term : ℕ → Datum → Mark
of_term kind d = (kind, (0, (d, no_function)))

abbrev pub of_function : Primitive → Mark
of_function f = (4, (0, (nil, f)))

abbrev mutual
  pub row : Expression → List Mark → List Mark
  row (bound n) rest = of_variable n ∷ rest
  row object rest = part 1 ∷ rest
  row bindings rest = part 2 ∷ rest
  row (constant d) rest = of_term 3 d ∷ rest
  row (quoted d) rest = of_term 14 d ∷ rest
  row (call f es) rest = expressions_row es (of_function f ∷ rest)
  row (and_also es) rest = expressions_row es (part 5 ∷ rest)
  row (or_else es) rest = expressions_row es (part 6 ∷ rest)
  row (new_tuple es) rest = expressions_row es (part 7 ∷ rest)
  row (new_cell e f) rest = row e (row f (part 8 ∷ rest))
  row (new_map ms) rest = assignments_row ms (part 9 ∷ rest)

  pub expressions_row : Expressions → List Mark → List Mark
  expressions_row no_expressions rest = part 10 ∷ rest
  expressions_row (expression e es) rest = row e (expressions_row es (part 11 ∷ rest))

  pub assignments_row : Assignments → List Mark → List Mark
  assignments_row no_assignments rest = part 12 ∷ rest
  assignments_row (assignment k e ms) rest = row e (assignments_row ms (of_term 13 k ∷ rest))

pub data Held : Type 0 where
  one : Expression → Held
  some : Expressions → Held
  assigned : Assignments → Held

abbrev pub to_whole : (Expressions → Expression) → List Held → List Held
to_whole make (some es ∷ held) = one (make es) ∷ held
to_whole make held = held

abbrev pub to_cell : List Held → List Held
to_cell (one f ∷ one e ∷ held) = one (new_cell e f) ∷ held
to_cell held = held

abbrev pub to_map : List Held → List Held
to_map (assigned ms ∷ held) = one (new_map ms) ∷ held
to_map held = held

abbrev pub to_expressions : List Held → List Held
to_expressions (some es ∷ one e ∷ held) = some (expression e es) ∷ held
to_expressions held = held

abbrev pub to_assignments : Datum → List Held → List Held
to_assignments k (assigned ms ∷ one e ∷ held) = assigned (assignment k e ms) ∷ held
to_assignments k held = held

abbrev pub taken : Mark → List Held → List Held
taken m held =
    if m.0 == 0 then one (bound m.1.0) ∷ held
    else if m.0 == 1 then one object ∷ held
    else if m.0 == 2 then one bindings ∷ held
    else if m.0 == 3 then one (constant m.1.1.0) ∷ held
    else if m.0 == 4 then to_whole (call m.1.1.1) held
    else if m.0 == 5 then to_whole and_also held
    else if m.0 == 6 then to_whole or_else held
    else if m.0 == 7 then to_whole new_tuple held
    else if m.0 == 8 then to_cell held
    else if m.0 == 9 then to_map held
    else if m.0 == 10 then some no_expressions ∷ held
    else if m.0 == 11 then to_expressions held
    else if m.0 == 12 then assigned no_assignments ∷ held
    else if m.0 == 14 then one (quoted m.1.1.0) ∷ held
    else to_assignments m.1.1.0 held

abbrev pub read : List Mark → List Held → List Held
read [] held = held
read (m ∷ marks) held = read marks (taken m held)

abbrev pub top : List Held → Expression
top (one e ∷ held) = e
top held = object

mutual
  pub row_back : (e : Expression) (rest : List Mark) (held : List Held) → read (row e rest) held ≡ read rest (one e ∷ held)
  row_back (bound n) rest held = refl
  row_back object rest held = refl
  row_back bindings rest held = refl
  row_back (constant d) rest held = refl
  row_back (quoted d) rest held = refl
  row_back (call f es) rest held = expressions_back es (of_function f ∷ rest) held
  row_back (and_also es) rest held = expressions_back es (part 5 ∷ rest) held
  row_back (or_else es) rest held = expressions_back es (part 6 ∷ rest) held
  row_back (new_tuple es) rest held = expressions_back es (part 7 ∷ rest) held
  row_back (new_cell e f) rest held = row_back e (row f (part 8 ∷ rest)) held ∙ row_back f (part 8 ∷ rest) (one e ∷ held)
  row_back (new_map ms) rest held = assignments_back ms (part 9 ∷ rest) held

  pub expressions_back : (es : Expressions) (rest : List Mark) (held : List Held) → read (expressions_row es rest) held ≡ read rest (some es ∷ held)
  expressions_back no_expressions rest held = refl
  expressions_back (expression e es) rest held =
      row_back e (expressions_row es (part 11 ∷ rest)) held ∙ expressions_back es (part 11 ∷ rest) (one e ∷ held)

  pub assignments_back : (ms : Assignments) (rest : List Mark) (held : List Held) → read (assignments_row ms rest) held ≡ read rest (assigned ms ∷ held)
  assignments_back no_assignments rest held = refl
  assignments_back (assignment k e ms) rest held =
      row_back e (assignments_row ms (of_term 13 k ∷ rest)) held ∙ assignments_back ms (of_term 13 k ∷ rest) (one e ∷ held)

abbrev pub expression_code : Coded Expression
expression_code =
    code_by (List Mark) (coded_list (coded× coded_ℕ (coded× coded_ℕ (coded× datum_code primitive_code)))) (λ e. row e []) (λ ms. top (read ms []))
    (λ e. ap top (row_back e [] []))
