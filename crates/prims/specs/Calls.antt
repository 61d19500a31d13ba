-- The result of each function: a partial function on lists of terms, None if the call fails (ERTS User's Guide, "Match
-- Specifications in Erlang"; Erlang Reference Manual, module erlang).
use Rattle.std.specs.Prelude.{ℕ, ℤ, List, [], ◌∷◌, Option, Some, None}
use Rattle.std.specs.Option.{option_map, option_and_then}
use Rattle.term_core.specs.Datum.{Datum}
use Rattle.term_core.specs.Datum.Datum.{integer}
use Rattle.term_operand.specs.Operand.{boolean, integer_of}
use Rattle.prims.specs.Kinds.{test_of}
use Rattle.prims.specs.Booleans.{boolean_function_of}
use Rattle.prims.specs.Order.{comparison_of, extreme_of}
use Rattle.prims.specs.Integers.{integer_function_of, arithmetic_of}
use Rattle.prims.specs.Tuples.{element_of, is_record_of}
use Rattle.prims.specs.Lists.{head_of, tail_behind, length_of}
use Rattle.prims.specs.Maps.{is_map_key_of, map_get_of, map_size_of}
use Rattle.prims.specs.Sizes.{size_of}
use Rattle.prims_table.specs.declared.prim.Primitive.{Primitive}
use Rattle.prims_table.specs.declared.prim.Primitive.TheVariants as prim
use Rattle.prims_table.specs.declared.prim.Function.{Function}
use Rattle.prims_table.specs.declared.prim.Function.TheVariants as function
use Rattle.prims_table.specs.declared.prim.Arithmetic.{Arithmetic}
use Rattle.prims_table.specs.declared.prim.TupleFunction.TheVariants.{IsRecord, Element}
use Rattle.prims_table.specs.declared.prim.ListFunction.TheVariants.{Hd, Tl, Length}
use Rattle.prims_table.specs.declared.prim.MapFunction.TheVariants.{IsMapKey, MapGet, MapSize}

-- the result of a function for one term, None if the call fails
abbrev pub unary_of : Function → Datum → Option Datum
unary_of (function.Test test) d = Some (boolean (test_of test d))
unary_of (function.Integer of_integer) d =
    option_map integer (option_and_then (integer_function_of of_integer) (integer_of d))
unary_of (function.List Hd) d = head_of d
unary_of (function.List Tl) d = tail_behind d
unary_of (function.List Length) d = option_map integer (length_of d)
unary_of (function.Map MapSize) d = option_map integer (map_size_of d)
unary_of (function.Size of_a_term) d = option_map integer (size_of of_a_term d)
unary_of f d = None

-- the result of a function of two integers for two terms, None if one is not an integer
abbrev pub at_integers : (ℤ → ℤ → Option ℤ) → Option ℤ → Option ℤ → Option ℤ
at_integers f (Some x) (Some y) = f x y
at_integers f x y = None

-- the result of a function for two terms, None if the call fails
abbrev pub binary_of : Function → Datum → Datum → Option Datum
binary_of (function.Comparison comparison) d e = Some (boolean (comparison_of comparison d e))
binary_of (function.Extreme extreme) d e = Some (extreme_of extreme d e)
binary_of (function.Tuple Element) d e = element_of d e
binary_of (function.Map IsMapKey) d e = option_map boolean (is_map_key_of d e)
binary_of (function.Map MapGet) d e = map_get_of d e
binary_of f d e = None

-- the result of a function for three terms, None if the call fails
abbrev pub ternary_of : Function → Datum → Datum → Datum → Option Datum
ternary_of (function.Tuple IsRecord) d e g = option_map boolean (is_record_of d e g)
ternary_of f d e g = None

-- the result of a function other than those of two integers for a list of terms, None if the call fails
abbrev pub value_of_function : Function → List Datum → Option Datum
value_of_function (function.Boolean boolean_function) ds =
    option_map boolean (boolean_function_of boolean_function ds)
value_of_function f (d ∷ []) = unary_of f d
value_of_function f (d ∷ e ∷ []) = binary_of f d e
value_of_function f (d ∷ e ∷ g ∷ []) = ternary_of f d e g
value_of_function f ds = None

-- the result of a function of two integers for a list of terms, None if the call fails
abbrev pub value_of_arithmetic : Arithmetic → List Datum → Option Datum
value_of_arithmetic arithmetic (d ∷ e ∷ []) =
    option_map integer (at_integers (arithmetic_of arithmetic) (integer_of d) (integer_of e))
value_of_arithmetic arithmetic ds = None

-- the result of a function for a list of terms, None if the call fails
abbrev pub function_of : Primitive → List Datum → Option Datum
function_of (prim.Arithmetic arithmetic) ds = value_of_arithmetic arithmetic ds
function_of (prim.Function f) ds = value_of_function f ds

-- the number of borrowed values with which a function is called without an allocation
abbrev pub inline_operands : ℕ
inline_operands = 16
