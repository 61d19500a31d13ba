-- Each function returns a term of its kind.
use Rattle.std.proofs.Common.{◌≡◌, ℤ, List, [], ◌∷◌, Bool, sym, Option, Some, None}
use Rattle.std.specs.Prelude.{IfSome}
use Rattle.std.specs.Option.{option_map, option_and_then}
use Rattle.std.proofs.lemmas.Option.{none-some, same_Some}
use Rattle.term_core.specs.Datum.{Datum}
use Rattle.term_core.specs.Datum.Datum.{integer}
use Rattle.term_operand.specs.Operand.{boolean, operand_datum, integer_of}
use Rattle.prims.specs.Kinds.{test_of}
use Rattle.prims.specs.Booleans.{boolean_function_of}
use Rattle.prims.specs.Order.{comparison_of}
use Rattle.prims.specs.Integers.{integer_function_of, arithmetic_of}
use Rattle.prims.specs.Tuples.{is_record_of}
use Rattle.prims.specs.Lists.{length_of}
use Rattle.prims.specs.Maps.{is_map_key_of, map_size_of}
use Rattle.prims.specs.Sizes.{size_of}
use Rattle.prims.specs.Calls.{at_integers, unary_of, binary_of, ternary_of, value_of_function, value_of_arithmetic, function_of}
use Rattle.prims_table.specs.Gives.{gives_of}
use Rattle.prims.specs.Given.{IsGiven}
use Rattle.prims_table.specs.declared.gives.Gives.TheVariants as gives
use Rattle.term_operand.specs.declared.operand.Operand.{Operand}
use Rattle.prims_table.specs.declared.prim.Primitive.{Primitive}
use Rattle.prims_table.specs.declared.prim.Primitive.TheVariants as prim
use Rattle.prims_table.specs.declared.prim.Function.{Function}
use Rattle.prims_table.specs.declared.prim.Function.TheVariants as function
use Rattle.prims_table.specs.declared.prim.Arithmetic.{Arithmetic}
use Rattle.prims_table.specs.declared.prim.TupleFunction.TheVariants as tuple
use Rattle.prims_table.specs.declared.prim.ListFunction.TheVariants as list
use Rattle.prims_table.specs.declared.prim.MapFunction.TheVariants as map

given_boolean : (o : Option Bool) (d : Datum) → option_map boolean o ≡ Some d → IsGiven gives.Boolean d
given_boolean None d e = absurd (none-some d e)
given_boolean (Some b) d e = (b, sym (same_Some (boolean b) d e))

given_integer : (o : Option ℤ) (d : Datum) → option_map integer o ≡ Some d → IsGiven gives.Integer d
given_integer None d e = absurd (none-some d e)
given_integer (Some z) d e = (z, sym (same_Some (integer z) d e))

given_unary : (f : Function) (x d : Datum) → unary_of f x ≡ Some d → IsGiven (gives_of (prim.Function f)) d
given_unary (function.Test test) x d e = given_boolean (Some (test_of test x)) d e
given_unary (function.Integer of_integer) x d e = given_integer (option_and_then (integer_function_of of_integer) (integer_of x)) d e
given_unary (function.List list.Hd) x d e = tt
given_unary (function.List list.Tl) x d e = tt
given_unary (function.List list.Length) x d e = given_integer (length_of x) d e
given_unary (function.Map map.MapSize) x d e = given_integer (map_size_of x) d e
given_unary (function.Size size) x d e = given_integer (size_of size x) d e
given_unary f x d e = absurd (none-some d e)

given_binary : (f : Function) (x y d : Datum) → binary_of f x y ≡ Some d → IsGiven (gives_of (prim.Function f)) d
given_binary (function.Comparison comparison) x y d e = given_boolean (Some (comparison_of comparison x y)) d e
given_binary (function.Extreme extreme) x y d e = tt
given_binary (function.Tuple tuple.Element) x y d e = tt
given_binary (function.Map map.IsMapKey) x y d e = given_boolean (is_map_key_of x y) d e
given_binary (function.Map map.MapGet) x y d e = tt
given_binary f x y d e = absurd (none-some d e)

given_ternary : (f : Function) (x y z d : Datum) → ternary_of f x y z ≡ Some d → IsGiven (gives_of (prim.Function f)) d
given_ternary (function.Tuple tuple.IsRecord) x y z d e = given_boolean (is_record_of x y z) d e
given_ternary f x y z d e = absurd (none-some d e)

given_function : (f : Function) (ds : List Datum) (d : Datum) → value_of_function f ds ≡ Some d → IsGiven (gives_of (prim.Function f)) d
given_function (function.Boolean of_booleans) ds d e = given_boolean (boolean_function_of of_booleans ds) d e
given_function f [] d e = absurd (none-some d e)
given_function f (x ∷ []) d e = given_unary f x d e
given_function f (x ∷ y ∷ []) d e = given_binary f x y d e
given_function f (x ∷ y ∷ z ∷ []) d e = given_ternary f x y z d e
given_function f (x ∷ y ∷ z ∷ w ∷ ds) d e = absurd (none-some d e)

given_arithmetic : (arithmetic : Arithmetic) (ds : List Datum) (d : Datum) → value_of_arithmetic arithmetic ds ≡ Some d → IsGiven gives.Integer d
given_arithmetic arithmetic [] d e = absurd (none-some d e)
given_arithmetic arithmetic (x ∷ []) d e = absurd (none-some d e)
given_arithmetic arithmetic (x ∷ y ∷ []) d e = given_integer (at_integers (arithmetic_of arithmetic) (integer_of x) (integer_of y)) d e
given_arithmetic arithmetic (x ∷ y ∷ z ∷ ds) d e = absurd (none-some d e)

given : (p : Primitive) (ds : List Datum) (d : Datum) → function_of p ds ≡ Some d → IsGiven (gives_of p) d
given (prim.Arithmetic arithmetic) ds d e = given_arithmetic arithmetic ds d e
given (prim.Function f) ds d e = given_function f ds d e

pub given_result : {A : Type 0} (r : Option (Operand A)) (p : Primitive) (ds : List Datum) → option_map operand_datum r ≡ function_of p ds → IfSome r (λ v. IsGiven (gives_of p) (operand_datum v))
given_result None p ds e = tt
given_result (Some v) p ds e = given p ds (operand_datum v) (sym e)
