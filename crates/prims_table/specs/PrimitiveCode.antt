-- A function's name and number of arguments, as a code by which proofs tell functions apart.
use Rattle.std.specs.Prelude.{ℕ, ◌≡◌, List, Option, Some, None, refl}
use Rattle.std.specs.Coded.{Coded, code_by, coded×, coded_ℕ, coded_list}
use Rattle.std.proofs.Common.{ap}
use Rattle.prims_table.specs.Names.{name_of, arity_of, found}
use Rattle.prims_table.specs.declared.names.TheConstants.{ALL}
use Rattle.prims_table.specs.declared.prim.Primitive.{Primitive}
use Rattle.prims_table.specs.declared.prim.Primitive.TheVariants as prim
use Rattle.prims_table.specs.declared.prim.Function.TheVariants as function
use Rattle.prims_table.specs.declared.prim.Test.TheVariants as test
use Rattle.prims_table.specs.declared.prim.BooleanFunction.TheVariants as boolean
use Rattle.prims_table.specs.declared.prim.Comparison.TheVariants as comparison
use Rattle.prims_table.specs.declared.prim.Extreme.TheVariants as extreme
use Rattle.prims_table.specs.declared.prim.IntegerFunction.TheVariants as integer
use Rattle.prims_table.specs.declared.prim.Arithmetic.TheVariants as arithmetic
use Rattle.prims_table.specs.declared.prim.TupleFunction.TheVariants as tuple
use Rattle.prims_table.specs.declared.prim.ListFunction.TheVariants as list
use Rattle.prims_table.specs.declared.prim.MapFunction.TheVariants as map
use Rattle.prims_table.specs.declared.prim.SizeFunction.TheVariants as size

-- each function is found in the table by its name and number of arguments
pub found_at : (p : Primitive) → found (name_of p) (arity_of p) ALL ≡ Some p
found_at (prim.Function (function.Test test.IsAtom)) = refl
found_at (prim.Function (function.Test test.IsInteger)) = refl
found_at (prim.Function (function.Test test.IsList)) = refl
found_at (prim.Function (function.Test test.IsNumber)) = refl
found_at (prim.Function (function.Test test.IsTuple)) = refl
found_at (prim.Function (function.Test test.IsMap)) = refl
found_at (prim.Function (function.Test test.IsBinary)) = refl
found_at (prim.Function (function.Test test.IsBitstring)) = refl
found_at (prim.Function (function.Test test.IsBoolean)) = refl
found_at (prim.Function (function.Test test.IsFloat)) = refl
found_at (prim.Function (function.Test test.IsPid)) = refl
found_at (prim.Function (function.Test test.IsPort)) = refl
found_at (prim.Function (function.Test test.IsReference)) = refl
found_at (prim.Function (function.Test test.IsFunction)) = refl
found_at (prim.Function (function.Boolean boolean.Not)) = refl
found_at (prim.Function (function.Boolean boolean.And)) = refl
found_at (prim.Function (function.Boolean boolean.Or)) = refl
found_at (prim.Function (function.Boolean boolean.Xor)) = refl
found_at (prim.Function (function.Comparison comparison.Greater)) = refl
found_at (prim.Function (function.Comparison comparison.GreaterOrEqual)) = refl
found_at (prim.Function (function.Comparison comparison.Less)) = refl
found_at (prim.Function (function.Comparison comparison.LessOrEqual)) = refl
found_at (prim.Function (function.Comparison comparison.ExactlyEqual)) = refl
found_at (prim.Function (function.Comparison comparison.ExactlyUnequal)) = refl
found_at (prim.Function (function.Comparison comparison.Equal)) = refl
found_at (prim.Function (function.Comparison comparison.Unequal)) = refl
found_at (prim.Function (function.Extreme extreme.Max)) = refl
found_at (prim.Function (function.Extreme extreme.Min)) = refl
found_at (prim.Function (function.Integer integer.Abs)) = refl
found_at (prim.Function (function.Integer integer.Round)) = refl
found_at (prim.Function (function.Integer integer.Trunc)) = refl
found_at (prim.Function (function.Integer integer.Plus)) = refl
found_at (prim.Function (function.Integer integer.Negate)) = refl
found_at (prim.Function (function.Integer integer.Bnot)) = refl
found_at (prim.Arithmetic arithmetic.Add) = refl
found_at (prim.Arithmetic arithmetic.Subtract) = refl
found_at (prim.Arithmetic arithmetic.Multiply) = refl
found_at (prim.Arithmetic arithmetic.Div) = refl
found_at (prim.Arithmetic arithmetic.Rem) = refl
found_at (prim.Arithmetic arithmetic.Band) = refl
found_at (prim.Arithmetic arithmetic.Bor) = refl
found_at (prim.Arithmetic arithmetic.Bxor) = refl
found_at (prim.Arithmetic arithmetic.Bsl) = refl
found_at (prim.Arithmetic arithmetic.Bsr) = refl
found_at (prim.Function (function.Tuple tuple.IsRecord)) = refl
found_at (prim.Function (function.Tuple tuple.Element)) = refl
found_at (prim.Function (function.List list.Hd)) = refl
found_at (prim.Function (function.List list.Tl)) = refl
found_at (prim.Function (function.List list.Length)) = refl
found_at (prim.Function (function.Map map.IsMapKey)) = refl
found_at (prim.Function (function.Map map.MapGet)) = refl
found_at (prim.Function (function.Map map.MapSize)) = refl
found_at (prim.Function (function.Size size.Size)) = refl
found_at (prim.Function (function.Size size.TupleSize)) = refl
found_at (prim.Function (function.Size size.ByteSize)) = refl
found_at (prim.Function (function.Size size.BitSize)) = refl

abbrev pub function_or_not : Option Primitive → Primitive
function_or_not (Some p) = p
function_or_not None = prim.Function (function.Boolean boolean.Not)

abbrev pub primitive_code : Coded Primitive
primitive_code =
    code_by (List ℕ × ℕ) (coded× (coded_list coded_ℕ) coded_ℕ) (λ p. (name_of p, arity_of p)) (λ named. function_or_not (found named.0 named.1 ALL))
    (λ p. ap function_or_not (found_at p))
