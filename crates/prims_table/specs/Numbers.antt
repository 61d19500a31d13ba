-- The numbers by which instructions name functions.
use Rattle.std.specs.Prelude.{ℕ, Option, Some, None}
use Rattle.prims_table.specs.declared.prim.Primitive.{Primitive}
use Rattle.prims_table.specs.declared.prim.Primitive.TheVariants as prim
use Rattle.prims_table.specs.declared.prim.Function.{Function}
use Rattle.prims_table.specs.declared.prim.Function.TheVariants as function
use Rattle.prims_table.specs.declared.prim.Test.TheVariants as test
use Rattle.prims_table.specs.declared.prim.BooleanFunction.TheVariants as boolean
use Rattle.prims_table.specs.declared.prim.Comparison.TheVariants as comparison
use Rattle.prims_table.specs.declared.prim.Extreme.TheVariants as extreme
use Rattle.prims_table.specs.declared.prim.IntegerFunction.TheVariants as integer
use Rattle.prims_table.specs.declared.prim.Arithmetic.{Arithmetic}
use Rattle.prims_table.specs.declared.prim.Arithmetic.TheVariants as arithmetic
use Rattle.prims_table.specs.declared.prim.TupleFunction.TheVariants as tuple
use Rattle.prims_table.specs.declared.prim.ListFunction.TheVariants as list
use Rattle.prims_table.specs.declared.prim.MapFunction.TheVariants as map
use Rattle.prims_table.specs.declared.prim.SizeFunction.TheVariants as size

-- the number of a function other than those of two integers
abbrev pub function_number : Function → ℕ
function_number (function.Test test.IsAtom) = 1
function_number (function.Test test.IsInteger) = 2
function_number (function.Test test.IsList) = 3
function_number (function.Test test.IsNumber) = 4
function_number (function.Test test.IsTuple) = 5
function_number (function.Test test.IsMap) = 6
function_number (function.Map map.IsMapKey) = 7
function_number (function.Test test.IsBinary) = 8
function_number (function.Test test.IsBitstring) = 9
function_number (function.Test test.IsBoolean) = 10
function_number (function.Tuple tuple.IsRecord) = 11
function_number (function.Test test.IsFloat) = 12
function_number (function.Test test.IsPid) = 13
function_number (function.Test test.IsPort) = 14
function_number (function.Test test.IsReference) = 15
function_number (function.Test test.IsFunction) = 16
function_number (function.Boolean boolean.Not) = 17
function_number (function.Boolean boolean.And) = 18
function_number (function.Boolean boolean.Or) = 19
function_number (function.Boolean boolean.Xor) = 20
function_number (function.Integer integer.Abs) = 21
function_number (function.Tuple tuple.Element) = 22
function_number (function.List list.Hd) = 23
function_number (function.List list.Tl) = 24
function_number (function.List list.Length) = 25
function_number (function.Size size.Size) = 26
function_number (function.Size size.TupleSize) = 27
function_number (function.Size size.ByteSize) = 28
function_number (function.Size size.BitSize) = 29
function_number (function.Map map.MapSize) = 30
function_number (function.Map map.MapGet) = 31
function_number (function.Integer integer.Round) = 32
function_number (function.Integer integer.Trunc) = 33
function_number (function.Integer integer.Plus) = 34
function_number (function.Integer integer.Negate) = 35
function_number (function.Integer integer.Bnot) = 36
function_number (function.Comparison comparison.Greater) = 37
function_number (function.Comparison comparison.GreaterOrEqual) = 38
function_number (function.Comparison comparison.Less) = 39
function_number (function.Comparison comparison.LessOrEqual) = 40
function_number (function.Comparison comparison.ExactlyEqual) = 41
function_number (function.Comparison comparison.ExactlyUnequal) = 42
function_number (function.Comparison comparison.Equal) = 43
function_number (function.Comparison comparison.Unequal) = 44
function_number (function.Extreme extreme.Max) = 45
function_number (function.Extreme extreme.Min) = 46

-- the number of a function of two integers
abbrev pub arithmetic_number : Arithmetic → ℕ
arithmetic_number arithmetic.Add = 1
arithmetic_number arithmetic.Subtract = 2
arithmetic_number arithmetic.Multiply = 3
arithmetic_number arithmetic.Div = 4
arithmetic_number arithmetic.Rem = 5
arithmetic_number arithmetic.Band = 6
arithmetic_number arithmetic.Bor = 7
arithmetic_number arithmetic.Bxor = 8
arithmetic_number arithmetic.Bsl = 9
arithmetic_number arithmetic.Bsr = 10

-- the function if it is not one of two integers, else None
abbrev pub function_of : Option Primitive → Option Function
function_of (Some (prim.Function f)) = Some f
function_of p = None

abbrev pub arithmetic_of : Option Primitive → Option Arithmetic
arithmetic_of (Some (prim.Arithmetic a)) = Some a
arithmetic_of p = None
