-- The names of functions and the number of arguments that each takes (ERTS User's Guide, "Match Specifications in
-- Erlang", "Grammar").
use Rattle.std.specs.Prelude.{ℕ, Bool, ◌&&◌, if◌then◌else◌, List, [], ◌∷◌, Option, Some, None, nat_eq, nat_lt, codes}
use Rattle.std.specs.Cmp.Lexicographic.{pointwise}
use Rattle.prims_table.specs.declared.names.TheConstants.{ALL}
use Rattle.prims_table.specs.declared.prim.Primitive.{Primitive}
use Rattle.prims_table.specs.declared.prim.Primitive.TheVariants as prim
use Rattle.prims_table.specs.declared.prim.Function.TheVariants as function
use Rattle.prims_table.specs.declared.prim.Test.TheVariants as test
use Rattle.prims_table.specs.declared.prim.BooleanFunction.TheVariants as boolean
use Rattle.prims_table.specs.declared.prim.Comparison.TheVariants as comparison
use Rattle.prims_table.specs.declared.prim.Extreme.TheVariants as extreme
use Rattle.prims_table.specs.declared.prim.IntegerFunction.TheVariants as integer
use Rattle.prims_table.specs.declared.prim.Arithmetic.TheVariants as arithmetic
use Rattle.prims_table.specs.declared.prim.TupleFunction.TheVariants as tuple
use Rattle.prims_table.specs.declared.prim.ListFunction.TheVariants as list
use Rattle.prims_table.specs.declared.prim.MapFunction.TheVariants as map
use Rattle.prims_table.specs.declared.prim.SizeFunction.TheVariants as size

-- the characters of the atom that names a function
abbrev pub name_of : Primitive → List ℕ
name_of (prim.Function (function.Test test.IsAtom)) = codes "is_atom"
name_of (prim.Function (function.Test test.IsInteger)) = codes "is_integer"
name_of (prim.Function (function.Test test.IsList)) = codes "is_list"
name_of (prim.Function (function.Test test.IsNumber)) = codes "is_number"
name_of (prim.Function (function.Test test.IsTuple)) = codes "is_tuple"
name_of (prim.Function (function.Test test.IsMap)) = codes "is_map"
name_of (prim.Function (function.Test test.IsBinary)) = codes "is_binary"
name_of (prim.Function (function.Test test.IsBitstring)) = codes "is_bitstring"
name_of (prim.Function (function.Test test.IsBoolean)) = codes "is_boolean"
name_of (prim.Function (function.Test test.IsFloat)) = codes "is_float"
name_of (prim.Function (function.Test test.IsPid)) = codes "is_pid"
name_of (prim.Function (function.Test test.IsPort)) = codes "is_port"
name_of (prim.Function (function.Test test.IsReference)) = codes "is_reference"
name_of (prim.Function (function.Test test.IsFunction)) = codes "is_function"
name_of (prim.Function (function.Boolean boolean.Not)) = codes "not"
name_of (prim.Function (function.Boolean boolean.And)) = codes "and"
name_of (prim.Function (function.Boolean boolean.Or)) = codes "or"
name_of (prim.Function (function.Boolean boolean.Xor)) = codes "xor"
name_of (prim.Function (function.Comparison comparison.Greater)) = codes ">"
name_of (prim.Function (function.Comparison comparison.GreaterOrEqual)) = codes ">="
name_of (prim.Function (function.Comparison comparison.Less)) = codes "<"
name_of (prim.Function (function.Comparison comparison.LessOrEqual)) = codes "=<"
name_of (prim.Function (function.Comparison comparison.ExactlyEqual)) = codes "=:="
name_of (prim.Function (function.Comparison comparison.ExactlyUnequal)) = codes "=/="
name_of (prim.Function (function.Comparison comparison.Equal)) = codes "=="
name_of (prim.Function (function.Comparison comparison.Unequal)) = codes "/="
name_of (prim.Function (function.Extreme extreme.Max)) = codes "max"
name_of (prim.Function (function.Extreme extreme.Min)) = codes "min"
name_of (prim.Function (function.Integer integer.Abs)) = codes "abs"
name_of (prim.Function (function.Integer integer.Round)) = codes "round"
name_of (prim.Function (function.Integer integer.Trunc)) = codes "trunc"
name_of (prim.Function (function.Integer integer.Plus)) = codes "+"
name_of (prim.Function (function.Integer integer.Negate)) = codes "-"
name_of (prim.Function (function.Integer integer.Bnot)) = codes "bnot"
name_of (prim.Arithmetic arithmetic.Add) = codes "+"
name_of (prim.Arithmetic arithmetic.Subtract) = codes "-"
name_of (prim.Arithmetic arithmetic.Multiply) = codes "*"
name_of (prim.Arithmetic arithmetic.Div) = codes "div"
name_of (prim.Arithmetic arithmetic.Rem) = codes "rem"
name_of (prim.Arithmetic arithmetic.Band) = codes "band"
name_of (prim.Arithmetic arithmetic.Bor) = codes "bor"
name_of (prim.Arithmetic arithmetic.Bxor) = codes "bxor"
name_of (prim.Arithmetic arithmetic.Bsl) = codes "bsl"
name_of (prim.Arithmetic arithmetic.Bsr) = codes "bsr"
name_of (prim.Function (function.Tuple tuple.IsRecord)) = codes "is_record"
name_of (prim.Function (function.Tuple tuple.Element)) = codes "element"
name_of (prim.Function (function.List list.Hd)) = codes "hd"
name_of (prim.Function (function.List list.Tl)) = codes "tl"
name_of (prim.Function (function.List list.Length)) = codes "length"
name_of (prim.Function (function.Map map.IsMapKey)) = codes "is_map_key"
name_of (prim.Function (function.Map map.MapGet)) = codes "map_get"
name_of (prim.Function (function.Map map.MapSize)) = codes "map_size"
name_of (prim.Function (function.Size size.Size)) = codes "size"
name_of (prim.Function (function.Size size.TupleSize)) = codes "tuple_size"
name_of (prim.Function (function.Size size.ByteSize)) = codes "byte_size"
name_of (prim.Function (function.Size size.BitSize)) = codes "bit_size"

-- the number of arguments that a function takes; the smallest number for and and or
abbrev pub arity_of : Primitive → ℕ
arity_of (prim.Function (function.Test of_kind)) = 1
arity_of (prim.Function (function.Boolean boolean.Not)) = 1
arity_of (prim.Function (function.Boolean boolean.And)) = 1
arity_of (prim.Function (function.Boolean boolean.Or)) = 1
arity_of (prim.Function (function.Boolean boolean.Xor)) = 2
arity_of (prim.Function (function.Comparison of_order)) = 2
arity_of (prim.Function (function.Extreme of_order)) = 2
arity_of (prim.Function (function.Integer of_integer)) = 1
arity_of (prim.Arithmetic of_integers) = 2
arity_of (prim.Function (function.Tuple tuple.IsRecord)) = 3
arity_of (prim.Function (function.Tuple tuple.Element)) = 2
arity_of (prim.Function (function.List of_list)) = 1
arity_of (prim.Function (function.Map map.IsMapKey)) = 2
arity_of (prim.Function (function.Map map.MapGet)) = 2
arity_of (prim.Function (function.Map map.MapSize)) = 1
arity_of (prim.Function (function.Size of_a_term)) = 1

-- whether a function takes n arguments
abbrev pub takes : Primitive → ℕ → Bool
takes (prim.Function (function.Boolean boolean.And)) n = nat_lt 0 n
takes (prim.Function (function.Boolean boolean.Or)) n = nat_lt 0 n
takes p n = nat_eq n (arity_of p)

-- the first of these functions that has this name and takes n arguments
abbrev pub found : List ℕ → ℕ → List Primitive → Option Primitive
found cs n [] = None
found cs n (p ∷ ps) =
    if pointwise nat_eq (name_of p) cs && takes p n then Some p else found cs n ps

-- the function of this name that takes n arguments, None if there is none
abbrev pub named : List ℕ → ℕ → Option Primitive
named cs n = found cs n ALL
