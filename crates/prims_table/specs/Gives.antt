-- The kind of term that each function returns.
use Rattle.prims_table.specs.declared.gives.Gives.{Gives}
use Rattle.prims_table.specs.declared.gives.Gives.TheVariants.{Boolean, Integer, Any}
use Rattle.prims_table.specs.declared.prim.Primitive.{Primitive}
use Rattle.prims_table.specs.declared.prim.Primitive.TheVariants as prim
use Rattle.prims_table.specs.declared.prim.Function.TheVariants as function
use Rattle.prims_table.specs.declared.prim.TupleFunction.TheVariants as tuple
use Rattle.prims_table.specs.declared.prim.ListFunction.TheVariants as list
use Rattle.prims_table.specs.declared.prim.MapFunction.TheVariants as map

-- the kind of term that a function returns: a boolean for tests, comparisons and functions of truth values, an integer
-- for arithmetic and sizes, any term for the others
abbrev pub gives_of : Primitive → Gives
gives_of (prim.Function (function.Test test)) = Boolean
gives_of (prim.Function (function.Boolean boolean)) = Boolean
gives_of (prim.Function (function.Comparison comparison)) = Boolean
gives_of (prim.Function (function.Extreme extreme)) = Any
gives_of (prim.Function (function.Integer of_integer)) = Integer
gives_of (prim.Arithmetic function) = Integer
gives_of (prim.Function (function.Tuple tuple.IsRecord)) = Boolean
gives_of (prim.Function (function.Tuple tuple.Element)) = Any
gives_of (prim.Function (function.List list.Hd)) = Any
gives_of (prim.Function (function.List list.Tl)) = Any
gives_of (prim.Function (function.List list.Length)) = Integer
gives_of (prim.Function (function.Map map.IsMapKey)) = Boolean
gives_of (prim.Function (function.Map map.MapGet)) = Any
gives_of (prim.Function (function.Map map.MapSize)) = Integer
gives_of (prim.Function (function.Size of_a_term)) = Integer
