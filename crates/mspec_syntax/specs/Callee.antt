-- What an atom at the beginning of a tuple means, depending on the number of terms after it. (ERTS User's Guide, "Match
-- Specifications in Erlang", "Grammar": BoolFunction, GuardFunction, and const.)
use Rattle.std.specs.Prelude.{ℕ, ◌==◌, nat_eq, nat_lt, ◌&&◌, if◌then◌else◌, List, Option, Some, None, codes}
use Rattle.std.specs.Cmp.Lexicographic.{pointwise}
use Rattle.prims_table.specs.Names.{named}
use Rattle.prims_table.specs.declared.prim.Primitive.{Primitive}
use Rattle.mspec_syntax.specs.declared.word.Callee.{Callee}
use Rattle.mspec_syntax.specs.declared.word.Callee.TheVariants.{Quote, AndAlso, OrElse, Function, Unknown}

-- the function that was found by name and number of arguments, if there is one
abbrev pub function_callee : Option Primitive → Callee
function_callee None = Unknown
function_callee (Some f) = Function f

-- const of one term, andalso and orelse of one or more arguments, or a function
abbrev pub callee_of : List ℕ → ℕ → Callee
callee_of cs n =
    if n == 1 && pointwise nat_eq cs (codes "const") then Quote
    else if nat_lt 0 n && pointwise nat_eq cs (codes "andalso") then AndAlso
    else if nat_lt 0 n && pointwise nat_eq cs (codes "orelse") then OrElse
    else function_callee (named cs n)
