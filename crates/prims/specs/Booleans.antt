-- Functions of the atoms true and false (Erlang Reference Manual, "Expressions", "Boolean Expressions").
use Rattle.std.specs.Prelude.{Bool, true, false, not, ◌&&◌, ◌||◌, Option, Some, None, List, [], ◌∷◌}
use Rattle.std.specs.Option.{option_map}
use Rattle.term_core.specs.Datum.{Datum}
use Rattle.term_operand.specs.Operand.{boolean_of}
use Rattle.prims_table.specs.declared.prim.BooleanFunction.{BooleanFunction}
use Rattle.prims_table.specs.declared.prim.BooleanFunction.TheVariants.{Not, And, Or, Xor}

-- two truth values combined, None if one of them is missing
abbrev pub both : (Bool → Bool → Bool) → Option Bool → Option Bool → Option Bool
both f (Some a) (Some b) = Some (f a b)
both f a b = None

-- exactly one of two truth values is true
abbrev pub xor : Bool → Bool → Bool
xor true b = not b
xor false b = b

-- whether all of these terms are true, None if one of them is not a boolean
abbrev pub all_of : List Datum → Option Bool
all_of [] = Some true
all_of (d ∷ ds) = both (λ a b. a && b) (boolean_of d) (all_of ds)

-- whether at least one of these terms is true, None if one of them is not a boolean
abbrev pub any_of : List Datum → Option Bool
any_of [] = Some false
any_of (d ∷ ds) = both (λ a b. a || b) (boolean_of d) (any_of ds)

-- the result of a function of truth values, of which and and or take one or more arguments; None if the call fails
abbrev pub boolean_function_of : BooleanFunction → List Datum → Option Bool
boolean_function_of Not (d ∷ []) = option_map not (boolean_of d)
boolean_function_of And (d ∷ ds) = all_of (d ∷ ds)
boolean_function_of Or (d ∷ ds) = any_of (d ∷ ds)
boolean_function_of Xor (d ∷ e ∷ []) = both xor (boolean_of d) (boolean_of e)
boolean_function_of function ds = None
