-- The term that an operand represents.
use Rattle.std.specs.Prelude.{Bool, true, false, if◌then◌else◌, ℤ, Option, Some, None, nat_eq, codes}
use Rattle.std.specs.Cmp.Lexicographic.{pointwise}
use Rattle.term_core.specs.Datum.{Datum}
use Rattle.term_core.specs.Datum.Datum.{integer, atom, tuple, map, cons}
use Rattle.term_build.specs.Rest.{rest_of}
use Rattle.term_operand.specs.declared.operand.Operand.{Operand}
use Rattle.term_operand.specs.declared.operand.Operand.TheVariants as operand

-- the atom true or false (Erlang Reference Manual, "Data Types", "Boolean")
abbrev pub boolean : Bool → Datum
boolean b = atom (if b then codes "true" else codes "false")

-- the term that an operand represents
abbrev pub operand_datum : {A : Type 0} → Operand A → Datum
operand_datum (operand.Term term) = term.now
operand_datum (operand.Rest list count) = rest_of count list.now
operand_datum (operand.Int value) = integer value
operand_datum (operand.Bool value) = boolean value

-- a term that is not a list with elements
abbrev pub IsNoCell : Datum → Type 0
IsNoCell (cons head tail) = ⊥
IsNoCell d = Unit {0}

-- a term that is not a tuple
abbrev pub IsNoTuple : Datum → Type 0
IsNoTuple (tuple ds) = ⊥
IsNoTuple d = Unit {0}

-- a term that is not a map
abbrev pub IsNoMap : Datum → Type 0
IsNoMap (map es) = ⊥
IsNoMap d = Unit {0}

-- the truth value of the atoms true and false, None for any other term
abbrev pub boolean_of : Datum → Option Bool
boolean_of (atom cs) =
    if pointwise nat_eq cs (codes "true") then Some true
    else if pointwise nat_eq cs (codes "false") then Some false
    else None
boolean_of d = None

-- the value of an integer, None for any other term
abbrev pub integer_of : Datum → Option ℤ
integer_of (integer z) = Some z
integer_of d = None
