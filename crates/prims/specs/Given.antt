-- Terms of the kinds that functions return.
use Rattle.std.specs.Prelude.{◌≡◌, Bool, ℤ}
use Rattle.term_core.specs.Datum.{Datum}
use Rattle.term_core.specs.Datum.Datum.{integer}
use Rattle.term_operand.specs.Operand.{boolean}
use Rattle.prims_table.specs.declared.gives.Gives.{Gives}
use Rattle.prims_table.specs.declared.gives.Gives.TheVariants.{Boolean, Integer, Any}

-- a term is of the kind
abbrev pub IsGiven : Gives → Datum → Type 0
IsGiven Boolean d = (b : Bool) × (d ≡ boolean b)
IsGiven Integer d = (z : ℤ) × (d ≡ integer z)
IsGiven Any d = Unit {0}
