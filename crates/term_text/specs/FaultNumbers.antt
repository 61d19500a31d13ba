-- The numbers of faults, and their places.
use Rattle.std.specs.Prelude.{ℕ, Option, Some, None}
use Rattle.term_text.specs.declared.fault.TextFault.{TextFault}
use Rattle.term_text.specs.declared.fault.TextFault.TheVariants as fault

-- the number that programs print for a fault
abbrev pub number_of : TextFault → ℕ
number_of fault.Memory = 1
number_of (fault.TooDeep at) = 2
number_of (fault.TooLong at) = 3
number_of (fault.DuplicateKey at) = 4
number_of (fault.Syntax at) = 5
number_of (fault.BadUtf8 at) = 6
number_of (fault.IntegerRange at) = 7
number_of (fault.UnsupportedEscape at) = 8

-- the byte of the input where a fault is, None if memory ran out
abbrev pub place_of : TextFault → Option ℕ
place_of fault.Memory = None
place_of (fault.TooDeep at) = Some at
place_of (fault.TooLong at) = Some at
place_of (fault.DuplicateKey at) = Some at
place_of (fault.Syntax at) = Some at
place_of (fault.BadUtf8 at) = Some at
place_of (fault.IntegerRange at) = Some at
place_of (fault.UnsupportedEscape at) = Some at
