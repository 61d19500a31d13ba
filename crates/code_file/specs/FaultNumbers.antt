-- The numbers of faults, and their places.
use Rattle.std.specs.Prelude.{ℕ, Option, Some, None}
use Rattle.code_file.specs.declared.fault.FileFault.{FileFault}
use Rattle.code_file.specs.declared.fault.FileFault.TheVariants as fault

-- the number that programs print for a fault
abbrev pub number_of : FileFault → ℕ
number_of fault.Memory = 1
number_of fault.BadMagic = 30
number_of fault.BadVersion = 31
number_of (fault.Truncated at) = 32
number_of (fault.BadOpcode at) = 33
number_of (fault.NotCanonical at) = 34
number_of (fault.Trailing at) = 35
number_of fault.Limit = 36

-- the byte of the file where a fault is, None if the fault names none
abbrev pub place_of : FileFault → Option ℕ
place_of fault.Memory = None
place_of fault.BadMagic = None
place_of fault.BadVersion = None
place_of (fault.Truncated at) = Some at
place_of (fault.BadOpcode at) = Some at
place_of (fault.NotCanonical at) = Some at
place_of (fault.Trailing at) = Some at
place_of fault.Limit = None
