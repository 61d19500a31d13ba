-- What the faults of a file say, and that it is not the file of any code.
use Rattle.std.specs.Prelude.{ℕ, ◌≡◌, ◌≢◌, ◌<◌, ◌-◌, List, ◌++◌, length, take}
use Rattle.mcode.specs.Program.{Program}
use Rattle.code_writer.specs.Spelling.{u16_bytes}
use Rattle.code_writer.specs.File.{Spells, IsU16, magic, version, routine_version, file_bytes}
use Rattle.code_file.specs.Due.{BeginsWith}
use Rattle.code_file.specs.Causes.{IsWrong}
use Rattle.code_file.specs.declared.stop.FileCause.{FileCause}
use Rattle.code_file.specs.declared.stop.FileCause.TheVariants as causes
use Rattle.code_file.specs.declared.stop.FileStop.{FileStop}
use Rattle.code_file.specs.declared.stop.FileStop.TheVariants as stops
use Rattle.code_file.specs.declared.fault.FileFault.{FileFault}
use Rattle.code_file.specs.declared.fault.FileFault.TheVariants as faults

-- The cause is at this byte of the file.
pub record StandsAt (bytes : List ℕ) (cause : FileCause) (at : ℕ) : Type 0 where
  pub front : List ℕ
  pub rest : List ℕ
  pub parts : bytes ≡ front ++ rest
  pub at_is : at ≡ length front
  pub wrong : IsWrong bytes cause rest

-- The file of some code ends at this byte, and more bytes follow.
pub record GoesOn (bytes : List ℕ) (at : ℕ) : Type 0 where
  pub file : List ℕ
  pub more : List ℕ
  pub code : Program
  pub parts : bytes ≡ file ++ more
  pub at_is : at ≡ length file
  pub spells : Spells file code
  pub some : 0 < length more

-- the version is neither of the two that exist
abbrev pub IsOtherVersion : List ℕ → Type 0
IsOtherVersion bytes =
    (n : ℕ) × IsU16 n × ((n ≢ version) × (n ≢ routine_version))
    × BeginsWith (magic ++ u16_bytes n) bytes

-- what a fault says about a file; nothing for out of memory
abbrev pub IsFileFault : FileFault → List ℕ → Type 0
IsFileFault faults.Memory bytes = ⊥
IsFileFault faults.BadMagic bytes = ¬ BeginsWith (take 4 bytes) magic
IsFileFault faults.BadVersion bytes = IsOtherVersion bytes
IsFileFault (faults.Truncated at) bytes = StandsAt bytes causes.Truncated at
IsFileFault (faults.BadOpcode at) bytes = StandsAt bytes causes.BadOpcode at
IsFileFault (faults.NotCanonical at) bytes = StandsAt bytes causes.NotCanonical at
IsFileFault (faults.Trailing at) bytes = GoesOn bytes at
IsFileFault faults.Limit bytes = (at : ℕ) × StandsAt bytes causes.Limit at

-- The bytes are not a code file, and the fault says why.
pub record IsNoFile (bytes : List ℕ) (fault : FileFault) : Type 0 where
  pub none : (p : Program) → ¬ Spells bytes p
  pub why : IsFileFault fault bytes

-- the fault of a cause at a byte
abbrev pub at_byte : FileCause → ℕ → FileFault
at_byte causes.Truncated at = faults.Truncated at
at_byte causes.BadOpcode at = faults.BadOpcode at
at_byte causes.NotCanonical at = faults.NotCanonical at
at_byte causes.Limit at = faults.Limit

-- the fault for a stop in a file of this size
abbrev pub fault_of : FileStop → ℕ → FileFault
fault_of stops.Memory size = faults.Memory
fault_of (stops.At cause left) size = at_byte cause (size - left)

-- The magic and this version were read, with this rest.
pub record IsHeader (bytes : List ℕ) (version : ℕ) (rest : List ℕ) : Type 0 where
  pub fits : IsU16 version
  pub parts : bytes ≡ magic ++ (u16_bytes version ++ rest)

-- The code was read, up to this rest: the bytes before the rest are its file.
pub record IsRead (bytes : List ℕ) (p : Program) (rest : List ℕ) : Type 0 where
  pub parts : bytes ≡ file_bytes p ++ rest
  pub spells : Spells (file_bytes p) p
