-- What one read adds to an input.
use Rattle.std.specs.Prelude.{ℕ, ◌≡◌, List, ◌++◌, Option}
use Rattle.std.specs.Io.KnownBytes.{Consumes, IsAtEnd}
use Rattle.tool_io.specs.declared.fault.ToolFault.{ToolFault}
use Rattle.tool_io.specs.declared.fault.ToolFault.TheVariants as fault
use Rattle.tool_io.specs.declared.input.Progress.{Progress}
use Rattle.tool_io.specs.declared.input.Progress.TheVariants as progress

-- after a read that found the end, the reader has nothing left
abbrev pub IsRead : Option (List ℕ) → Progress → Type 0
IsRead left progress.More = Unit {0}
IsRead left progress.End = IsAtEnd left

-- one read: what the reader lost is what the input gained
pub record Continues (before after : Option (List ℕ)) (old new : List ℕ) (p : Progress) : Type 0
  where
    pub part : List ℕ
    pub lost : Consumes before after part
    pub gained : new ≡ old ++ part
    pub ended : IsRead after p

-- a fault of reading: out of memory, or the reader failed or did not end
abbrev pub IsReadFault : ToolFault → Type 0
IsReadFault fault.Memory = Unit {0}
IsReadFault fault.ReadFailed = Unit {0}
IsReadFault f = ⊥
