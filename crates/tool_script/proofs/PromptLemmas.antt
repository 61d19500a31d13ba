-- How a shell for a person ends early.
use Rattle.std.proofs.Common.{◌≡◌, ℕ, inl, inr, List, Option, sym, subst}
use Rattle.tool_io.specs.Input.{IsReadFault}
use Rattle.tool_io.specs.declared.fault.ToolFault.{ToolFault}
use Rattle.tool_io.specs.declared.fault.ToolFault.TheVariants as fault
use Rattle.tool_script.specs.Prompt.{IsStreamFault}
use Rattle.tool_script.specs.Shells.{IsToldBy}

pub read_fault : (f : ToolFault) → IsReadFault f → IsStreamFault f
read_fault fault.Memory is = tt
read_fault fault.ReadFailed is = tt
read_fault (fault.Text g) is = absurd is
read_fault fault.BadInput is = absurd is
read_fault (fault.Specification g) is = absurd is
read_fault (fault.File g) is = absurd is
read_fault (fault.Code g n) is = absurd is
read_fault fault.TooSmall is = absurd is
read_fault fault.BadOptions is = absurd is
read_fault fault.WriteFailed is = absurd is

pub write_fault : (f : ToolFault) → f ≡ fault.WriteFailed → IsStreamFault f
write_fault f is = subst IsStreamFault (sym is) tt

pub told_fault : (f result : ToolFault) (old new : Option (List ℕ)) (lines : List ℕ) → IsToldBy f old new lines result → IsStreamFault f → IsStreamFault result
told_fault f result old new lines (inl failed) is = write_fault result failed
told_fault f result old new lines (inr (same, written)) is = subst IsStreamFault (sym same) is
