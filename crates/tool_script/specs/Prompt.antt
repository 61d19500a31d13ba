-- How a shell for a person ends early.
use Rattle.tool_io.specs.declared.fault.ToolFault.{ToolFault}
use Rattle.tool_io.specs.declared.fault.ToolFault.TheVariants as fault

-- out of memory, or a stream that failed: no input byte ends the shell with another fault
abbrev pub IsStreamFault : ToolFault → Type 0
IsStreamFault fault.Memory = Unit {0}
IsStreamFault fault.ReadFailed = Unit {0}
IsStreamFault fault.WriteFailed = Unit {0}
IsStreamFault f = ⊥
