-- Faults with the byte where they are.
use Rattle.std.specs.Prelude.{ℕ, ◌-◌, List, length, take}
use Rattle.std.specs.Str.{encode_utf8_all}
use Rattle.term_text.specs.declared.stop.Cause.{Cause}
use Rattle.term_text.specs.declared.stop.Cause.TheVariants as causes
use Rattle.term_text.specs.declared.stop.Stop.{Stop}
use Rattle.term_text.specs.declared.stop.Stop.TheVariants as stops
use Rattle.term_text.specs.declared.fault.TextFault.{TextFault}
use Rattle.term_text.specs.declared.fault.TextFault.TheVariants as faults

abbrev pub at_byte : Cause → ℕ → TextFault
at_byte causes.TooDeep at = faults.TooDeep at
at_byte causes.TooLong at = faults.TooLong at
at_byte causes.DuplicateKey at = faults.DuplicateKey at
at_byte causes.Syntax at = faults.Syntax at
at_byte causes.IntegerRange at = faults.IntegerRange at
at_byte causes.UnsupportedEscape at = faults.UnsupportedEscape at

-- the fault for a stop in a text of these characters
abbrev pub fault_of : Stop → List ℕ → TextFault
fault_of stops.Memory text = faults.Memory
fault_of (stops.At cause left) text =
    at_byte cause (length (encode_utf8_all (take (length text - left) text)))
