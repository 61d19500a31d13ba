-- Laws of texts.
use Rattle.std.specs.Prelude.{ℕ, ◌≡◌, ◌≢◌, ◌↔◌, List}
use Rattle.std.specs.Str.{IsValidUpTo}
use Rattle.term_core.specs.Datum.{Datum}
use Rattle.term_text.specs.Text.{Spells}
use Rattle.term_text.specs.Causes.{HasCause}
use Rattle.term_text.specs.declared.fault.TextFault.{TextFault}
use Rattle.term_text.specs.declared.fault.TextFault.TheVariants as faults

-- a text spells at most one list of terms
abbrev pub SpellsOne : Type 0
SpellsOne = (bytes : List ℕ) (ds es : List Datum) → Spells bytes ds → Spells bytes es → ds ≡ es

-- a fault for which a text is rejected, other than out of memory
pub record IsRefusal (bytes : List ℕ) (fault : TextFault) : Type 0 where
  pub other : fault ≢ faults.Memory
  pub cause : HasCause bytes fault
  pub bad_utf8 : (at : ℕ) → (fault ≡ faults.BadUtf8 at) ↔ IsValidUpTo bytes at

-- a text is rejected for at most one fault, and a text that spells terms for none
pub record HasOneFault : Type 0 where
  pub one : (bytes : List ℕ) (fault other : TextFault) → IsRefusal bytes fault → IsRefusal bytes other → fault ≡ other
  pub none : (bytes : List ℕ) (ds : List Datum) (fault : TextFault) → Spells bytes ds → ¬ IsRefusal bytes fault
