-- The results of reading a part of a file.
use Rattle.std.specs.Prelude.{ℕ, ◌≡◌, ◌<◌, List, length, Result, Ok, Err}
use Rattle.term_core.specs.declared.fault.Fault.{Fault}
use Rattle.term_core.specs.declared.fault.Fault.TheVariants as fault
use Rattle.code_writer.specs.Format.{Format, Begins, BeginsNone}
use Rattle.code_file.specs.Due.{Item, Due}
use Rattle.code_file.specs.Causes.{IsWrong}
use Rattle.code_file.specs.declared.stop.FileCause.{FileCause}
use Rattle.code_file.specs.declared.stop.FileCause.TheVariants as causes
use Rattle.code_file.specs.declared.stop.FileStop.{FileStop}
use Rattle.code_file.specs.declared.stop.FileStop.TheVariants as stops

-- In any file in which the item is due before these bytes, the cause is at the place where this number of bytes is
-- left.
abbrev pub Blames : Item → List ℕ → FileCause → ℕ → Type 0
Blames item bytes cause left =
    (file : List ℕ) → Due file item bytes
    → (rest : List ℕ) × (left ≡ length rest) × IsWrong file cause rest

-- There are fewer bytes than this number.
abbrev pub IsCut : ℕ → List ℕ → FileCause → ℕ → Type 0
IsCut width bytes cause left = (cause ≡ causes.Truncated) × (left ≡ 0) × (length bytes < width)

-- The bytes do not begin with a value, and the blame is right.
pub record IsRefuted {X : Type 0} (F : Format X) (bytes : List ℕ) (Blame : Type 0) : Type 0 where
  pub none : BeginsNone F bytes
  pub blame : Blame

-- what a reader's stop says, given what its blame means
abbrev pub IsStop : {X : Type 0} → Format X → List ℕ → (FileCause → ℕ → Type 0) → FileStop → Type 0
IsStop F bytes blames stops.Memory = Unit {0}
IsStop F bytes blames (stops.At cause left) = IsRefuted F bytes (blames cause left)

-- What a reader returns, mapped by view: the value at the beginning and the rest, or why the bytes do not begin with a
-- value.
abbrev pub Reads : {X R : Type 0} → Format X → (FileCause → ℕ → Type 0) → (R → X × List ℕ) → List ℕ
    → Result R FileStop → Type 0
Reads F blames view bytes (Ok r) = Begins F bytes (view r).0 (view r).1
Reads F blames view bytes (Err stop) = IsStop F bytes blames stop

-- a stop for out of memory, or for a limit where this number of bytes is left
abbrev pub limit_stop : Fault → ℕ → FileStop
limit_stop fault.Memory left = stops.Memory
limit_stop f left = stops.At causes.Limit left
