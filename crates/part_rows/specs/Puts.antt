-- What becomes of the row of a key when an object is inserted, and how a part refuses if none is.
use Rattle.std.specs.Prelude.{ℕ, Bool, true, false, if◌then◌else◌, Option, Some, None, List, [], ◌∷◌}
use Rattle.term_core.specs.Datum.{Datum}
use Rattle.part_core.specs.declared.fault.Fault.{Fault}
use Rattle.part_core.specs.declared.fault.Fault.TheVariants as fault
use Rattle.part_rows.specs.declared.put.Put.{Put}
use Rattle.part_rows.specs.declared.put.Put.TheVariants.{Kept, Revived, Done}
use Rattle.part_rows.specs.declared.put.PutFault.{PutFault}
use Rattle.part_rows.specs.declared.put.PutFault.TheVariants.{Memory, NoObject}

-- what becomes of the row, given the objects that its key had, and whether a new object replaces them
abbrev pub put_at : Bool → Option (List Datum) → Put
put_at replaces None = Done
put_at replaces (Some []) = Revived
put_at replaces (Some (t ∷ os)) = if replaces then Done else Kept

-- the object was inserted
abbrev pub is_put : Put → Bool
is_put Kept = false
is_put Revived = true
is_put Done = true

-- how many dead rows became live
abbrev pub revived : Put → ℕ
revived Kept = 0
revived Revived = 1
revived Done = 0

-- the fault with which a part refuses then
abbrev pub fault_of : PutFault → Fault
fault_of Memory = fault.Memory
fault_of NoObject = fault.TooSmall
