-- A table on one thread.
use Rattle.std.specs.Prelude.{ℕ, ◌≡◌, Some, true, slice_get, flat_map, List, []}
use Rattle.std.specs.List.{range_with_len}
use Rattle.term_core.specs.Datum.{Datum}
use Rattle.part_core.specs.Acts.{History}
use Rattle.part_core.specs.Visits.{walked_objects}
use Rattle.part_core.specs.Legal.{state_after}
use Rattle.tables.specs.declared.options.Options.{Options}
use Rattle.tables.specs.Options.{settings_of}
use Rattle.tables.specs.Turns.{Home, Views}

-- each part is in the state after its history
abbrev pub AreAfter : {P : Type 0} → (P → History → Type 0) → List P → Views → Type 0
AreAfter IsAfter parts v = (k : ℕ) (p : _) → slice_get parts k ≡ Some p → IsAfter p (v k)

-- the home of a session of such a table: it is alone with the table
abbrev pub local_home : Options → ℕ → ℕ → Home
local_home o number table = record { options = o; gates = []; number = number; table = table; alone = true }

-- the objects of a part, in walk order
abbrev pub part_objects : Options → Views → ℕ → List Datum
part_objects o v part = walked_objects (settings_of o) (state_after (settings_of o) (v part))

-- the objects of a table, part by part
abbrev pub objects_seen : Options → Views → List Datum
objects_seen o v = flat_map (part_objects o v) (range_with_len 0 o.parts)
