-- The objects that are held at a key.
use Rattle.std.specs.Prelude.{List, [], ◌∷◌}
use Rattle.term_core.specs.Datum.{Datum}
use Rattle.part_core.specs.declared.held.Objects.{Objects}
use Rattle.part_core.specs.declared.held.Objects.TheVariants as objects

-- the objects as a list, in the order of insertion
abbrev pub objects_of : {A : Type 0} → Objects A → List Datum
objects_of objects.Empty = []
objects_of (objects.One object) = object ∷ []
objects_of (objects.Many list) = list.value.items
