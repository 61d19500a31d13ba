-- What a failed call that makes a list hands back.
use Rattle.std.specs.Prelude.{◌≡◌, Option, List}
use Rattle.term_core.specs.Datum.{Datum}
use Rattle.term_core.specs.declared.term.ListParts.{ListParts}

-- the parts are the elements and the tail that were given
abbrev pub HandsBack : {A : Type 0} → ListParts A → List Datum → Option Datum → Type 0
HandsBack parts elements tail = (parts.elements.items ≡ elements) × (parts.tail ≡ tail)
