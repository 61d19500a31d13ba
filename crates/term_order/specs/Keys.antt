-- When a key may follow pairs in ascending key order.
use Rattle.std.specs.Prelude.{List, [], ◌∷◌}
use Rattle.term_core.specs.Datum.{Datum}
use Rattle.term_core.specs.Order.{IsBelow}

-- a key is above the key of the last of these pairs, if there is one
abbrev pub IsAboveKeys : List (Datum × Datum) → Datum → Type 0
IsAboveKeys [] key = Unit {0}
IsAboveKeys (p ∷ []) key = IsBelow p.0 key
IsAboveKeys (p ∷ q ∷ ps) key = IsAboveKeys (q ∷ ps) key
