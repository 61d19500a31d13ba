-- The keys of a map, which mean themselves.
use Rattle.std.specs.Prelude.{List, [], ◌∷◌}
use Rattle.term_core.specs.Datum.{Datum}
use Rattle.term_core.specs.Order.{IsBelow}

-- a key is below the first of these keys, if there is one
abbrev pub IsBelowNext : Datum → List Datum → Type 0
IsBelowNext k [] = Unit {0}
IsBelowNext k (l ∷ ls) = IsBelow k l

-- each key is below the next
abbrev pub AreKeysRising : List Datum → Type 0
AreKeysRising [] = Unit {0}
AreKeysRising (k ∷ ks) = IsBelowNext k ks × AreKeysRising ks
