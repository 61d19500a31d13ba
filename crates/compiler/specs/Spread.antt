-- How the elements of a list that is being made are placed on the stack.
use Rattle.std.specs.Prelude.{ℕ, zero, suc, List, ◌∷◌}
use Rattle.term_core.specs.Datum.{Datum}
use Rattle.term_core.specs.Datum.Datum.{cons}

-- the first n elements of a list, each above the one before, and the rest of the list above them, on top of `base`
abbrev pub spread : ℕ → Datum → List Datum → List Datum
spread zero d base = d ∷ base
spread (suc n) (cons head tail) base = spread n tail (head ∷ base)
spread (suc n) d base = base

-- the term is a list with at least n elements
abbrev pub HasCells : ℕ → Datum → Type 0
HasCells zero d = Unit {0}
HasCells (suc n) (cons head tail) = HasCells n tail
HasCells (suc n) d = ⊥
