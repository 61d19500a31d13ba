-- Lists of answers, one for each part.
use Rattle.std.proofs.Common.{zero, suc, ◌≡◌, ◌≢◌, ℕ, ◌<◌, refl, ap, sym, arith, List, [], ◌∷◌, length, map, slice_set, get_or}
use Rattle.term_core.specs.Datum.{Datum}
use Rattle.parallel_select.specs.Parts.{answers_of}

module _ {X : Type 0} (given : X → List Datum) where
  -- replacing one list by another
  pub set_there : (xs : List X) (place : ℕ) (x : X) → place < length xs → answers_of (map given (slice_set xs place x)) place ≡ given x
  set_there [] place x inside = absurd (omega (arith, inside))
  set_there (y ∷ ys) zero x inside = refl
  set_there (y ∷ ys) (suc place) x inside = set_there ys place x (omega (arith, inside))

  pub set_elsewhere : (xs : List X) (place : ℕ) (x : X) (part : ℕ) → part ≢ place → answers_of (map given (slice_set xs place x)) part ≡ answers_of (map given xs) part
  set_elsewhere [] place x part other = refl
  set_elsewhere (y ∷ ys) zero x zero other = absurd (other refl)
  set_elsewhere (y ∷ ys) zero x (suc part) other = refl
  set_elsewhere (y ∷ ys) (suc place) x zero other = refl
  set_elsewhere (y ∷ ys) (suc place) x (suc part) other = set_elsewhere ys place x part (λ same. other (ap suc same))

  pub given_there : (xs : List X) (place : ℕ) (d x : X) → place < length xs → x ≡ get_or xs place d → answers_of (map given xs) place ≡ given x
  given_there [] place d x inside is = absurd (omega (arith, inside))
  given_there (y ∷ ys) zero d x inside is = ap given (sym is)
  given_there (y ∷ ys) (suc place) d x inside is = given_there ys place d x (omega (arith, inside)) is
