-- Keys of a list, by their positions.
use Rattle.std.proofs.Common.{◌≢◌, ℕ, zero, suc, ◌<◌, inl, inr, List, [], ◌∷◌, refl, sym, subst, arith, length, get_or}
use Rattle.std.specs.Prelude.{AllPairs, Contains}
use Rattle.term_core.specs.Datum.{Datum}
use Rattle.walk_laws.proofs.OrderLemmas.{Has, Once}

has_at : (ks : List Datum) (i : ℕ) (d : Datum) → i < length ks → Has ks (get_or ks i d)
has_at [] i d within = absurd (omega (arith, within))
has_at (k ∷ ks) zero d within = inl refl
has_at (k ∷ ks) (suc i) d within = inr (has_at ks i d (omega (arith, within)))

pub has_contained : (ks : List Datum) (k : Datum) → Contains ks k → Has ks k
has_contained ks k c = subst (Has ks) c.2 (has_at ks c.0 k c.1)

pub contains_it : (ks : List Datum) (k : Datum) → Has ks k → Contains ks k
contains_it [] k h = absurd h
contains_it (j ∷ ks) k (inl same) = (0, omega arith, same)
contains_it (j ∷ ks) k (inr there) = let c = contains_it ks k there in (suc c.0, omega (arith, c.1), c.2)

pub once_apart : (ks : List Datum) → Once ks → AllPairs (λ j k. j ≢ k) ks
once_apart [] once i j d lt within = absurd (omega (arith, within))
once_apart (k ∷ ks) once i zero d lt within = absurd (omega (arith, lt))
once_apart (k ∷ ks) once zero (suc j) d lt within =
    λ same. once.0 (subst (Has ks) (sym same) (has_at ks j d (omega (arith, within))))
once_apart (k ∷ ks) once (suc i) (suc j) d lt within =
    once_apart ks once.1 i j d (omega (arith, lt)) (omega (arith, within))
