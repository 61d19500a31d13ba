-- What makes the order of terms a total order.
use Rattle.std.specs.Prelude.{◌≡◌, ◌⊎◌}
use Rattle.term_core.specs.Datum.{Datum}
use Rattle.term_core.specs.Order.{IsBelow}

-- No term is below itself; a term that is below another is below all terms that the other is below; and of two terms
-- that differ one is below the other.
pub record IsTotal : Type 0 where
  pub irreflexive : (a : Datum) → ¬ IsBelow a a
  pub transitive : (a b c : Datum) → IsBelow a b → IsBelow b c → IsBelow a c
  pub connected : (a b : Datum) → IsBelow a b ⊎ ((a ≡ b) ⊎ IsBelow b a)
