-- The first live row of some rows and then others.
use Rattle.std.proofs.Common.{◌≡◌, List, [], ◌∷◌, ◌++◌, refl, Some, None}
use Rattle.term_core.specs.Datum.{Datum}
use Rattle.part_core.specs.Rows.{Row, is_live}
use Rattle.part_core.specs.Replies.{first_live}
use Rattle.part_core.proofs.KeyLemmas.{by_test}

pub live_first : (xs ys : List Row) (k : Datum) → first_live xs ≡ Some k → first_live (xs ++ ys) ≡ Some k
live_first [] ys k h = cc
live_first (r ∷ xs) ys k h =
    by_test (is_live r) _ (λ live. rw live (rw live at h)) (λ dead. rw dead (live_first xs ys k (rw dead at h)))

pub live_later : (xs ys : List Row) → first_live xs ≡ None → first_live (xs ++ ys) ≡ first_live ys
live_later [] ys h = refl
live_later (r ∷ xs) ys h =
    by_test (is_live r) _ (λ live. absurd (some_none (rw live at h))) (λ dead. rw dead (live_later xs ys (rw dead at h)))
  where
    some_none : Some r.0 ≡ None → ⊥
    some_none e = cc
