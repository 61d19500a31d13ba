-- The end of an ascending list.
use Rattle.std.specs.Prelude.{ℕ, ◌≡◌, List, [], ◌∷◌, ◌++◌, Option, Some, None}

-- the number of the last of these, None if there are none
abbrev pub LastIs : {X : Type 0} → (X → ℕ) → List X → Option ℕ → Type 0
LastIs number xs None = xs ≡ []
LastIs {X} number xs (Some n) =
    (front : List X) × (last : X) × (xs ≡ front ++ last ∷ []) × (number last ≡ n)
