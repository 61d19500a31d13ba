-- Spellings of values of any kind, and what some bytes begin with.
use Rattle.std.specs.Prelude.{ℕ, ◌≡◌, List, ◌++◌, length}
use Rattle.std.specs.List.{flat_map, AllByRecursion}

-- how the values of a kind are spelled, and which values have a spelling
pub record Format (X : Type 0) : Type 1 where
  pub spell : X → List ℕ
  pub Fits : X → Type 0

-- the bytes are the spelling of a value, followed by the rest
pub record Begins {X : Type 0} (F : Format X) (bytes : List ℕ) (x : X) (rest : List ℕ) : Type 0 where
  pub fits : F.Fits x
  pub parts : bytes ≡ F.spell x ++ rest

-- the bytes do not begin with the spelling of any value
abbrev pub BeginsNone : {X : Type 0} → Format X → List ℕ → Type 0
BeginsNone {X} F bytes = (x : X) (rest : List ℕ) → Begins F bytes x rest → ⊥

-- a value followed by one of another kind
abbrev pub both : {X Y : Type 0} → Format X → Format Y → Format (X × Y)
both F G = record { spell = λ p. F.spell p.0 ++ G.spell p.1; Fits = λ p. F.Fits p.0 × G.Fits p.1 }

-- values that are spelled as the values to which a function maps them
abbrev pub through : {X Y : Type 0} → (X → Y) → Format Y → Format X
through f F = record { spell = λ x. F.spell (f x); Fits = λ x. F.Fits (f x) }

-- n values, one after the other
abbrev pub rows : {X : Type 0} → Format X → ℕ → Format (List X)
rows F n = record { spell = flat_map F.spell; Fits = λ xs. (length xs ≡ n) × AllByRecursion F.Fits xs }

-- a number of values, which N spells, and then the values
abbrev pub counted : {X : Type 0} → Format ℕ → Format X → Format (List X)
counted N F =
    record {
      spell = λ xs. N.spell (length xs) ++ flat_map F.spell xs;
      Fits = λ xs. N.Fits (length xs) × AllByRecursion F.Fits xs;
    }

-- the values of a format that also satisfy a condition
abbrev pub such : {X : Type 0} → Format X → (X → Type 0) → Format X
such F P = record { spell = F.spell; Fits = λ x. F.Fits x × P x }
