-- Distances of a search, as facts about plain numbers.
use Rattle.std.proofs.Common.{◌≡◌, ℕ, ◌+◌, ◌-◌, ◌<◌, ◌≤◌, ◌⊎◌, inl, inr, Bool, true, false, if◌then◌else◌, nat_le, arith, refl}
use borrow.Author.Tests.{leb-true, leb-false}
use lib.Bits.{and_le_r}
use Rattle.hash_index.specs.Cells.{IsNext, distance, home}

-- d is the distance from one position to another, which is further on or is reached past the last one
abbrev pub Apart : ℕ → ℕ → ℕ → ℕ → Type 0
Apart count from to d = ((from ≤ to) × (d + from ≡ to)) ⊎ ((to < from) × (d + from ≡ to + count))

apart_by : (count from to : ℕ) (t : Bool) → nat_le from to ≡ t → from < count
    → Apart count from to (if t then to - from else to + count - from)
apart_by count from to true e within = let h = leb-true from to e in inl (omega arith)
apart_by count from to false e within = let h = leb-false from to e in inr (omega arith)

pub apart : (count from to : ℕ) → from < count → Apart count from to (distance count from to)
unfolding distance
apart count from to within = apart_by count from to (nat_le from to) refl within

pub home_within : (count mixed : ℕ) → 0 < count → home count mixed < count
unfolding home
home_within count mixed some = omega (arith, and_le_r mixed (count - 1))

module _ (count start : ℕ) (within : start < count) where
  pub distance_self : distance count start start ≡ 0
  distance_self = omega (arith, apart count start start within)

  pub distance_within : (to : ℕ) → to < count → distance count start to < count
  distance_within to in_to = omega (arith, apart count start to within)

  -- no two positions have the same distance from the start
  pub distance_one : (a b : ℕ) → a < count → b < count → distance count start a ≡ distance count start b → a ≡ b
  distance_one a b in_a in_b e = omega (arith, apart count start a within, apart count start b within)

  -- the next position is one step further
  pub distance_next : (pos to : ℕ) → pos < count → IsNext count pos to → distance count start pos + 1 < count
      → distance count start to ≡ distance count start pos + 1
  distance_next pos to in_pos next less = omega (arith, apart count start pos within, apart count start to within)

pub next_within : (count pos to : ℕ) → IsNext count pos to → to < count
next_within count pos to next = omega arith
