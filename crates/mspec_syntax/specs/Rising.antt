-- The numbers of a list in ascending order, each once.
use Rattle.std.specs.Prelude.{ℕ, zero, suc, ◌==◌, nat_lt, if◌then◌else◌, List, [], ◌∷◌}

abbrev pub insert_rising : ℕ → List ℕ → List ℕ
insert_rising n [] = n ∷ []
insert_rising n (m ∷ ms) =
    if nat_lt n m then n ∷ m ∷ ms else if n == m then m ∷ ms else m ∷ insert_rising n ms

abbrev pub rising : List ℕ → List ℕ
rising [] = []
rising (n ∷ ns) = insert_rising n (rising ns)

-- the number of these before a number, or of all if it is not among them
abbrev pub rank_of : List ℕ → ℕ → ℕ
rank_of [] n = zero
rank_of (m ∷ ms) n = if m == n then zero else suc (rank_of ms n)
