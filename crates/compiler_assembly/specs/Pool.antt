-- Constants, each once, and how the number of one is found.
use Rattle.std.specs.Prelude.{ℕ, suc, ◌≡◌, ◌<◌, ◌≤◌, ◌++◌, if◌then◌else◌, Option, Some, None, option_map, List, [], ◌∷◌, length}
use Rattle.term_core.specs.Datum.{Datum}
use Rattle.term_operand.specs.Order.{is_same}
use Rattle.mcode.specs.Program.{most_parts}

-- the number of the term among these, if it is one of them
abbrev pub place_of : List Datum → Datum → Option ℕ
place_of [] d = None
place_of (c ∷ cs) d = if is_same c d then Some 0 else option_map suc (place_of cs d)

-- the number of the term among these, if it is one of them, where the first has number n
abbrev pub place_from : List Datum → ℕ → Datum → Option ℕ
place_from [] n d = None
place_from (c ∷ cs) n d = if is_same c d then Some n else place_from cs (suc n) d

-- up to this many constants, a search goes through them one by one
abbrev pub few : ℕ
few = 8

-- these are the constants, and if there are more than a few, each is found by the map
pub record IsPool (found : Datum → Option ℕ) (cs : List Datum) : Type 0 where
  pub numbers : few < length cs → (d : Datum) → found d ≡ place_of cs d
  pub count : length cs ≤ most_parts

-- the second list of constants is the first with others appended
pub record IsFront (cs ds : List Datum) : Type 0 where
  pub rest : List Datum
  pub all : ds ≡ cs ++ rest
