-- Runs of a list.
use Rattle.std.specs.Prelude.{◌≡◌, List, map}
use Rattle.std.specs.List.{AllZip, flat_map}
use Rattle.std.specs.Borrow.{Bor}

-- each of these was made from one of the runs into which a list is cut, in the order of the runs
abbrev pub AreOfRuns : {X Y : Type 0} → (Bor (List X) → Y → Type 0) → List X → List Y → Type 0
AreOfRuns {X} makes items made =
    (runs : List (Bor (List X)))
    × (flat_map (λ l. l) (map (λ (run : Bor (List X)). run.now) runs) ≡ items)
    × AllZip makes runs made
