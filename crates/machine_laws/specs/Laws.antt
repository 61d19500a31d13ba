-- Laws of runs, over all bodies of code.
use Rattle.std.specs.Prelude.{ℕ, ◌≡◌, ◌+◌, ◌≤◌, List, [], ◌∷◌, length}
use Rattle.term_core.specs.Datum.{Datum}
use Rattle.mcode.specs.Program.{Program}
use Rattle.mcode.specs.Run.{Activation, Whole, after, begin}
use Rattle.mcode.specs.Run.Whole.{Running, Over, Left, Lost}
use Rattle.verifier.specs.Typing.{IsDepth}

-- how many terms are on the stacks of the bodies that wait
abbrev pub waiting_places : List Activation → ℕ
waiting_places [] = 0
waiting_places (w ∷ ws) = length w.state.stack + waiting_places ws

-- how many terms are on all stacks of a run
abbrev pub places : Whole → ℕ
places (Running a ws) = length a.state.stack + waiting_places ws
places (Over answer) = 0
places (Left outcome) = 0
places Lost = 0

-- however far a run has come, all its stacks together have no more terms than the depth of the code
abbrev pub RunsAreWithinDepth : Type 0
RunsAreWithinDepth =
    (p : Program) (object : Datum) (depth : ℕ) → p.around.number ≡ 0 → IsDepth p depth → (n : ℕ)
    → places (after p object n (begin p)) ≤ depth
