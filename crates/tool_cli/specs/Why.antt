-- What a fault means, reported after its error line.
use Rattle.std.specs.Prelude.{ℕ, ◌≡◌, ◌≢◌, ◌⊎◌, Option, Some, None, List, [], ◌∷◌, ◌++◌}
use Rattle.term_text.specs.FaultNumbers as text
use Rattle.tool_io.specs.declared.fault.ToolFault.{ToolFault}
use Rattle.tool_io.specs.declared.fault.ToolFault.TheVariants as fault
use Rattle.tool_cli.specs.Place.{place_lines}

-- the byte of the input that a fault names, if it names one
abbrev pub place_in : ToolFault → Option ℕ
place_in (fault.Text f) = text.place_of f
place_in f = None

-- the lines that show the place of this byte in the input, if there is one
abbrev pub lines_at : List ℕ → Option ℕ → List ℕ
lines_at input None = []
lines_at input (Some at) = place_lines input at

-- an explanation: some text and a line feed, and the lines that show the byte that the fault names
abbrev pub Explains : List ℕ → ToolFault → List ℕ → Type 0
Explains input f told =
    (text : List ℕ) × (text ≢ []) × (told ≡ (text ++ 10 ∷ []) ++ lines_at input (place_in f))

-- an explanation, or nothing if memory ran out for it
abbrev pub IsTold : List ℕ → ToolFault → List ℕ → Type 0
IsTold input f told = Explains input f told ⊎ (told ≡ [])
