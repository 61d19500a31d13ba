-- What a fault means.
use Rattle.std.proofs.Common.{◌≡◌, ◌≢◌, ℕ, List, [], ◌∷◌, ◌++◌}
use Rattle.tool_io.specs.declared.fault.ToolFault.{ToolFault}
use Rattle.tool_cli.specs.Why.{place_in, lines_at, Explains}

-- an explanation is a text, followed by the lines that show the place
pub explains : (input : List ℕ) (f : ToolFault) (text told : List ℕ) → text ≢ [] → told ≡ (text ++ 10 ∷ []) ++ lines_at input (place_in f) → Explains input f told
explains input f text told some is = (text, some, is)

-- an explanation that was appended
pub is_put : (input : List ℕ) (f : ToolFault) (told old new : List ℕ) → Explains input f told → new ≡ old ++ told → (m : List ℕ) × Explains input f m × (new ≡ old ++ m)
is_put input f told old new explained is = (told, explained, is)
