-- What is reported when the program ends early.
use Rattle.std.specs.Prelude.{ℕ, ◌⊎◌, ◌≢◌, Option, List, []}
use Rattle.std.specs.Io.KnownBytes.{Appends}

-- the reported bytes are appended to what was reported before, unless reporting failed
abbrev pub Tells : (err err' : Option (List ℕ)) → (failed : Type 0) → List ℕ → Type 0
Tells err err' failed bytes = Appends err err' bytes ⊎ failed

-- some text is reported, at least one byte
abbrev pub TellsText : (err err' : Option (List ℕ)) → (failed : Type 0) → Type 0
TellsText err err' failed = (text : List ℕ) × (text ≢ []) × Tells err err' failed text
