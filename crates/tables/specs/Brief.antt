-- A session that waits for no part.
use Rattle.std.specs.Prelude.{Bool, true, false}
use Rattle.tables.specs.declared.brief.Halt.{Halt}
use Rattle.tables.specs.declared.brief.Halt.TheVariants.{Nothing, Busy, Bound}

-- the turn before was made
abbrev pub was_made : Halt → Bool
was_made Nothing = true
was_made Busy = false
was_made Bound = false
