-- The values of calls.
use Rattle.std.specs.Prelude.{Option, Some, None, List}
use Rattle.prims.specs.Calls.{function_of}
use Rattle.prims_table.specs.declared.prim.Primitive.{Primitive}
use Rattle.term_core.specs.Datum.{Datum}
use Rattle.mspec_syntax.specs.declared.mode.Mode.{Mode}
use Rattle.mspec_meaning.specs.Made.{or_failed}

-- the value of a call, given its arguments' values; None if one of them has no value
abbrev pub called : Mode → Primitive → Option (List Datum) → Option Datum
called mode f None = None
called mode f (Some ds) = or_failed mode (function_of f ds)
