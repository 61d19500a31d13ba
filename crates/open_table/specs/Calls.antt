-- What a call of a session returns, and the table after it. (STDLIB Reference Manual, module ets.)
use Rattle.std.specs.Prelude.{ℕ, if◌then◌else◌, Option, Some, option_map}
use Rattle.term_core.specs.Datum.{Datum}
use Rattle.part_core.specs.declared.fault.Fault.{Fault}
use Rattle.part_core.specs.Ops.{refusal_of}
use Rattle.part_core.specs.Settings.{is_object, key_of, part_of}
use Rattle.part_core.specs.Acts.{Act, Answer, Said}
use Rattle.part_core.specs.Acts.Act.{Fix, Unfix, Release}
use Rattle.part_core.specs.Acts.Answer.{Replied, Refused}
use Rattle.part_core.specs.Acts.Said.{Nothing}
use Rattle.part_core.specs.Acts.Refusal.{TooSmall, FixLimit, NotFixed}
use Rattle.tables.specs.Options.{settings_of}
use Rattle.tables.specs.OneThread.{TableState, reply_at, after_at, after_each, can_fix, can_unfix}
use Rattle.walks.specs.OneThread.{key_after}

-- a call: what it returns, and the table after it
abbrev pub Call : Type 0
Call = TableState → Answer × TableState

-- what a call returns if it is answered
abbrev pub replied : Said → Option Answer
replied said = Some (Replied said)

-- what a call returns if it fails; there is no answer if it ran out of memory
abbrev pub refused_by : Fault → Option Answer
refused_by fault = option_map Refused (refusal_of fault)

-- session `n` does something at one part
abbrev pub at_part : ℕ → ℕ → Act → TableState → Answer × TableState
at_part n part act t = (reply_at t n part act, after_at t n part act)

-- it does something at the part of a key
abbrev pub at_key : ℕ → Datum → Act → TableState → Answer × TableState
at_key n k act t = at_part n (part_of (settings_of t.options) k) act t

-- it does something with an object, at the part of its key; a term that is no object of the table is refused
abbrev pub at_object : ℕ → Datum → Act → TableState → Answer × TableState
at_object n x act t =
    if is_object (settings_of t.options) x then at_key n (key_of (settings_of t.options) x) act t
    else (Refused TooSmall, t)

-- it fixes the table once more, at each part, or at none if some part has as many of its fixes as are allowed
abbrev pub fixing : ℕ → TableState → Answer × TableState
fixing n t = if can_fix t n then (Replied Nothing, after_each t n Fix) else (Refused FixLimit, t)

-- it releases one of its fixes, at each part, or at none if it doesn't fix some part
abbrev pub unfixing : ℕ → TableState → Answer × TableState
unfixing n t = if can_unfix t n then (Replied Nothing, after_each t n Unfix) else (Refused NotFixed, t)

-- it releases all its fixes
abbrev pub releasing : ℕ → TableState → Answer × TableState
releasing n t = (Replied Nothing, after_each t n Release)

-- it requests the key after another, which changes nothing
abbrev pub following : ℕ → Datum → TableState → Answer × TableState
following n k t = (key_after t n k, t)
