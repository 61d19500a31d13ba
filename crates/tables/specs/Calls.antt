-- What the methods of a session do to what it sees of a table.
use Rattle.std.specs.Prelude.{ℕ, ◌≡◌, ◌<◌, nat_lt, Bool, true, false, Option, None, IsTrue, IsFalse}
use Rattle.term_core.specs.Datum.{Datum}
use Rattle.part_core.specs.declared.fault.Fault.{Fault}
use Rattle.part_core.specs.declared.fault.Fault.TheVariants as fault
use Rattle.part_core.specs.Settings.{is_object, key_of}
use Rattle.part_core.specs.Acts.{Act, Answer}
use Rattle.part_core.specs.Acts.Act.{Fix, Unfix}
use Rattle.part_core.specs.Acts.Said.{Flag, Objects}
use Rattle.part_core.specs.Acts.Answer.{Replied}
use Rattle.part_core.specs.Replies.{most_fixes}
use Rattle.part_core.specs.Legal.{fix_count}
use Rattle.tables.specs.Options.{settings_of}
use Rattle.tables.specs.Turns.{Home, Views, TurnedByKey}

-- a call with an object that was answered, or ran out of memory: one turn at the part of the object's key
abbrev pub TurnedByObject : Home → Datum → Act → Option Answer → Views → Views → Type 0
TurnedByObject h t act answer v w =
    IsTrue (is_object (settings_of h.options) t) × TurnedByKey h (key_of (settings_of h.options) t) act answer v w

-- a call with an object that failed: it ran out of memory, with no entry; or the term is no object, with no turn
abbrev pub RefusedByObject : Home → Datum → Act → Fault → Views → Views → Type 0
RefusedByObject h t act fault.Memory v w = TurnedByObject h t act None v w
RefusedByObject h t act fault.TooSmall v w = IsFalse (is_object (settings_of h.options) t) × (w ≡ v)
RefusedByObject h t act other v w = ⊥

-- a count of fixes can be increased by Fix or decreased by Unfix
abbrev pub is_granted : Act → ℕ → Bool
is_granted Fix count = nat_lt count most_fixes
is_granted Unfix count = nat_lt 0 count
is_granted act count = true

-- the session's count at each part allows the operation
abbrev pub IsGranted : Home → Act → Views → Type 0
IsGranted h act v =
    (part : ℕ) → part < h.options.parts → IsTrue (is_granted act (fix_count h.number (v part)))

-- the session's count at some part does not allow the operation
abbrev pub IsNotGranted : Home → Act → Views → Type 0
IsNotGranted h act v =
    (part : ℕ) × (part < h.options.parts) × IsFalse (is_granted act (fix_count h.number (v part)))

-- some count does not allow the operation, so there is no turn
abbrev pub RefusedEach : Home → Act → Views → Views → Type 0
RefusedEach h act v w = IsNotGranted h act v × (w ≡ v)

-- whether an answer is a reply of yes or no, and whether it is one of objects
abbrev pub is_flag : Answer → Bool
is_flag (Replied (Flag b)) = true
is_flag answer = false

abbrev pub is_objects : Answer → Bool
is_objects (Replied (Objects os)) = true
is_objects answer = false
