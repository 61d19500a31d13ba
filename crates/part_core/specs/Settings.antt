-- The settings of a table: how many objects a key can have, which element of an object is its key, and how keys are
-- spread over parts and classes. (STDLIB Reference Manual, ets:new/2.)
use Rattle.std.specs.Prelude.{ℕ, ◌/◌, ◌%◌, Bool, true, false, is_some, unwrap_or}
use Rattle.term_core.specs.Datum.{Datum}
use Rattle.term_core.specs.Datum.Datum.{nil}
use Rattle.term_core.specs.KeyHash.{key_hash}
use Rattle.mcode.specs.Machine.{field_of}
use Rattle.part_core.specs.declared.kind.TableKind.{TableKind}
use Rattle.part_core.specs.declared.kind.TableKind.TheVariants.{Set, OrderedSet}
use Rattle.part_core.specs.declared.settings.Settings.{Settings}

-- the table is walked in key order
abbrev pub is_ordered : TableKind → Bool
is_ordered OrderedSet = true
is_ordered kind = false

-- the table holds at most one object per key
abbrev pub is_set : TableKind → Bool
is_set Set = true
is_set OrderedSet = true
is_set kind = false

-- a term is an object if it is a tuple with an element at keypos, which is counted from 1
abbrev pub is_object : Settings → Datum → Bool
is_object o t = is_some (field_of o.keypos t)

-- the key of an object: the element at keypos
abbrev pub key_of : Settings → Datum → Datum
key_of o t = unwrap_or (field_of o.keypos t) nil

-- the part that a key belongs to
abbrev pub part_of : Settings → Datum → ℕ
part_of o k = key_hash k % o.parts

-- the class of a key among `base` classes
abbrev pub class_at : Settings → ℕ → Datum → ℕ
class_at o base k = (key_hash k / o.parts) % base
