-- The content of a part after its history: the objects of each key, from the entries that write.
use Rattle.std.specs.Prelude.{true, not, if◌then◌else◌, fold, filter, List, []}
use Rattle.term_core.specs.Datum.{Datum}
use Rattle.term_operand.specs.Order.{is_same}
use Rattle.part_core.specs.declared.settings.Settings.{Settings}
use Rattle.part_core.specs.Settings.{key_of}
use Rattle.part_core.specs.Acts.{Act, Answer, History, next_in}
use Rattle.part_core.specs.Acts.Act.{Insert, InsertNew, Delete, DeleteObject, Take, Visit}
use Rattle.part_core.specs.Acts.Answer.{Replied}
use Rattle.part_core.specs.Acts.Purpose.{Deletes}
use Rattle.part_core.specs.Acts.Said.{Flag}
use Rattle.part_core.specs.Rows.{objects_with, objects_without}
use Rattle.part_core.specs.Visits.{is_true}
use Rattle.part_core.specs.Covers.{covers}

-- the objects of a key after an entry; an entry that was refused changes nothing
abbrev pub written : Settings → Datum → List Datum → Act → Answer → List Datum
written o k os (Insert t) (Replied said) =
    if is_same (key_of o t) k then objects_with o.kind os t else os
written o k os (InsertNew t) (Replied (Flag true)) =
    if is_same (key_of o t) k then objects_with o.kind os t else os
written o k os (Delete j) (Replied said) = if is_same j k then [] else os
written o k os (DeleteObject t) (Replied said) =
    if is_same (key_of o t) k then objects_without t os else os
written o k os (Take j) (Replied said) = if is_same j k then [] else os
written o k os (Visit Deletes p scope wanted) (Replied said) =
    if covers o scope (next_in said) k then filter (λ t. not (is_true p t)) os else os
written o k os act answer = os

-- the objects of a key after a history; at its beginning there are none
abbrev pub content : Settings → Datum → History → List Datum
content o k log = fold (λ os e. written o k os e.act e.answer) [] log
