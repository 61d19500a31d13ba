-- Walk order of a table on one thread, and the answers of the methods for keys.
use Rattle.std.specs.Prelude.{ℕ, ◌+◌, ◌-◌, Option, None, flat_map, List}
use Rattle.std.specs.List.{range_with_len}
use Rattle.term_core.specs.Datum.{Datum}
use Rattle.part_core.specs.Settings.{part_of}
use Rattle.part_core.specs.Acts.{Answer}
use Rattle.part_core.specs.Acts.Act.{Next}
use Rattle.part_core.specs.Acts.Answer.{Replied}
use Rattle.part_core.specs.Acts.Said.{AtKey}
use Rattle.part_core.specs.Rows.{Row}
use Rattle.part_core.specs.Replies.{first_live}
use Rattle.part_core.specs.Visits.{walk_order}
use Rattle.tables.specs.Options.{settings_of}
use Rattle.tables.specs.OneThread.{TableState, reply_at}

-- the rows of the parts from one on, in walk order
abbrev pub rows_from_part : TableState → ℕ → List Row
rows_from_part t part =
    flat_map (λ k. walk_order (settings_of t.options) (t.states k).base (t.states k).rows)
    (range_with_len part (t.options.parts - part))

-- all rows of a table, in walk order
abbrev pub table_rows : TableState → List Row
table_rows t = rows_from_part t 0

-- the first key in walk order (ets:first/1)
abbrev pub first_key : TableState → Option Datum
first_key t = first_live (table_rows t)

-- the answer after a part, given the part's own answer: a key, or else the first key in the parts after it
abbrev pub key_or_later : TableState → ℕ → Answer → Answer
key_or_later t part (Replied (AtKey None)) = Replied (AtKey (first_live (rows_from_part t (part + 1))))
key_or_later t part answer = answer

-- the key after another, refused if the other has no row in a set (ets:next/2)
abbrev pub key_after : TableState → ℕ → Datum → Answer
key_after t n k =
    key_or_later t (part_of (settings_of t.options) k)
    (reply_at t n (part_of (settings_of t.options) k) (Next k))

-- the objects in walk order
abbrev pub table_objects : TableState → List Datum
table_objects t = flat_map (λ r. r.1) (table_rows t)
