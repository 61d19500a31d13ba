-- A table on one thread: the state of each part, and what the methods of a session do to it.
use Rattle.std.specs.Prelude.{ℕ, ◌==◌, Bool, if◌then◌else◌, nat_lt, List}
use Rattle.std.specs.List.{list_all, range_with_len}
use Rattle.part_core.specs.Acts.{Act, Answer}
use Rattle.part_core.specs.Rows.{PartState, opening}
use Rattle.part_core.specs.Replies.{fixes_of, most_fixes, reply_of}
use Rattle.part_core.specs.After.{after}
use Rattle.tables.specs.declared.options.Options.{Options}
use Rattle.tables.specs.Options.{settings_of}

-- the options with which a table was opened, and the state of each part, by its number
pub record TableState : Type 0 where
  pub options : Options
  pub states : ℕ → PartState

-- a table that was just opened
abbrev pub opened : Options → TableState
opened o = record { options = o; states = λ part. opening (settings_of o) }

-- the answer to a session's operation at a part
abbrev pub reply_at : TableState → ℕ → ℕ → Act → Answer
reply_at t n part act = reply_of (settings_of t.options) (t.states part) n act

-- the table after a session's operation at a part
abbrev pub after_at : TableState → ℕ → ℕ → Act → TableState
after_at t n part act =
    record { options = t.options; states = λ k. if k == part then after (settings_of t.options) (t.states k) n act else t.states k }

-- the table after a session's operation at each part
abbrev pub after_each : TableState → ℕ → Act → TableState
after_each t n act =
    record { options = t.options; states = λ k. after (settings_of t.options) (t.states k) n act }

-- the numbers of the parts of a table
abbrev pub parts_of : TableState → List ℕ
parts_of t = range_with_len 0 t.options.parts

-- the session can add a fix at each part
abbrev pub can_fix : TableState → ℕ → Bool
can_fix t n = list_all (λ part. nat_lt (fixes_of (t.states part) n) most_fixes) (parts_of t)

-- the session can release a fix at each part, since it fixes each
abbrev pub can_unfix : TableState → ℕ → Bool
can_unfix t n = list_all (λ part. nat_lt 0 (fixes_of (t.states part) n)) (parts_of t)
