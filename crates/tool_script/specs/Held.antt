-- The walks in pieces that a script keeps, by the numbers of their continuations.
use Rattle.std.specs.Prelude.{ℕ, ℤ, pos, ◌==◌, ◌&&◌, if◌then◌else◌, Option, Some, None, get_or, List}
use Rattle.term_core.specs.Datum.{Datum}
use Rattle.walk_core.specs.Walk.{Position}

-- A walk that can go on: the name of its table and the number of its session; the answer on each object; the named
-- keys, if there are any; the maximal number of answers in a piece; the position of the walk; and the answers that are
-- kept for the next piece.
pub record Held : Type 0 where
  pub table : ℕ
  pub session : ℕ
  pub answer : Datum → Option Datum
  pub plan : Option (List Datum)
  pub limit : ℕ
  pub at : Position
  pub kept : List Datum

-- a walk, if it belongs to this table and session
abbrev pub held_by : ℕ → ℕ → Option Held → Option Held
held_by table n (Some held) =
    if held.table == table && held.session == n then Some held else None
held_by table n None = None

-- the walk of a continuation's number, if it exists, is not spent, and belongs to this table and session
abbrev pub held_at : List (Option Held) → ℕ → ℕ → ℤ → Option Held
held_at walks table n (pos c) = held_by table n (get_or walks c None)
held_at walks table n c = None
