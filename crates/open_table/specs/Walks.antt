-- Walks in pieces through a table of one thread.
use Rattle.std.specs.Prelude.{ℕ, ◌≡◌, ◌++◌, List, []}
use Rattle.term_core.specs.Datum.{Datum}
use Rattle.tables.specs.OneThread.{TableState}
use Rattle.tables.specs.Turns.{Home}
use Rattle.walk_core.specs.Walk.{Position}
use Rattle.walk_core.specs.Positions.{position_of}
use Rattle.walk_query.specs.declared.query.Query.{Query}
use Rattle.walks.specs.Alone.{IsPieceOf}
use Rattle.walks.specs.Pieces.{IsOwn}
use Rattle.walks.specs.Query.{IsWithin, kept_of}
use Rattle.walks.specs.declared.continuation.Continuation.{Continuation}
use Rattle.walks.specs.declared.continuation.Step.{Step}
use Rattle.walks.specs.declared.continuation.Step.TheVariants as step
use Rattle.open_table.specs.Queries.{piece_by, to_come}

-- the walk was begun by this session at this table, and is at a position that the table has
abbrev pub IsHere : {A : Type 0} → Home → Continuation A → Type 0
IsHere h w = IsOwn h w × IsWithin h.options w.query w.at

-- the answers of a walk that are still to come
abbrev pub left_of : {A : Type 0} → Continuation A → TableState → List Datum
left_of w t = to_come w.query (position_of w.at) (kept_of w.kept) t

-- a walk by this query and with this limit, for which these answers are still to come
abbrev pub GoesOn : {A : Type 0} → Home → Query A → ℕ → List Datum → TableState → Continuation A → Type 0
GoesOn h q limit due t w = (w.query ≡ q) × (w.limit ≡ limit) × IsHere h w × (left_of w t ≡ due)

-- What a step of a walk leaves, given the answers that were still to come: the walk that goes on, for which those after
-- the piece are to come; or, where none was to come, the query.
abbrev pub Leaves : {A : Type 0} → Home → Query A → ℕ → List Datum → TableState → Step A → Type 0
Leaves h q limit due t (step.Piece answers w) =
    (rest : List Datum) × (due ≡ answers.items ++ rest) × GoesOn h q limit rest t w
Leaves h q limit due t (step.End p) = (due ≡ []) × (p ≡ q)

-- a step of a walk: the next piece, and what it leaves
abbrev pub IsStep : {A : Type 0} → Home → Query A → ℕ → Position → List Datum → Step A → TableState → Type 0
IsStep h q limit at kept result t =
    IsPieceOf (piece_by q limit at kept t) result × Leaves h q limit (to_come q at kept t) t result
