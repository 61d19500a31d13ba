-- What calls with a query return. (STDLIB Reference Manual, module ets.)
use Rattle.std.specs.Prelude.{ℕ, ◌++◌, List}
use Rattle.term_core.specs.Datum.{Datum}
use Rattle.mcode.specs.Answer.{answer_of}
use Rattle.tables.specs.OneThread.{TableState}
use Rattle.walk_core.specs.Walk.{Position}
use Rattle.walk_query.specs.declared.query.Query.{Query}
use Rattle.walks.specs.Query.{plan_of}
use Rattle.walks.specs.Sights.{Piece, after_removal, answers_in, first_position, number_true, piece_of, selected, sights_from}

-- the answers of a query for the objects of a table, in walk order (ets:select/2)
abbrev pub answers_by : {A : Type 0} → Query A → TableState → List Datum
answers_by q t = selected t (plan_of q t.options) (answer_of q.code)

-- the number of objects for which a query's answer is true (ets:select_count/2)
abbrev pub count_by : {A : Type 0} → Query A → TableState → ℕ
count_by q t = number_true t (plan_of q t.options) (answer_of q.code)

-- the table without these objects (ets:select_delete/2)
abbrev pub without : {A : Type 0} → Query A → TableState → TableState
without q t = after_removal t (plan_of q t.options) (answer_of q.code)

-- where a walk by a query begins
abbrev pub start_in : {A : Type 0} → Query A → TableState → Position
start_in q t = first_position (plan_of q t.options)

-- the next piece of a walk, at a position and with the answers that it keeps (ets:select/3, ets:select/1)
abbrev pub piece_by : {A : Type 0} → Query A → ℕ → Position → List Datum → TableState → Piece
piece_by q limit at kept t = piece_of (answer_of q.code) limit kept at (sights_from t (plan_of q t.options) at)

-- the answers of a walk that are still to come, at a position and with the answers that it keeps
abbrev pub to_come : {A : Type 0} → Query A → Position → List Datum → TableState → List Datum
to_come q at kept t = kept ++ answers_in (answer_of q.code) (sights_from t (plan_of q t.options) at)
