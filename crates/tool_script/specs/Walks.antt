-- The reply to a session that walks a table by a specification, on one thread.
use Rattle.std.specs.Prelude.{ℕ, ℤ, pos, ◌++◌, if◌then◌else◌, nat_le, Option, Some, None, set, map}
use Rattle.std.specs.Prelude.{List, [], ◌∷◌, length, codes}
use Rattle.std.specs.Option.{option_to_list}
use Rattle.term_core.specs.Datum.{Datum, cells, items_of}
use Rattle.term_core.specs.Datum.Datum.{integer, tuple, nil}
use Rattle.part_core.specs.Rows.{is_empty}
use Rattle.mspec_syntax.specs.FaultNumbers.{number_of, clause_of, variable_of}
use Rattle.mspec_syntax.specs.declared.fault.SpecFault.{SpecFault}
use Rattle.tables.specs.declared.options.Options.{Options}
use Rattle.tables.specs.OneThread.{TableState}
use Rattle.walks.specs.Sights.{Piece, first_position, sights_from, piece_of, selected, number_true, after_removal}
use Rattle.tool_script.specs.Command.{Selection, called}
use Rattle.tool_script.specs.Command.Selection.{Select, SelectLimit, SelectMore, SelectCount, SelectDelete}
use Rattle.tool_script.specs.Course.{Step, Course}
use Rattle.tool_script.specs.Course.Course.{Settled, Judging}
use Rattle.tool_script.specs.Held.{Held, held_at}
use Rattle.tool_script.specs.Script.{error, key_or_end}
use Rattle.tool_script.specs.Verdict.{Verdict}
use Rattle.tool_script.specs.Verdict.Verdict.{Meant, Faulty}

-- the argument that follows an error code, if there is one
abbrev pub arguments : Option ℕ → List Datum
arguments argument = map (λ n. integer (pos n)) (option_to_list argument)

-- the error reply to a fault of a specification: its error code, and the clause and the variable if it has them
abbrev pub fault_term : SpecFault → Datum
fault_term f =
    called (codes "error") (integer (pos (number_of f)) ∷ (arguments (clause_of f) ++ arguments (variable_of f)))

-- a piece with the number of its continuation
abbrev pub piece_term : List Datum → ℕ → Datum
piece_term given c = tuple (items_of (cells given nil ∷ integer (pos c) ∷ []))

-- a table, and the walks that can go on, by the numbers of their continuations
pub record Walked : Type 0 where
  pub table : TableState
  pub walks : List (Option Held)

-- the walk after a piece
abbrev pub behind_piece : Held → Piece → Held
behind_piece held piece =
    record { table = held.table; session = held.session; answer = held.answer; plan = held.plan; limit = held.limit; at = piece.at; kept = piece.kept }

-- A walk goes on by a piece. The reply is the piece with the number of a new continuation. If no answer is left, the
-- walk is at its end.
abbrev pub piece_step : Walked → Held → Step Walked
piece_step w held =
    let piece = piece_of held.answer held.limit held.kept held.at (sights_from w.table held.plan held.at) in
    if is_empty piece.given then (key_or_end None, w)
    else (
      piece_term piece.given (length w.walks),
      record { table = w.table; walks = w.walks ++ Some (behind_piece held piece) ∷ [] },
    )

-- a walk at its beginning
abbrev pub begun : Options → ℕ → ℕ → (Datum → Option Datum) → Option (List Datum) → Held
begun o n limit answer plan =
    record {
      table = o.name;
      session = n;
      answer = answer;
      plan = plan;
      limit = limit;
      at = first_position plan;
      kept = [];
    }

-- The walk of a continuation goes on, and the continuation is spent; error 62 if there is no such walk.
abbrev pub more_step : Walked → ℤ → Option Held → Step Walked
more_step w (pos c) (Some held) =
    piece_step (record { table = w.table; walks = set w.walks c None }) held
more_step w c held = (error 62, w)

-- the reply to `select`: all answers
abbrev pub selection_step : Walked → (Datum → Option Datum) → Option (List Datum) → Step Walked
selection_step w answer plan = (cells (selected w.table plan answer) nil, w)

-- the reply to `select_count`: the number of objects for which the answer is true
abbrev pub count_step : Walked → (Datum → Option Datum) → Option (List Datum) → Step Walked
count_step w answer plan = (integer (pos (number_true w.table plan answer)), w)

-- the reply to `select_delete`: the number of objects for which the answer is true, which are deleted
abbrev pub removal_step : Walked → (Datum → Option Datum) → Option (List Datum) → Step Walked
removal_step w answer plan = (
  integer (pos (number_true w.table plan answer)),
  record { table = after_removal w.table plan answer; walks = w.walks },
)

-- what is done, given what a specification means and the keys that it names; or the reply to its fault
abbrev pub judged : Walked → ((Datum → Option Datum) → Option (List Datum) → Step Walked) → Verdict → Step Walked
judged w go (Meant answer plan) = go answer plan
judged w go (Faulty f) = (fault_term f, w)

-- a number, if it is at least 1
abbrev pub limit_in : ℤ → Option ℕ
limit_in (pos n) = if nat_le 1 n then Some n else None
limit_in z = None

-- a walk in pieces begins, or the reply is error 63 if the limit is not at least 1
abbrev pub limited : Walked → ℕ → Datum → Option ℕ → Course Walked
limited w n d None = Settled (error 63, w)
limited w n d (Some limit) =
    Judging w.table.options d (judged w (λ answer plan. piece_step w (begun w.table.options n limit answer plan)))

-- the reply to a session's request with a specification, or for a walk, and the state after it
abbrev pub selecting : Walked → ℕ → Selection → Course Walked
selecting w n (Select d) = Judging w.table.options d (judged w (selection_step w))
selecting w n (SelectLimit d limit) = limited w n d (limit_in limit)
selecting w n (SelectMore c) =
    Settled (more_step w c (held_at w.walks w.table.options.name n c))
selecting w n (SelectCount d) = Judging w.table.options d (judged w (count_step w))
selecting w n (SelectDelete d) = Judging w.table.options d (judged w (removal_step w))

-- the reply to such a request and the state after it, if the session exists and has not left; else error 61
abbrev pub selecting_by : Walked → Selection → Option ℕ → Course Walked
selecting_by w selection (Some n) = selecting w n selection
selecting_by w selection None = Settled (error 61, w)
