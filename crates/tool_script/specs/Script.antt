-- A script on one thread: its state, and the replies to commands that open a table or have a session request something
-- of it.
use Rattle.std.specs.Prelude.{ℕ, ℤ, pos, ◌+◌, ◌==◌, Bool, true, false, not, ◌&&◌, ◌||◌, if◌then◌else◌, nat_le, nat_lt}
use Rattle.std.specs.Prelude.{Option, Some, None, List, [], ◌∷◌, codes}
use Rattle.term_core.specs.Datum.{Datum, cells}
use Rattle.term_core.specs.Datum.Datum.{integer, atom, nil}
use Rattle.term_operand.specs.Operand.{boolean}
use Rattle.part_core.specs.declared.kind.TableKind.{TableKind}
use Rattle.part_core.specs.Settings.{is_ordered, is_object, key_of, part_of}
use Rattle.part_core.specs.Acts.{Act, Answer, Said, Refusal}
use Rattle.part_core.specs.Acts.Said.{Nothing, Flag, Objects, AtKey, Found, Counted}
use Rattle.part_core.specs.Acts.Answer.{Replied, Refused}
use Rattle.part_core.specs.Acts.Refusal.{TooSmall, FixLimit, NotFixed, BadKey, CursorOutside}
use Rattle.tables.specs.declared.options.Options.{Options}
use Rattle.tables.specs.Options.{settings_of}
use Rattle.tables.specs.OneThread.{TableState, opened, reply_at, after_at, after_each, can_fix, can_unfix}
use Rattle.walks.specs.OneThread.{first_key, key_after}
use Rattle.tool_script.specs.Command.{Ask, called}
use Rattle.tool_script.specs.Command.Ask.{Insert, InsertNew, Lookup, Member, Delete, DeleteObject, Take, Fix, Unfix, Leave, First, Next}
use Rattle.tool_script.specs.Course.{Step}
use Rattle.tool_script.specs.Held.{Held}

-- the open table, and which sessions have left it
pub record OpenTable : Type 0 where
  pub table : TableState
  pub left : ℕ → Bool

-- The open table, if there is one; the number of tables opened so far, which names the next one; and the walks that can
-- go on, by the numbers of their continuations (`None` if spent).
pub record ScriptState : Type 0 where
  pub current : Option OpenTable
  pub count : ℕ
  pub walks : List (Option Held)

-- the state of a script at its beginning
abbrev pub beginning : ScriptState
beginning = record { current = None; count = 0; walks = [] }

-- an error reply, with its error code
abbrev pub error : ℕ → Datum
error n = called (codes "error") (integer (pos n) ∷ [])

-- the error codes of what a part rejects
abbrev pub refusal_number : Refusal → ℕ
refusal_number TooSmall = 50
refusal_number FixLimit = 51
refusal_number NotFixed = 52
refusal_number BadKey = 53
refusal_number CursorOutside = 54

-- a key, or the atom for the end of a table where there is no key
abbrev pub key_or_end : Option Datum → Datum
key_or_end None = atom (codes "$end_of_table")
key_or_end (Some k) = k

-- the term of what a table returned
abbrev pub said_term : Said → Datum
said_term Nothing = boolean true
said_term (Flag b) = boolean b
said_term (Objects os) = cells os nil
said_term (AtKey k) = key_or_end k
said_term (Found os next) = cells os nil
said_term (Counted n next) = integer (pos n)

abbrev pub answer_term : Answer → Datum
answer_term (Replied said) = said_term said
answer_term (Refused refusal) = error (refusal_number refusal)

-- a session does something at one part: the reply, and the table after it
abbrev pub at_part : TableState → ℕ → ℕ → Act → Datum × TableState
at_part t n part act = (answer_term (reply_at t n part act), after_at t n part act)

-- a session does something at the part of a key: the reply, and the table after it
abbrev pub at_key : TableState → ℕ → Datum → Act → Datum × TableState
at_key t n k act = at_part t n (part_of (settings_of t.options) k) act

-- a session does something with an object, at the part of its key; a term that is no object of the table is rejected,
-- and has no part
abbrev pub at_object : TableState → ℕ → Datum → Act → Datum × TableState
at_object t n object act =
    if is_object (settings_of t.options) object then at_key t n (key_of (settings_of t.options) object) act
    else (error 50, t)

-- The reply to a session's request, and the table after it. A fix is counted at each part, or at none if some part has
-- as many as are allowed. Likewise a fix is released at each part or at none.
abbrev pub asked : TableState → ℕ → Ask → Datum × TableState
asked t n (Insert object) = at_object t n object (Act.Insert object)
asked t n (InsertNew object) = at_object t n object (Act.InsertNew object)
asked t n (Lookup k) = at_key t n k (Act.Lookup k)
asked t n (Member k) = at_key t n k (Act.Member k)
asked t n (Delete k) = at_key t n k (Act.Delete k)
asked t n (DeleteObject object) = at_object t n object (Act.DeleteObject object)
asked t n (Take k) = at_key t n k (Act.Take k)
asked t n Fix = if can_fix t n then (boolean true, after_each t n Act.Fix) else (error 51, t)
asked t n Unfix = if can_unfix t n then (boolean true, after_each t n Act.Unfix) else (error 52, t)
asked t n Leave = (boolean true, after_each t n Act.Release)
asked t n First = (key_or_end (first_key t), t)
asked t n (Next k) = (answer_term (key_after t n k), t)

-- whether the session leaves the table with this request
abbrev pub is_leaving : Ask → Bool
is_leaving Leave = true
is_leaving ask = false

-- a session's request of the open table: the reply, and the table with the sessions that have left it
abbrev pub in_session : OpenTable → ℕ → Ask → Datum × OpenTable
in_session o n ask = (
  (asked o.table n ask).0,
  record { table = (asked o.table n ask).1; left = λ k. o.left k || (k == n && is_leaving ask) },
)

-- the number of a session, if it exists and has not left
abbrev pub session_number : OpenTable → ℤ → Option ℕ
session_number o (pos n) = if nat_lt n o.table.options.sessions && not (o.left n) then Some n else None
session_number o z = None

-- a number, if it is between two others (both included)
abbrev pub number_within : ℕ → ℕ → ℤ → Option ℕ
number_within low high (pos n) = if nat_le low n && nat_le n high then Some n else None
number_within low high z = None

-- the options of a table, if one can be opened with them: numbers in their ranges, and one part for an ordered set
abbrev pub options_with : ℕ → TableKind → Option ℕ → Option ℕ → Option ℕ → Option Options
options_with name kind (Some keypos) (Some parts) (Some sessions) =
    if not (is_ordered kind) || parts == 1
    then Some (record { name = name; kind = kind; keypos = keypos; parts = parts; sessions = sessions }) else None
options_with name kind keypos parts sessions = None

-- the table just opened, which no session has left
abbrev pub newly_opened : Options → OpenTable
newly_opened options = record { table = opened options; left = λ n. false }

-- a table is opened with these options, or the reply is error 60 if there are none
abbrev pub opening_of : ScriptState → Option Options → Step ScriptState
opening_of st (Some options) =
    (boolean true, record { current = Some (newly_opened options); count = st.count + 1; walks = st.walks })
opening_of st None = (error 60, record { current = None; count = st.count; walks = st.walks })

-- the reply to a session's request, and the table after it; error 61 if there is no such session
abbrev pub answered_in : OpenTable → Ask → Option ℕ → Datum × OpenTable
answered_in o ask (Some n) = in_session o n ask
answered_in o ask None = (error 61, o)

abbrev pub session_step : ScriptState → OpenTable → Ask → Option ℕ → Step ScriptState
session_step st o ask n =
    ((answered_in o ask n).0, record { current = Some (answered_in o ask n).1; count = st.count; walks = st.walks })
