-- The replies to a script of commands, on one thread.
use Rattle.std.specs.Prelude.{◌≡◌, ◌⊎◌, Option, Some, None, List, [], ◌∷◌}
use Rattle.term_core.specs.Datum.{Datum, cells}
use Rattle.term_core.specs.Datum.Datum.{nil}
use Rattle.walks.specs.OneThread.{table_objects}
use Rattle.tool_script.specs.Command.{Command, command_term, IsNoCommand}
use Rattle.tool_script.specs.Command.Command.{Open, Session, Walk, Close}
use Rattle.tool_script.specs.Course.{Course, Comes, Gives, course_in}
use Rattle.tool_script.specs.Course.Course.{Settled}
use Rattle.tool_script.specs.Script.{OpenTable, ScriptState, error, number_within, options_with, opening_of}
use Rattle.tool_script.specs.Script.{session_number, session_step}
use Rattle.tool_script.specs.Walks.{Walked, selecting_by}

-- the script with this open table and these walks that can go on
abbrev pub script_with : ScriptState → OpenTable → Walked → ScriptState
script_with st o w =
    record { current = Some (record { table = w.table; left = o.left }); count = st.count; walks = w.walks }

-- The reply to a command, and the script after it. `open` while a table is open, and any other command while none is,
-- are rejected.
abbrev pub course : ScriptState → Option OpenTable → Command → Course ScriptState
course st None (Open kind keypos parts sessions) =
    let place = number_within 1 65535 keypos in
    let options = options_with st.count kind place (number_within 1 64 parts) (number_within 1 16 sessions) in
    Settled (opening_of st options)
course st (Some o) (Session s ask) = Settled (session_step st o ask (session_number o s))
course st (Some o) (Walk s selection) =
    course_in (script_with st o)
    (selecting_by (record { table = o.table; walks = st.walks }) selection (session_number o s))
course st (Some o) Close =
    Settled (cells (table_objects o.table) nil, record { current = None; count = st.count; walks = st.walks })
course st current command = Settled (error 65, st)

-- The reply to a term: if it is the term of a command, the reply to that command; else an error.
abbrev pub IsReply : ScriptState → Datum → Datum → ScriptState → Type 0
IsReply st d reply after =
    ((command : Command) × (d ≡ command_term command) × Comes (course st st.current command) reply after)
    ⊎ (IsNoCommand d × Gives (error 65, st) reply after)

-- the replies to terms one after the other, from a state
abbrev pub AreReplies : ScriptState → List Datum → List Datum → Type 0
AreReplies st [] [] = Unit {0}
AreReplies st (d ∷ ds) (reply ∷ replies) =
    (after : ScriptState) × IsReply st d reply after × AreReplies after ds replies
AreReplies st ds replies = ⊥
