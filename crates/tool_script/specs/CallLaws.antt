-- The reply to a session's request is the term of what the call of a table returns.
use Rattle.std.specs.Prelude.{ℕ, ◌≡◌}
use Rattle.part_core.specs.Acts.{Act as act, Answer}
use Rattle.part_core.specs.Acts.Answer.{Replied}
use Rattle.part_core.specs.Acts.Said.{AtKey}
use Rattle.tables.specs.OneThread.{TableState}
use Rattle.walks.specs.OneThread.{first_key}
use Rattle.open_table.specs.Calls.{at_key, at_object, fixing, following, releasing, unfixing}
use Rattle.tool_script.specs.Command.{Ask}
use Rattle.tool_script.specs.Command.Ask.{Insert, InsertNew, Lookup, Member, Delete, DeleteObject, Take, Fix, Unfix, Leave, First, Next}
use Rattle.tool_script.specs.Script.{answer_term, asked}

-- the call of a table that session `n` makes by a request
abbrev pub call_of : ℕ → Ask → TableState → Answer × TableState
call_of n (Insert object) t = at_object n object (act.Insert object) t
call_of n (InsertNew object) t = at_object n object (act.InsertNew object) t
call_of n (Lookup k) t = at_key n k (act.Lookup k) t
call_of n (Member k) t = at_key n k (act.Member k) t
call_of n (Delete k) t = at_key n k (act.Delete k) t
call_of n (DeleteObject object) t = at_object n object (act.DeleteObject object) t
call_of n (Take k) t = at_key n k (act.Take k) t
call_of n Fix t = fixing n t
call_of n Unfix t = unfixing n t
call_of n Leave t = releasing n t
call_of n First t = (Replied (AtKey (first_key t)), t)
call_of n (Next k) t = following n k t

-- a request is replied to by what its call returns, and leaves the table that the call leaves
abbrev pub CallsAreCommands : Type 0
CallsAreCommands =
    (t : TableState) (n : ℕ) (ask : Ask)
    → ((asked t n ask).0 ≡ answer_term (call_of n ask t).0) × ((asked t n ask).1 ≡ (call_of n ask t).1)
