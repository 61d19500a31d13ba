-- What operations, replies and faults of a part mean in its history.
use Rattle.std.specs.Prelude.{ℕ, Bool, true, false, Option, Some, None, option_map, unwrap_or, Result, Ok, Err, List, [], ◌∷◌}
use Rattle.term_core.specs.Datum.{Datum}
use Rattle.term_core.specs.Datum.Datum.{nil}
use Rattle.part_core.specs.declared.op.Cursor as cursor_type
use Rattle.part_core.specs.declared.op.Cursor.TheVariants as cursor
use Rattle.part_core.specs.declared.op.Scope as scope_type
use Rattle.part_core.specs.declared.op.Scope.TheVariants as scope
use Rattle.part_core.specs.declared.op.PartOp.{PartOp}
use Rattle.part_core.specs.declared.op.PartOp.TheVariants as op
use Rattle.part_core.specs.declared.reply.Reply.{Reply}
use Rattle.part_core.specs.declared.reply.Reply.TheVariants as reply
use Rattle.part_core.specs.declared.fault.Fault.{Fault}
use Rattle.part_core.specs.declared.fault.Fault.TheVariants as fault
use Rattle.part_core.specs.Acts.{Cursor, Scope, Act, Said, Refusal, Answer, Entry}
use Rattle.part_core.specs.Acts.Purpose.{Answers, Counts, Deletes}
use Rattle.part_core.specs.Acts.Cursor.{Class, Behind}
use Rattle.part_core.specs.Acts.Scope.{Begin, After, Named}
use Rattle.part_core.specs.Acts.Act.{Insert, InsertNew, Lookup, Member, Delete, DeleteObject, Take, Fix, Unfix, Release, Visit, First, Next}
use Rattle.part_core.specs.Acts.Said.{Nothing, Flag, Objects, AtKey, Found, Counted}
use Rattle.part_core.specs.Acts.Answer.{Replied, Refused}
use Rattle.part_core.specs.Acts.Refusal.{TooSmall, FixLimit, NotFixed, BadKey, CursorOutside}

-- the cursor in a history
abbrev pub cursor_of : {A : Type 0} → cursor_type.Cursor A → Cursor
cursor_of (cursor.Class base class) = Class base class
cursor_of (cursor.Behind k) = Behind k

-- what a visit looks at
abbrev pub scope_of : {A : Type 0} → scope_type.Scope A → Scope
scope_of scope.Begin = Begin
scope_of (scope.After c) = After (cursor_of c.now)
scope_of (scope.Named k) = Named k.now

-- the object that is still in an operation, or none
abbrev pub object_in : {A : Type 0} → PartOp A → Option Datum
object_in (op.Insert object) = object
object_in (op.InsertNew object) = object
object_in other = None

-- what an operation does; an insertion that holds no object inserts nil, which is no object
abbrev pub act_of : {A : Type 0} → PartOp A → Act
act_of (op.Insert object) = Insert (unwrap_or object nil)
act_of (op.InsertNew object) = InsertNew (unwrap_or object nil)
act_of (op.Lookup k) = Lookup k.now
act_of (op.Member k) = Member k.now
act_of (op.Delete k) = Delete k.now
act_of (op.DeleteObject t) = DeleteObject t.now
act_of (op.Take k) = Take k.now
act_of op.Fix = Fix
act_of op.Unfix = Unfix
act_of op.Release = Release
act_of (op.Visit look) = Visit Answers look.code.now (scope_of look.scope) look.wanted
act_of (op.VisitCount look) = Visit Counts look.code.now (scope_of look.scope) look.wanted
act_of (op.VisitDelete look) = Visit Deletes look.code.now (scope_of look.scope) look.wanted
act_of op.First = First
act_of (op.Next k) = Next k.now

-- the value that a reply stands for
abbrev pub said_of : {A : Type 0} → Reply A → Said
said_of reply.Done = Nothing
said_of (reply.Flag b) = Flag b
said_of (reply.Objects xs) = Objects xs.items
said_of (reply.AtKey k) = AtKey k
said_of (reply.Found xs next) = Found xs.items (option_map cursor_of next)
said_of (reply.Counted count next) = Counted count (option_map cursor_of next)

-- the refusal that a fault stands for in a history; running out of memory is none
abbrev pub refusal_of : Fault → Option Refusal
refusal_of fault.Memory = None
refusal_of fault.TooSmall = Some TooSmall
refusal_of fault.FixLimit = Some FixLimit
refusal_of fault.NotFixed = Some NotFixed
refusal_of fault.BadKey = Some BadKey
refusal_of fault.CursorOutside = Some CursorOutside

-- the answer to an operation; there is none if it ran out of memory
abbrev pub answer_in : {A : Type 0} → Result (Reply A) Fault → Option Answer
answer_in (Ok r) = Some (Replied (said_of r))
answer_in (Err f) = option_map Refused (refusal_of f)

-- the entry with an answer; none if there is no answer
abbrev pub entries_of : ℕ → Act → Option Answer → List Entry
entries_of n act None = []
entries_of n act (Some answer) = record { session = n; act = act; answer = answer } ∷ []

-- what an operation adds to the history: one entry with the answer, or none if it ran out of memory
abbrev pub entries_made : {A : Type 0} → ℕ → Act → Result (Reply A) Fault → List Entry
entries_made n act result = entries_of n act (answer_in result)

-- the operations that never allocate
abbrev pub takes_no_memory : Act → Bool
takes_no_memory (Member k) = true
takes_no_memory (Delete k) = true
takes_no_memory (DeleteObject t) = true
takes_no_memory Fix = true
takes_no_memory Unfix = true
takes_no_memory Release = true
takes_no_memory act = false
