-- The commands as the code has them in memory, and what they mean.
use Rattle.tool_script.specs.declared.command.Ask as ask_type
use Rattle.tool_script.specs.declared.command.Ask.TheVariants as ask
use Rattle.tool_script.specs.declared.command.Selection as selection_type
use Rattle.tool_script.specs.declared.command.Selection.TheVariants as selection
use Rattle.tool_script.specs.declared.command.Command as command_type
use Rattle.tool_script.specs.declared.command.Command.TheVariants as command
use Rattle.tool_script.specs.Command.{Ask, Selection, Command}
use Rattle.tool_script.specs.Command.Ask.{Insert, InsertNew, Lookup, Member, Delete, DeleteObject, Take, Fix, Unfix, Leave, First, Next}
use Rattle.tool_script.specs.Command.Selection.{Select, SelectLimit, SelectMore, SelectCount, SelectDelete}
use Rattle.tool_script.specs.Command.Command.{Open, Session, Walk, Close}

-- the request that a value in memory means
abbrev pub ask_of : {A : Type 0} → ask_type.Ask A → Ask
ask_of (ask.Insert t) = Insert t.now
ask_of (ask.InsertNew t) = InsertNew t.now
ask_of (ask.Lookup k) = Lookup k.now
ask_of (ask.Member k) = Member k.now
ask_of (ask.Delete k) = Delete k.now
ask_of (ask.DeleteObject t) = DeleteObject t.now
ask_of (ask.Take k) = Take k.now
ask_of ask.Fix = Fix
ask_of ask.Unfix = Unfix
ask_of ask.Leave = Leave
ask_of ask.First = First
ask_of (ask.Next k) = Next k.now

-- the request with a specification, or for a walk, that a value in memory means
abbrev pub selection_of : {A : Type 0} → selection_type.Selection A → Selection
selection_of (selection.Select t) = Select t.now
selection_of (selection.SelectLimit t limit) = SelectLimit t.now limit
selection_of (selection.SelectMore c) = SelectMore c
selection_of (selection.SelectCount t) = SelectCount t.now
selection_of (selection.SelectDelete t) = SelectDelete t.now

-- the command that a value in memory means
abbrev pub command_of : {A : Type 0} → command_type.Command A → Command
command_of (command.Open kind keypos parts sessions) = Open kind keypos parts sessions
command_of (command.Session s a) = Session s (ask_of a)
command_of (command.Walk s x) = Walk s (selection_of x)
command_of command.Close = Close
