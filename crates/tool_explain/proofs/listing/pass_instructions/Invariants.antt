-- What is left of the things leads to the whole.
use Rattle.std.proofs.Common.{ℕ, ◌+◌, ◌++◌, Option, List, drop}
use Rattle.tool_explain.specs.Listing.{numbered, instruction_line}
use Rattle.tool_explain.specs.Passing.{Leads}
use Rattle.tool_explain.proofs.listing.pass_instructions.Given as goal

abbrev pub invariant-loop-pc : goal.invariant-loop-pc
invariant-loop-pc g l =
    (whole left : List ℕ) (start : Option (List ℕ))
    → Leads whole start (g.W.Write.contents l.fn.writer) l.fn.lines.items (numbered (instruction_line l.variables l.constants) 0 l.instructions ++ left)
    → Leads whole start (g.W.Write.contents l.writer) l.lines.items (numbered (instruction_line l.variables l.constants) l.pc (drop l.pc l.instructions) ++ left)
