-- What is left of the things leads to the whole.
use Rattle.std.proofs.Common.{ℕ, ◌+◌, ◌++◌, Option, List, drop}
use Rattle.tool_explain.specs.Listing.{numbered, routine_text}
use Rattle.tool_explain.specs.Passing.{Leads}
use Rattle.tool_explain.proofs.listing.pass_routines.Given as goal

abbrev pub invariant-loop-place : goal.invariant-loop-place
invariant-loop-place g l =
    (whole left : List ℕ) (start : Option (List ℕ))
    → Leads whole start (g.W.Write.contents l.fn.writer) l.fn.lines.items (numbered (routine_text l.variables l.constants) 1 l.routines ++ left)
    → Leads whole start (g.W.Write.contents l.writer) l.lines.items (numbered (routine_text l.variables l.constants) (l.place + 1) (drop l.place l.routines) ++ left)
