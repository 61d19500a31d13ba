-- What is left of the things leads to the whole.
use Rattle.std.proofs.Common.{ℕ, ◌+◌, ◌++◌, Option, List, drop}
use Rattle.tool_explain.specs.Listing.{numbered, constant_line}
use Rattle.tool_explain.specs.Passing.{Leads}
use Rattle.tool_explain.proofs.listing.pass_constants.Given as goal

abbrev pub invariant-loop-place : goal.invariant-loop-place
invariant-loop-place g l =
    (whole left : List ℕ) (start : Option (List ℕ))
    → Leads whole start (g.W.Write.contents l.fn.writer) l.fn.lines.items (numbered (constant_line) 0 l.constants ++ left)
    → Leads whole start (g.W.Write.contents l.writer) l.lines.items (numbered (constant_line) l.place (drop l.place l.constants) ++ left)
