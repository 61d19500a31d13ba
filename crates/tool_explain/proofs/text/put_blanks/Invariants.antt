use Rattle.std.proofs.Common.{◌≡◌, ◌++◌}
use Rattle.tool_explain.specs.Table.{blanks}
use Rattle.tool_explain.proofs.text.put_blanks.Given as goal

abbrev pub invariant-loop-blank : goal.invariant-loop-blank
invariant-loop-blank g l = l.line.items ≡ l.initial.line.items ++ blanks l._blank
