-- What is appended followed by what is left is the whole.
use Rattle.std.proofs.Common.{◌≡◌, ◌++◌, drop}
use Rattle.tool_script.specs.Replies.{behind_commas}
use Rattle.tool_script.proofs.reply.put_more.Given as goal

abbrev pub invariant-loop-object : goal.invariant-loop-object
invariant-loop-object g l =
    l.text.items ++ behind_commas (drop l.object-index l.objects) ≡ l.initial.text.items ++ behind_commas l.objects
