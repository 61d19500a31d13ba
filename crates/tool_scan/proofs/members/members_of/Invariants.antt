use Rattle.std.proofs.Common.{◌≡◌, map, take}
use Rattle.tool_scan.specs.Options.{worker_of}
use Rattle.tool_scan.proofs.members.members_of.Given as goal

abbrev pub invariant-loop-object : goal.invariant-loop-object
invariant-loop-object g l = l.numbers.items ≡ map (worker_of l.options) (take l.object-index l.objects)
