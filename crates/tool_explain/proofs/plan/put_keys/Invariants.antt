use Rattle.std.proofs.Common.{◌≡◌, ◌++◌, take}
use Rattle.std.specs.List.{flat_map}
use Rattle.tool_explain.specs.Plan.{key_text}
use Rattle.tool_explain.proofs.plan.put_keys.Given as goal

abbrev pub invariant-loop-key : goal.invariant-loop-key
invariant-loop-key g l = l.lines.items ≡ l.initial.lines.items ++ flat_map key_text (take l.key-index l.keys)
