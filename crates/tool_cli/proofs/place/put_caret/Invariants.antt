use Rattle.std.proofs.Common.{◌≡◌, ◌++◌, drop}
use Rattle.std.specs.List.{flat_map}
use Rattle.tool_cli.specs.Place.{room_for}
use Rattle.tool_cli.proofs.place.put_caret.Given as goal

abbrev pub invariant-loop-byte : goal.invariant-loop-byte
invariant-loop-byte g l = l.out.items ++ flat_map room_for (drop l.byte-index l.before) ≡ l.fn.out.items ++ flat_map room_for l.before
