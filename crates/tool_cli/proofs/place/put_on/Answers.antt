use Rattle.std.proofs.Common.{arith}
use Rattle.std.proofs.lemmas.List.{length-take}
use Rattle.tool_cli.proofs.place.put_on.Goals as goal

pub slice_bounds-beginning-end : goal.slice_bounds-beginning-end
slice_bounds-beginning-end g c = omega (arith, length-take 160 c.args.line.now, c.if-line-le-SIDE.false)
