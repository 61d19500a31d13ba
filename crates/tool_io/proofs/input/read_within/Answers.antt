use Rattle.std.proofs.Common.{rules, length}
use Rattle.tool_io.proofs.InputLemmas.{reads-within}
use Rattle.tool_io.proofs.input.read_within.Goals as goal

pub returns-in-End-clause-bounded : goal.returns-in-End-clause-bounded
returns-in-End-clause-bounded g c =
    let same = c.in_ok-read_part.ensures.ended (search rules) in
    let bounded = c.loop-read.invariant.2 in
    rw same (reads-within 65536 c.loop-read._read c.args.limit (length c.loop-read.input.items) (search rules) bounded)
