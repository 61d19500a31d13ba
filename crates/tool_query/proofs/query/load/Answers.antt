use Rattle.tool_query.proofs.QueryLemmas.{no_code}
use Rattle.tool_query.proofs.query.load.Goals as goal

pub returns-in-Err-verify-clause-refused : goal.returns-in-Err-verify-clause-refused
returns-in-Err-verify-clause-refused g c =
    rw c.from-in-Err-verify.ensures (no_code c.args.bytes.now c.in-Ok.code c.in-Err-verify.refused.fault.fault c.in-Err-verify.refused.fault.body c.in-Ok.ensures.ok c.in-Err-verify.ensures.refused.1)
