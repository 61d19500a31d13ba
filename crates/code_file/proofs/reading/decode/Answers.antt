use Rattle.std.proofs.Common.{arith}
use Rattle.code_file.proofs.HeaderLemmas.{bad_version}
use Rattle.code_file.proofs.reading.decode.Goals as goal

pub returns-in_default-clause-refused : goal.returns-in_default-clause-refused
returns-in_default-clause-refused g c known =
    bad_version c.args.bytes.now c.in_ok-version.version c.in_ok-version.rest.now c.in_ok-version.ensures.ok (omega arith) (omega arith)
