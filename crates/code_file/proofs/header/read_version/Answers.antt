use Rattle.code_file.proofs.HeaderLemmas.{version_stopped, header_read}
use Rattle.code_file.proofs.header.read_version.Goals as goal

pub returns-in-Ok-clause-ok : goal.returns-in-Ok-clause-ok
returns-in-Ok-clause-ok c = header_read c.args.bytes.now c.in_ok-rest.rest.now c.in-Ok.read.0 c.in-Ok.read.1.now c.in_ok-rest.ensures.ok c.in-Ok.ensures

pub returns-in-Err-clause-refused : goal.returns-in-Err-clause-refused
returns-in-Err-clause-refused c = rw c.file_fault.ensures (version_stopped c.args.bytes.now c.in_ok-rest.rest.now c.in-Err.stop c.in_ok-rest.ensures.ok c.in-Err.ensures)
