use Rattle.code_file.proofs.DecodeLemmas.{code_read, code_stopped}
use Rattle.code_file.proofs.reading.decode_code.Goals as goal

pub whole-requires : goal.whole-requires
whole-requires g c = code_read c.args.bytes.now c.args.rest.now c.in-Ok.code c.in-Ok.more.now c.requires c.in-Ok.ensures c.routines-routines.ensures.within

pub returns-in-Err-clause-refused : goal.returns-in-Err-clause-refused
returns-in-Err-clause-refused g c =
    rw c.file_fault.ensures (code_stopped c.args.bytes.now c.args.rest.now c.in-Err.stop c.requires c.in-Err.ensures)
