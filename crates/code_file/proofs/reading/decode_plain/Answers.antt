use Rattle.code_file.proofs.DecodeLemmas.{plain_read, plain_stopped}
use Rattle.code_file.proofs.reading.decode_plain.Goals as goal

pub whole-requires : goal.whole-requires
whole-requires g c = plain_read c.args.bytes.now c.args.rest.now c.in-Ok.code c.in-Ok.more.now c.requires c.in-Ok.ensures.code c.in-Ok.ensures.alone c.routines-routines.ensures.within

pub returns-in-Err-clause-refused : goal.returns-in-Err-clause-refused
returns-in-Err-clause-refused g c =
    rw c.file_fault.ensures (plain_stopped c.args.bytes.now c.args.rest.now c.in-Err.stop c.requires c.in-Err.ensures.code)
