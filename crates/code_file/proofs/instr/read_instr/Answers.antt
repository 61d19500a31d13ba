use Rattle.std.proofs.lemmas.Result.{err_from_is_err_and}
use Rattle.code_file.proofs.InstructionLemmas.{opcode_stop, slotted_stop, single_stop, double_stop}
use Rattle.code_file.proofs.instr.read_instr.Goals as goal

pub returns-in_err-opcode : goal.returns-in_err-opcode
returns-in_err-opcode c =
    let p = err_from_is_err_and c.from_residual.result c.from_residual.ensures.1 in
    rw (p.1, p.2) (opcode_stop c.args.most c.args.bytes.now _ c.in_err-opcode.ensures)

pub returns-in_err-slot-in-Slotted : goal.returns-in_err-slot-in-Slotted
returns-in_err-slot-in-Slotted c =
    let p = err_from_is_err_and c.from_residual-in_err-slot-in-Slotted.result c.from_residual-in_err-slot-in-Slotted.ensures.1 in
    let begun = rw c.in-Slotted.is at c.in_ok-opcode.ensures in
    rw (p.1, p.2) (slotted_stop c.args.most c.args.bytes.now c.in-Slotted.slotted c.in_ok-opcode.rest.now _ begun c.in_err-slot-in-Slotted.ensures)

pub returns-in_err-number-in-Single : goal.returns-in_err-number-in-Single
returns-in_err-number-in-Single c =
    let p = err_from_is_err_and c.from_residual-in_err-number-in-Single.result c.from_residual-in_err-number-in-Single.ensures.1 in
    let begun = rw c.in-Single.is at c.in_ok-opcode.ensures in
    rw (p.1, p.2) (single_stop c.args.most c.args.bytes.now c.in-Single.single c.in_ok-opcode.rest.now _ begun c.in_err-number-in-Single.ensures)

pub returns-in_err-number-in-Double : goal.returns-in_err-number-in-Double
returns-in_err-number-in-Double c =
    let p = err_from_is_err_and c.from_residual-in_err-number-in-Double.result c.from_residual-in_err-number-in-Double.ensures.1 in
    let begun = rw c.in-Double.is at c.in_ok-opcode.ensures in
    rw (p.1, p.2) (double_stop c.args.most c.args.bytes.now c.in-Double.double c.in_ok-opcode.rest.now _ begun c.in_err-number-in-Double.ensures)
