use Rattle.std.proofs.lemmas.Result.{err_from_is_err_and, IfErr-weaker}
use Rattle.code_writer.specs.Formats.{instruction_format}
use Rattle.code_file.specs.Due.Row.{instructions}
use Rattle.code_file.proofs.RowLemmas.{counted_short, counted_stop}
use Rattle.code_file.proofs.body.read_instrs.Goals as goal

pub returns-in_err-count-clause-refused : goal.returns-in_err-count-clause-refused
returns-in_err-count-clause-refused g c =
    let p = err_from_is_err_and c.from_residual.result c.from_residual.ensures.1 in
    rw (p.1, p.2) (counted_short (instruction_format c.args.most) (instructions c.args.most) c.args.bytes.now _ c.in_err-count.ensures)

pub returns-clause-refused : goal.returns-clause-refused
returns-clause-refused g c =
    IfErr-weaker c.read_instr_rows.result _ _ (λ stop h. counted_stop (instruction_format c.args.most) (instructions c.args.most) c.args.bytes.now c.in_ok-count.count c.in_ok-count.rest.now stop c.in_ok-count.ensures h) c.read_instr_rows.ensures.refused
