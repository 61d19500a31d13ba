use Rattle.std.proofs.Common.{◌∙◌, ◌++◌, ap}
use Rattle.tool_io.specs.Fault.{line_of}
use Rattle.tool_cli.proofs.EndLemmas.{ends_told}
use Rattle.tool_cli.proofs.program.end_explained.Goals as goal

pub returns-in-Ok : goal.returns-in-Ok
returns-in-Ok g c =
    rw c.in-Err.is (ends_told c.args.input.now c.in-Err.fault c.fault_line.new.out.items c.put_meaning-meant.new.out.items c.put_meaning-meant.result _ _ _ _ c.status.ensures
    (c.in-Ok.ensures.ok ∙ ap (λ l. l ++ line_of c.in-Err.fault) c.new-told.ensures.items) c.put_meaning-meant.ensures.ok c.put_meaning-meant.ensures.err (rw c.as_slice.ensures.value at c.tell.ensures))
