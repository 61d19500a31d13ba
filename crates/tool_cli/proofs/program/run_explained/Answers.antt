use Rattle.tool_cli.proofs.EndLemmas.{ends_over, ends_unread, is_shell_ended}
use Rattle.tool_cli.proofs.program.run_explained.Goals as goal

pub returns-then-is_shell : goal.returns-then-is_shell
returns-then-is_shell g c =
    is_shell_ended c.args.request _ _ _ _ _ _ _ c.command_outcome-outcome.result (rw c.if-is_shell.true at c.is_shell.ensures) c.command_outcome-outcome.ensures c.end_explained.ensures

pub returns-in-Ok : goal.returns-in-Ok
returns-in-Ok g c =
    ends_over c.args.request _ _ _ _ _ _ _ c.in-Ok.input.items c.as_slice-unread.result.now c.as_slice.result.now c.command_outcome-outcome-in-Ok.result c.in-Ok.ensures.ok
    c.as_slice-unread.ensures.value c.command_outcome-outcome-in-Ok.ensures c.as_slice.ensures.value c.end_explained-in-Ok.ensures

pub returns-in-Err : goal.returns-in-Err
returns-in-Err g c = ends_unread c.args.request c.in-Err.fault _ _ _ _ _ _ c.in-Err.ensures.failed c.end_explained-in-Err.ensures
