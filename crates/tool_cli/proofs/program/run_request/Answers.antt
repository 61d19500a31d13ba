use Rattle.tool_cli.proofs.program.run_request.Goals as goal

pub returns : goal.returns
returns g c = record { outcome = c.command_outcome-outcome.result; written = c.command_outcome-outcome.ensures; ended = c.end.ensures }
