use Rattle.tool_cli.proofs.program.run_invocation.Goals as goal

pub returns-in-Line : goal.returns-in-Line
returns-in-Line g c = rw c.in-Line.is c.run_request.ensures

pub returns-in-Explained : goal.returns-in-Explained
returns-in-Explained g c = rw c.in-Explained.is c.run_explained.ensures
