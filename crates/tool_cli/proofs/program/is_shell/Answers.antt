use Rattle.tool_cli.proofs.program.is_shell.Goals as goal

pub returns-in-Shell : goal.returns-in-Shell
returns-in-Shell c = rw c.in-Shell.is tt

pub returns-in-Prompt : goal.returns-in-Prompt
returns-in-Prompt c = rw c.in-Prompt.is tt

pub returns-in_default : goal.returns-in_default
returns-in_default c = (c.in_default.not-Shell, c.in_default.not-Prompt)
