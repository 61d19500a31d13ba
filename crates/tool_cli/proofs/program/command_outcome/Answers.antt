use Rattle.tool_cli.specs.declared.words.Request.TheVariants as request
use Rattle.tool_cli.proofs.EndLemmas.{has_outcome, has_reported, has_tested, has_replies, has_answers, has_prompted, has_scanned}
use Rattle.tool_cli.proofs.program.command_outcome.Goals as goal

pub returns-in-Run : goal.returns-in-Run
returns-in-Run g c = rw c.in-Run.is (has_reported c.in-Run.form _ _ _ c.tool_run.result c.tool_run.ensures.ok c.tool_run.ensures.refused)

pub returns-in-Test : goal.returns-in-Test
returns-in-Test g c = rw c.in-Test.is (has_tested c.in-Test.form _ _ _ c.tool_test.result c.tool_test.ensures.ok c.tool_test.ensures.refused)

pub returns-in-Compile : goal.returns-in-Compile
returns-in-Compile g c = rw c.in-Compile.is (has_outcome request.Compile _ _ _ c.tool_compile.result tt c.tool_compile.ensures.ok c.tool_compile.ensures.refused)

pub returns-in-Verify : goal.returns-in-Verify
returns-in-Verify g c = rw c.in-Verify.is (has_outcome request.Verify _ _ _ c.tool_verify.result tt c.tool_verify.ensures.ok c.tool_verify.ensures.refused)

pub returns-in-Script : goal.returns-in-Script
returns-in-Script g c = rw c.in-Script.is (has_replies _ _ _ c.run_script.result c.run_script.ensures.ok c.run_script.ensures.refused)

pub returns-in-Shell : goal.returns-in-Shell
returns-in-Shell g c = rw c.in-Shell.is (has_answers _ _ _ c.run_shell.result c.run_shell.ensures.ok c.run_shell.ensures.stopped)

pub returns-in-Prompt : goal.returns-in-Prompt
returns-in-Prompt g c = has_prompted c.args.request _ _ _ c.run_prompt.result c.in-Prompt.is c.run_prompt.ensures

pub returns-in-Scan : goal.returns-in-Scan
returns-in-Scan g c = rw c.in-Scan.is (has_scanned c.in-Scan.options _ _ _ c.tool_scan.result c.tool_scan.ensures.ok c.tool_scan.ensures.refused)

pub returns-in-Explain : goal.returns-in-Explain
returns-in-Explain g c =
    rw c.in-Explain.is (has_outcome (request.Explain c.in-Explain.keypos) _ _ _ c.tool_explain.result tt c.tool_explain.ensures.ok c.tool_explain.ensures.refused)
