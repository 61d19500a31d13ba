use Rattle.std.proofs.lemmas.Result.{IfErr-weaker}
use Rattle.tool_io.specs.declared.fault.ToolFault.TheVariants as fault
use Rattle.tool_script.proofs.PromptLemmas.{told_fault, write_fault}
use Rattle.tool_script.proofs.prompt.finish.Goals as goal

pub returns-in-Ok : goal.returns-in-Ok
returns-in-Ok g c = IfErr-weaker c.write_lines.result _ _ (λ f is. write_fault f is) c.write_lines.ensures.failed

pub returns-in-Err : goal.returns-in-Err
returns-in-Err g c = told_fault fault.Memory c.told.result _ _ _ c.told.ensures tt
