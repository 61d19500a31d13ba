use Rattle.std.proofs.lemmas.Result.{IfErr-weaker}
use Rattle.tool_script.proofs.PromptLemmas.{write_fault}
use Rattle.tool_script.proofs.prompt.ask.Goals as goal

pub returns-in-Ok : goal.returns-in-Ok
returns-in-Ok g c = IfErr-weaker c.write_before.result _ _ (λ f is. write_fault f is) c.write_before.ensures.failed
