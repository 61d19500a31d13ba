use Rattle.std.proofs.lemmas.Result.{IfErr-weaker}
use Rattle.tool_script.proofs.GatherLemmas.{script_stops}
use Rattle.tool_script.proofs.run.run_script.Goals as goal

pub returns-clause-refused : goal.returns-clause-refused
returns-clause-refused g c =
    IfErr-weaker c.run_with.result _ _ (λ f stops. script_stops c.new-script.result c.run_with.new.script _ _ _ f stops) c.run_with.ensures.refused
