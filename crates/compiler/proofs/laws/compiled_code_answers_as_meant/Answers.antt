use Rattle.compiler.proofs.CompilerLemmas.{code_answers}
use Rattle.compiler.proofs.laws.compiled_code_answers_as_meant.Goals as goal

pub returns : goal.returns
returns c =
    code_answers c.code_of_specifications_is_typed.ensures c.code_runs_as_meant.ensures c.runs_end_with_the_answer.ensures
