use Rattle.compiler.proofs.CompilerLemmas.{good_ends, good_answers}
use Rattle.compiler.proofs.compilation.answers_as_meant.Goals as goal

pub returns-clause-runs : goal.returns-clause-runs
returns-clause-runs g c =
    good_ends c.code_runs_as_meant.ensures c.args.specification.now c.clauses-clauses.ensures.sound c.is_good.ensures

pub returns-clause-answers : goal.returns-clause-answers
returns-clause-answers g c =
    let ends = good_ends c.code_runs_as_meant.ensures c.args.specification.now c.clauses-clauses.ensures.sound c.is_good.ensures in
    good_answers c.runs_end_with_the_answer.ensures c.args.specification.now ends c.is_good.ensures
