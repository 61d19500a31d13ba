use Rattle.machine_bodies.proofs.AnswerLemmas.{ends_with}
use Rattle.machine_bodies.proofs.laws.runs_end_with_the_answer.Goals as goal

pub returns : goal.returns
returns c = λ p object main typed n a. ends_with p main typed object n a
