use Rattle.walk_core.proofs.OnceLemmas.{moment_takes}
use Rattle.walk_core.proofs.laws.deletions_are_the_marks.Goals as goal

pub returns : goal.returns
returns c = λ w calls now k moment deletes m. moment_takes w calls now k moment deletes m
