use Rattle.std.proofs.lemmas.Grind.{common_steps}
use Rattle.std.proofs.Common.{rules, arith}
use Rattle.mspec_syntax.proofs.SoundLemmas.{clauses-sound}
use Rattle.mspec_syntax.proofs.clause.Spec.clauses.Goals as goal

pub returns-clause-sound : goal.returns-clause-sound
returns-clause-sound g c = clauses-sound c.args.self.now (search rules)

pub returns-clause-limits : goal.returns-clause-limits
returns-clause-limits g c = grind (arith, common_steps)
