use Rattle.std.proofs.Common.{ap, ◌∙◌}
use Rattle.std.specs.Prelude.{take, ◌-◌}
use Rattle.compiler_assembly.proofs.pool.take_back.Goals as goal

pub returns : goal.returns
returns g c = c.pop.ensures.rest ∙ ap (λ n. take (n - 1) c.args.terms.now.items) c.args.terms.now.ok.0
