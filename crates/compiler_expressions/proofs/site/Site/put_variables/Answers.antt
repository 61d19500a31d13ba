use Rattle.std.proofs.Common.{◌-◌, arith}
use Rattle.compiler_expressions.proofs.LineLemmas.{gets-at}
use Rattle.compiler_expressions.proofs.site.Site.put_variables.Goals as goal

pub put_variable-requires : goal.put_variable-requires
put_variable-requires g c =
    gets-at c.args.self.now.slots c.args.numbers.now (c.loop-place.place - 1) 0 (omega arith) c.requires
