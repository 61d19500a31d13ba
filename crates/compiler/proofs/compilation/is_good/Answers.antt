use Rattle.compiler.proofs.compilation.is_good.Goals as goal

pub returns : goal.returns
returns g c =
    c.code_of_specifications_is_typed.ensures c.args.specification.now c.clauses-clauses.ensures.sound c.clauses-clauses.ensures.limits
