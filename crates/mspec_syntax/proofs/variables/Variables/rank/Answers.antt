use Rattle.std.proofs.lemmas.Grind.{elements}
use Rattle.std.proofs.Common.{arith}
use Rattle.mspec_syntax.proofs.RisingLemmas.{among-missed}
use Rattle.mspec_syntax.proofs.variables.Variables.rank.Goals as goal

pub returns-in-Err-clause-missing : goal.returns-in-Err-clause-missing
returns-in-Err-clause-missing g c =
    let found = rw c.as_slice.ensures.value at c.in-Err.ensures.position in
    rw (← c.self.view_is) (among-missed c.self.inside.numbers.items c.args.number c.in-Err.field-0 c.self.invariant found)

pub returns-in-Ok-clause-found : goal.returns-in-Ok-clause-found
returns-in-Ok-clause-found g c = grind (arith, elements)
