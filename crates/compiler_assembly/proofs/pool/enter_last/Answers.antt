use Rattle.std.proofs.Common.{arith}
use Rattle.std.proofs.lemmas.Result.{on_ok_weaker}
use Rattle.compiler_assembly.proofs.PoolLemmas.{pool_last}
use Rattle.compiler_assembly.proofs.pool.enter_last.Goals as goal

pub returns-then-place-gt-FEW-clause-ok : goal.returns-then-place-gt-FEW-clause-ok
returns-then-place-gt-FEW-clause-ok g c =
    on_ok_weaker c.enter.result
    (λ entered. pool_last _ _ c.args.terms.now c.args.place c.index-terms-place.result c.requires.last c.requires.count (omega (arith, c.if-place-gt-FEW.true)) c.index-terms-place.is c.requires.front c.requires.new entered)
    c.enter.ensures.ok
