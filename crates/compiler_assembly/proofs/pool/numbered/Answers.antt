use Rattle.std.proofs.Common.{◌≡◌, drop, ap, ◌∙◌, arith}
use Rattle.compiler_assembly.specs.Pool.{place_from}
use Rattle.compiler_assembly.proofs.PoolLemmas.{place_first}
use Rattle.compiler_assembly.proofs.pool.numbered.Goals as goal

pub returns : goal.returns
returns g c = λ d.
    let first : c.loop-place.place ≡ 0 = omega (arith, c.loop-place-test.false) in
    c.loop-place.invariant d ∙ ap (λ n. place_from (drop n c.args.terms.now) n d) first ∙ place_first c.args.terms.now d
