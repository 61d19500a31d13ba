use Rattle.std.proofs.Common.{sym, ◌∙◌, arith}
use Rattle.compiler_assembly.proofs.PoolLemmas.{place_found, place_nowhere}
use Rattle.compiler_assembly.proofs.pool.place_among.Goals as goal

pub returns-then-eq : goal.returns-then-eq
returns-then-eq g c =
    place_found c.args.terms.now c.loop-place.place c.index-terms-place.result c.args.term.now (omega (arith, c.loop-place-test.true)) c.index-terms-place.is (sym c.eq.ensures ∙ c.if-eq.true) c.loop-place.invariant

pub returns : goal.returns
returns g c =
    place_nowhere c.args.terms.now c.loop-place.place c.args.term.now (omega (arith, c.loop-place-test.false)) c.loop-place.invariant
