use Rattle.std.proofs.Common.{arith, ap, length, suc, subst, ◌+◌, ◌≡◌}
use Rattle.verifier.specs.Verified.{IsKnown, AreTables}
use Rattle.verifier.proofs.VerifiedLemmas.{started, tables_none}
use Rattle.verifier.proofs.verification.learn_routines.Goals as goal

pub loop-number-init : goal.loop-number-init
loop-number-init g c =
    let p = c.args.code.now in
    let count : length c.routines-count.result.now + 1 ≡ suc (length p.around.routines) = omega (arith, ap length c.routines-count.ensures.value) in
    let known = c.in_ok-known.known in (
      omega arith,
      started p _ known.depths.items known.budgets.items known.tables.items count c.in_ok-known.ensures,
      rw c.in_ok-known.ensures.none (tables_none p _ count),
    )

pub returns-clause-known : goal.returns-clause-known
returns-clause-known g c =
    let last : c.loop-number.number ≡ 1 = omega (arith, c.loop-number-test.false, c.loop-number.invariant.0) in
    subst (λ n. IsKnown c.args.code.now n c.loop-number.known.depths.items c.loop-number.known.budgets.items) last c.loop-number.invariant.1

pub returns-clause-tables : goal.returns-clause-tables
returns-clause-tables g c =
    let last : c.loop-number.number ≡ 1 = omega (arith, c.loop-number-test.false, c.loop-number.invariant.0) in
    subst (λ n. AreTables c.args.code.now n c.loop-number.known.tables.items) last c.loop-number.invariant.2
