use Rattle.std.proofs.lemmas.Result.{err_from_is_err_and}
use Rattle.std.proofs.Common.{refl, arith, suc, ◌≤◌}
use Rattle.mcode.specs.Program.{most_routines}
use Rattle.code_file.specs.Due.Item.{a_body_count}
use Rattle.code_file.specs.Causes.{IsWrong}
use Rattle.code_file.specs.declared.stop.FileCause.TheVariants.{Limit, NotCanonical}
use Rattle.code_file.proofs.StopLemmas.{limit_short, limit_past}
use Rattle.code_file.proofs.count.read_body_count.Goals as goal

pub returns-in_err-count : goal.returns-in_err-count
returns-in_err-count c =
    let p = err_from_is_err_and c.from_residual.result c.from_residual.ensures.1 in
    rw (p.1, p.2) (limit_short (λ n. (2 ≤ n) × (n ≤ suc most_routines)) a_body_count c.args.bytes.now _ refl c.in_err-count.ensures)

pub returns-then-count-lt2 : goal.returns-then-count-lt2
returns-then-count-lt2 c =
    limit_past (λ n. (2 ≤ n) × (n ≤ suc most_routines)) a_body_count c.args.bytes.now c.in_ok-count.count c.in_ok-count.rest.now NotCanonical c.in_ok-count.ensures (λ within. omega (arith, within.0, c.if-count-lt2.true)) (λ file due. IsWrong.few_bodies due c.in_ok-count.ensures c.if-count-lt2.true)

pub returns-then-from : goal.returns-then-from
returns-then-from c =
    limit_past (λ n. (2 ≤ n) × (n ≤ suc most_routines)) a_body_count c.args.bytes.now c.in_ok-count.count c.in_ok-count.rest.now Limit c.in_ok-count.ensures (λ within. omega (arith, within.1, c.from.ensures, c.if-from.true)) (λ file due. IsWrong.many_bodies due c.in_ok-count.ensures (omega (arith, c.from.ensures, c.if-from.true)))
