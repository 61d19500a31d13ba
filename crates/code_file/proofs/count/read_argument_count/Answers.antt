use Rattle.std.proofs.lemmas.Result.{err_from_is_err_and}
use Rattle.std.proofs.Common.{refl, arith, ◌≤◌}
use Rattle.mcode.specs.Program.{most_arguments}
use Rattle.code_file.specs.Due.Item.{a_routine}
use Rattle.code_file.specs.Causes.{IsWrong}
use Rattle.code_file.specs.declared.stop.FileCause.TheVariants.{Limit}
use Rattle.code_file.proofs.StopLemmas.{limit_short, limit_past}
use Rattle.code_file.proofs.count.read_argument_count.Goals as goal

pub returns-in_err-count : goal.returns-in_err-count
returns-in_err-count c =
    let p = err_from_is_err_and c.from_residual.result c.from_residual.ensures.1 in
    rw (p.1, p.2) (limit_short (λ n. n ≤ most_arguments) a_routine c.args.bytes.now _ refl c.in_err-count.ensures)

pub returns-then-from-gt-MAX_ARGUMENTS : goal.returns-then-from-gt-MAX_ARGUMENTS
returns-then-from-gt-MAX_ARGUMENTS c =
    limit_past (λ n. n ≤ most_arguments) a_routine c.args.bytes.now c.in_ok-count.count c.in_ok-count.rest.now Limit c.in_ok-count.ensures (λ few. omega (arith, few, c.from.ensures, c.if-from-gt-MAX_ARGUMENTS.true)) (λ file due. IsWrong.many_arguments due c.in_ok-count.ensures (omega (arith, c.from.ensures, c.if-from-gt-MAX_ARGUMENTS.true)))
