use Rattle.std.proofs.lemmas.Result.{err_from_is_err_and}
use Rattle.std.proofs.Common.{refl, arith, ◌≤◌}
use Rattle.mcode.specs.Program.{most_slots}
use Rattle.code_file.specs.Due.Item.{a_slot_count}
use Rattle.code_file.specs.Causes.{IsWrong}
use Rattle.code_file.specs.declared.stop.FileCause.TheVariants.{Limit}
use Rattle.code_file.proofs.StopLemmas.{limit_short, limit_past}
use Rattle.code_file.proofs.count.read_slot_count.Goals as goal

pub returns-in_err-count : goal.returns-in_err-count
returns-in_err-count c =
    let p = err_from_is_err_and c.from_residual.result c.from_residual.ensures.1 in
    rw (p.1, p.2) (limit_short (λ n. n ≤ most_slots) a_slot_count c.args.bytes.now _ refl c.in_err-count.ensures)

pub returns-then-count-gt-MAX_SLOTS : goal.returns-then-count-gt-MAX_SLOTS
returns-then-count-gt-MAX_SLOTS c =
    limit_past (λ n. n ≤ most_slots) a_slot_count c.args.bytes.now c.in_ok-count.count c.in_ok-count.rest.now Limit c.in_ok-count.ensures (λ few. omega (arith, few, c.if-count-gt-MAX_SLOTS.true)) (λ file due. IsWrong.many_slots due c.in_ok-count.ensures c.if-count-gt-MAX_SLOTS.true)
