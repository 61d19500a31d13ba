use Rattle.std.proofs.Common.{codes, refl}
use Rattle.tool_scan.proofs.KindLemmas.{not_that}
use Rattle.tool_scan.proofs.options.ScanKindFromStr.from_str.Goals as goal

pub returns-in_default : goal.returns-in_default
returns-in_default c =
    let text = c.args.text.now in
    rw (not_that (codes "set") text c.in_default.not-set, not_that (codes "bag") text c.in_default.not-bag, not_that (codes "duplicate_bag") text c.in_default.not-duplicate_bag) refl
