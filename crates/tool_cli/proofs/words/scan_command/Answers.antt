use Rattle.std.proofs.lemmas.Result.{MatchResult-weaker}
use Rattle.tool_cli.proofs.WordsLemmas.{option_added, option_local}
use Rattle.tool_cli.proofs.words.scan_command.Goals as goal

pub returns-clause-shape : goal.returns-clause-shape
returns-clause-shape c =
    let p = c.kind.ensures.rule.0 in
    let one = option_added c.command.result c.in_ok-arg.field-0 c.kind.result _ _ (c.command.ensures.shape p) c.kind.ensures.local c.kind.ensures.rule.2 c.in_ok-arg.ensures in
    let two = option_added c.in_ok-arg.field-0 c.in_ok-arg-2.field-0 c.keypos.result _ _ one c.keypos.ensures.local (c.keypos.ensures.rule p) c.in_ok-arg-2.ensures in
    let three = option_added c.in_ok-arg-2.field-0 c.in_ok-arg-3.field-0 c.parts.result _ _ two c.parts.ensures.local (c.parts.ensures.rule p) c.in_ok-arg-3.ensures in
    let four = option_added c.in_ok-arg-3.field-0 c.in_ok-arg-4.field-0 c.workers.result _ _ three c.workers.ensures.local (c.workers.ensures.rule p) c.in_ok-arg-4.ensures in
    MatchResult-weaker c.arg-5.result c.arg-5.ensures
    (λ command h. (p, c.kind.ensures.rule.1, option_added c.in_ok-arg-4.field-0 command c.why.result _ _ four c.why.ensures.local (c.why.ensures.rule p) h))
    (λ e h. h)

pub returns-clause-local : goal.returns-clause-local
returns-clause-local c =
    let one = option_local c.command.result c.in_ok-arg.field-0 c.kind.result c.command.ensures.local c.kind.ensures.local c.in_ok-arg.ensures in
    let two = option_local c.in_ok-arg.field-0 c.in_ok-arg-2.field-0 c.keypos.result one c.keypos.ensures.local c.in_ok-arg-2.ensures in
    let three = option_local c.in_ok-arg-2.field-0 c.in_ok-arg-3.field-0 c.parts.result two c.parts.ensures.local c.in_ok-arg-3.ensures in
    let four = option_local c.in_ok-arg-3.field-0 c.in_ok-arg-4.field-0 c.workers.result three c.workers.ensures.local c.in_ok-arg-4.ensures in
    MatchResult-weaker c.arg-5.result c.arg-5.ensures
    (λ command h. option_local c.in_ok-arg-4.field-0 command c.why.result four c.why.ensures.local h) (λ e h. h)
