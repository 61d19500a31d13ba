use Rattle.std.proofs.Common.{◌-◌, ap, ◌∙◌}
use Rattle.std.proofs.lemmas.Result.{IfOk-weaker}
use Rattle.walk_query.proofs.KeyLemmas.{sound-here, key-here, key-past}
use Rattle.walk_query.proofs.keys.key_among.Goals as goal

pub spelled-requires : goal.spelled-requires
spelled-requires g c =
    sound-here c.in-Some.element c.args.elements.now (c.from.result - 1) c.in-Some.ensures.lookup.3 c.requires

pub returns-in-Some : goal.returns-in-Some
returns-in-Some g c =
    let before = ap (λ n. n - 1) c.from.ensures in
    let here = key-here c.in-Some.element c.args.elements.now c.args.keypos (c.from.result - 1) before c.if-keypos-eq0.false c.in-Some.ensures.lookup.3 in
    IfOk-weaker c.spelled.result _ _ (λ key is. is ∙ here) c.spelled.ensures

pub returns-in-None : goal.returns-in-None
returns-in-None g c =
    let before = ap (λ n. n - 1) c.from.ensures in
    key-past c.args.elements.now c.args.keypos (c.from.result - 1) before c.if-keypos-eq0.false c.in-None.ensures.lookup.3
