use Rattle.std.proofs.Common.{sym, ap₂, ◌∙◌}
use Rattle.verifier_types.specs.Needed.{tops_fit}
use Rattle.verifier_types.proofs.KeyLemmas.{tops_fit-kinds}
use Rattle.verifier_types.proofs.effect.are_kinds_fit.Goals as goal

pub returns-then-not-asks_kinds : goal.returns-then-not-asks_kinds
returns-then-not-asks_kinds g c = sym (c.asks_kinds.ensures c.if-not-asks_kinds.true c.args.shape.now.kinds)

pub returns : goal.returns
returns g c =
    c.tops_fit.ensures ∙ ap₂ (λ top second. tops_fit c.args.instr top second) c.kind.ensures c.kind-2.ensures
    ∙ tops_fit-kinds c.args.instr c.args.shape.now.kinds
