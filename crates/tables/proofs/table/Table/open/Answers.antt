use Rattle.std.proofs.Common.{sym, ◌∙◌, arith}
use Rattle.std.proofs.lemmas.Result.{IfOk-weaker}
use Rattle.tables.proofs.LocalLemmas.{openable}
use Rattle.tables.proofs.table.Table.open.Goals as goal

pub returns-clause-scarce : goal.returns-clause-scarce
returns-clause-scarce g c = λ memory.
    openable g.P.Part.serves g.P.Part.settings g.P.Part.is_after c.args.options c.in_ok-parts.parts.items (omega (arith, c.if-options-eq0.false))
    c.in_ok-parts.ensures.count (sym c.is_split_order.ensures ∙ c.if-is_split_order.false) c.in_ok-parts.ensures.each

pub returns-clause-opened : goal.returns-clause-opened
returns-clause-opened g c =
    IfOk-weaker c.gated.result _ _ (λ made h. (
      openable g.P.Part.serves g.P.Part.settings g.P.Part.is_after c.args.options c.in_ok-parts.parts.items (omega (arith, c.if-options-eq0.false))
          c.in_ok-parts.ensures.count (sym c.is_split_order.ensures ∙ c.if-is_split_order.false) c.in_ok-parts.ensures.each,
      h.0,
      h.1,
    ))
    c.gated.ensures.opened
