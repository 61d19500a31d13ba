use Rattle.std.proofs.Common.{◌∙◌}
use Rattle.term_core.proofs.BytesOrder.{bytes_order}
use Rattle.term_core.proofs.order.compare_texts.Goals as goal

pub returns : goal.returns
returns c = c.cmp.ensures ∙ bytes_order _ _ c.utf8.a c.utf8.b
