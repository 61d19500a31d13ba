use Rattle.std.proofs.Common.{rules}
use Rattle.std.specs.Prelude.{not}
use Rattle.std.proofs.lemmas.Map.Made.{filter_same_pairs}
use Rattle.part_core.specs.Rows.{is_empty}
use Rattle.part_order.proofs.tree.keep_live.Goals as goal

pub returns : goal.returns
returns g c =
    filter_same_pairs _ (λ r. not (is_empty r.1)) _ (λ k v b w f' t. search rules) _ _ c.retain.ensures.filtered
