use Rattle.std.proofs.Common.{rules}
use Rattle.std.proofs.lemmas.Fn.{filter_same}
use Rattle.part_core.specs.Rows.{is_live}
use Rattle.part_plain.proofs.exchanging.keep_live.Goals as goal

pub returns : goal.returns
returns g c = filter_same _ is_live _ (λ x b f' k. search rules) _ _ c.retain.ensures.filtered
