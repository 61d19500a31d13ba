use Rattle.std.proofs.Common.{◌++◌, ◌∷◌, [], List, ap, sym, ◌∙◌}
use Rattle.std.proofs.lemmas.List.{append-nil}
use Rattle.part_core.specs.Rows.{Row}
use Rattle.part_core.proofs.KeyedLemmas.{none_there}
use Rattle.part_plain.proofs.PlaceLemmas.{alone}
use Rattle.part_plain.proofs.looking.look_at.Goals as goal

pub returns-in_ok-push : goal.returns-in_ok-push
returns-in_ok-push g c = λ apart.
    c.in_ok-push.ensures.items
    ∙ ap (λ (rs : List Row). c.args.into.now.items ++ rs) (ap (λ (r : Row). r ∷ []) c.seen.ensures ∙ alone c.index-rows-place.result c.in-Some.ensures c.index-rows-place.is apart)

pub returns-in_default : goal.returns-in_default
returns-in_default g c = λ apart.
    sym (append-nil c.args.into.now.items)
    ∙ ap (λ (rs : List Row). c.args.into.now.items ++ rs) (sym (none_there c.args.key.now c.args.rows.now c.in_default.ensures))
