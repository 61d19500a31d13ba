use Rattle.std.proofs.Common.{◌<◌, subst, sym}
use Rattle.std.proofs.lemmas.Bool.{lt-ltb}
use Rattle.part_rows.proofs.ListedLemmas.{deep}
use Rattle.part_rows.proofs.listed.is_deep.Goals as goal

pub returns-in-Some-element_at : goal.returns-in-Some-element_at
returns-in-Some-element_at g c =
    lt-ltb 0 c.depth.result (subst (λ n. 0 < n) (sym c.depth.ensures.value) (deep c.in-Some-element_at.element.now))
