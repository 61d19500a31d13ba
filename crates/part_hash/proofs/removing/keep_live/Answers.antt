use Rattle.std.proofs.Common.{List, sym, subst, ◌∙◌}
use Rattle.part_core.specs.Rows.{Row}
use Rattle.part_hash.specs.Standing.{Stands}
use Rattle.part_hash.proofs.SweepLemmas.{all_stay}
use Rattle.part_hash.proofs.removing.keep_live.Goals as goal

pub returns-clause-done : goal.returns-clause-done
returns-clause-done g c = λ o rows spread s.
    let left = c.sweep_dead.ensures.done o rows spread s in
    subst (λ (rs : List Row). Stands o c.forget.new.store rs) (sym (all_stay o c.sweep_dead.new.store left.0 left.3 left.1) ∙ left.2) (c.forget.ensures.kept o left.0 left.3 left.1)
