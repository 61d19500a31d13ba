use Rattle.std.proofs.Common.{◌≡◌, List, [], refl, ap, sym, subst, ◌∙◌}
use Rattle.std.specs.Prelude.{All}
use Rattle.std.proofs.lemmas.List.{nil_from_length}
use Rattle.std.proofs.lemmas.List.Elements.{All-head, All-tail}
use Rattle.part_core.specs.declared.settings.Settings.{Settings}
use Rattle.part_core.specs.Rows.{Row, is_fixed}
use Rattle.part_core.specs.States.{IsRow}
use Rattle.part_engine.specs.Deletions.{shown_swept}
use Rattle.part_rows.specs.Dead.{Keeps}
use Rattle.part_rows.specs.Shown.{shown_exchanged}
use Rattle.part_engine.proofs.SweepLemmas.{exchanged_sound}
use Rattle.part_engine.proofs.stored.StoredPart.sweep.Goals as goal

pub loop-row-init : goal.loop-row-init
loop-row-init g c = (refl, refl, refl, λ w keeps sound each. (w, keeps, sound, each, refl))

pub loop-row-preserved : goal.loop-row-preserved
loop-row-preserved g c =
    let o : Settings = c.args.self.now.settings in
    let rest : List Row = c.next.new.self.rest.items in
    let split = c.in-Some.ensures.steps.0 in
    let written = rw c.loop-row.invariant.0 at c.write.ensures in (
      c.loop-row.invariant.0,
      c.loop-row.invariant.1,
      c.loop-row.invariant.2,
      λ w keeps sound each.
          let so_far = c.loop-row.invariant.3 w keeps sound each in
          let whole = subst (λ (rs : List Row). All (IsRow o) rs) split so_far.3 in
          let head = All-head (IsRow o) c.in-Some.row rest whole in (
            shown_exchanged c.in-Some.row.0 c.in-Some.row.1 c.is_fixed-keeps.result so_far.0,
            written so_far.0 so_far.1 so_far.2,
            exchanged_sound o so_far.0 c.in-Some.row.0 c.in-Some.row.1 c.is_fixed-keeps.result so_far.2 head,
            All-tail (IsRow o) c.in-Some.row rest whole,
            ap (λ (rs : List Row). shown_swept c.is_fixed-keeps.result rs so_far.0) (sym split) ∙ so_far.4,
          ),
    )

pub returns-clause-rows : goal.returns-clause-rows
returns-clause-rows g c = λ w keeps sound each.
    let o : Settings = c.args.self.now.settings in
    let given : c.into_iter-row-iterator.result.rest.items ≡ c.args.left.items = c.into_iter-row-iterator.ensures.into_iter_gives.0 in
    let over : c.loop-row.row-iterator.rest.items ≡ [] = nil_from_length c.loop-row.row-iterator.rest.items (sym c.loop-row.row-iterator.rest.ok.0 ∙ c.in-None.ensures.steps.0) in
    let is_kept = c.is_fixed-keeps.ensures ∙ ap is_fixed c.as_slice.ensures.value in
    let last = c.loop-row.invariant.3 w keeps sound (subst (λ (rs : List Row). All (IsRow o) rs) (sym given) each) in
    let swept = sym (ap (λ (rs : List Row). shown_swept c.is_fixed-keeps.result rs last.0) over) ∙ last.4 ∙ ap (λ (rs : List Row). shown_swept c.is_fixed-keeps.result rs w) given ∙ ap (λ b. shown_swept b c.args.left.items w) is_kept in
    subst (Keeps g.R.Rows.shows o c.loop-row.self.rows c.loop-row.self.dead) swept last.1
