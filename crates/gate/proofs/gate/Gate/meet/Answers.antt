use Rattle.std.proofs.Common.{rules, ap, ◌∙◌}
use mathlib.Core.Option.{none}
use Rattle.atomic_table.specs.Table.{Me, step}
use Rattle.gate.specs.declared.view.View.{View}
use Rattle.gate.proofs.StepLemmas.{note_splits, note_joins, look_as}
use Rattle.gate.proofs.gate.Gate.meet.Goals as goal

pub split_seat-note-requires : goal.split_seat-note-requires
split_seat-note-requires g c = (search rules, search rules, note_splits g.P.Part.settings g.P.Part.is_after _ _ _)

pub join_seat-requires : goal.join_seat-requires
join_seat-requires g c =
    let note = c.split_seat-note.ensures.4 in (
      search rules,
      search rules,
      ap (λ (m : Me g.row.P.Denot View). m.1) note,
      search rules,
      note_joins g.P.Part.settings g.P.Part.is_after _ _ c.other.inside.seat.me.0 c.other.inside.number _ c.split_seat-note.result.me.0
          c.other.invariant.1 (ap (λ (m : Me g.row.P.Denot View). m.0.role) note),
    )

pub load-requires : goal.load-requires
load-requires g c = (
  search rules,
  search rules,
  look_as g.P.Part.settings g.P.Part.is_after _ _ _ c.join_seat.new.seat.me (step 0 0 0 0 none)
      (ap (λ (m : Me g.row.P.Denot View). m.1) c.join_seat.ensures.2 ∙ c.other.invariant.0),
)
