use Rattle.std.proofs.Common.{sym, ◌∙◌}
use Rattle.std.specs.Option.{option_map}
use Rattle.part_core.specs.Acts.Purpose.{Counts}
use Rattle.part_core.specs.Ops.{cursor_of, scope_of}
use Rattle.part_core.specs.Visits.{answers_of}
use Rattle.part_engine.proofs.VisitLemmas.{counted_looking}
use Rattle.part_engine.proofs.stored.StoredPart.count_looking.Goals as goal

pub returns : goal.returns
returns g c = λ w there sound.
    let slice = c.as_slice.ensures.value in
    let again = c.as_slice-2.ensures.value in
    let seen = c.in_ok-total.ensures.rows in
    let seen_is = rw (slice, c.stops-stops.ensures) at seen in
    let total = c.in_ok-total.ensures.total in
    let total_is = rw slice at total in
    let left = c.in_ok-total.ensures.left in
    let left_is = rw (slice ∙ sym again) at left in
    let next = c.in_ok-next.ensures (answers_of Counts c.args.look.now.code.now) c.args.look.now.wanted left_is in
    let next_is = rw again at next in
    counted_looking Counts c.args.self.now.settings c.args.self.now.base c.args.look.now.code.now (scope_of c.args.look.now.scope) c.args.look.now.wanted w.rows c.in_ok-rows.rows.items c.in_ok-total.reach.rows c.in_ok-total.total (option_map cursor_of c.in_ok-next.next) (c.in_ok-rows.ensures w there sound) seen_is total_is next_is
