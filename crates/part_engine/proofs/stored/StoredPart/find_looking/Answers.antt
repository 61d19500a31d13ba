use Rattle.std.proofs.Common.{sym, ◌∙◌}
use Rattle.std.specs.Option.{option_map}
use Rattle.part_core.specs.Acts.Purpose.{Answers}
use Rattle.part_core.specs.Ops.{cursor_of, scope_of}
use Rattle.part_core.specs.Visits.{answers_of}
use Rattle.part_engine.proofs.VisitLemmas.{found_looking}
use Rattle.part_engine.proofs.stored.StoredPart.find_looking.Goals as goal

pub returns : goal.returns
returns g c = λ w there sound.
    let slice = c.as_slice.ensures.value in
    let again = c.as_slice-2.ensures.value in
    let seen = c.in_ok-reach.ensures.rows in
    let seen_is = rw (slice, c.stops-stops.ensures) at seen in
    let found = c.in_ok-reach.ensures.found in
    let found_is = rw (c.new-found.ensures.items, slice) at found in
    let left = c.in_ok-reach.ensures.left in
    let left_is = rw (slice ∙ sym again) at left in
    let next = c.in_ok-next.ensures (answers_of Answers c.args.look.now.code.now) c.args.look.now.wanted left_is in
    let next_is = rw again at next in
    found_looking Answers c.args.self.now.settings c.args.self.now.base c.args.look.now.code.now (scope_of c.args.look.now.scope) c.args.look.now.wanted w.rows c.in_ok-rows.rows.items c.in_ok-reach.reach.rows c.answers.new.found.items (option_map cursor_of c.in_ok-next.next) (c.in_ok-rows.ensures w there sound) seen_is found_is next_is
