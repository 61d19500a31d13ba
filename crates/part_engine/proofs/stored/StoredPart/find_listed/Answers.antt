use Rattle.std.proofs.Common.{[]}
use Rattle.std.specs.Option.{option_map}
use Rattle.std.specs.Prelude.{filter_map}
use Rattle.part_core.specs.Acts.Purpose.{Answers}
use Rattle.part_core.specs.Ops.{cursor_of, scope_of}
use Rattle.part_core.specs.Visits.{answers_of}
use Rattle.part_engine.proofs.VisitLemmas.{found_listed}
use Rattle.part_engine.proofs.stored.StoredPart.find_listed.Goals as goal

pub returns : goal.returns
returns g c = λ w listed.
    let found = c.in_ok-answers_listed.ensures in
    let found_is = rw c.new-found.ensures.items at found in
    let next = c.next_class-next.ensures (answers_of Answers c.args.look.now.code.now) c.args.look.now.wanted [] in
    found_listed Answers c.args.self.now.settings c.args.self.now.base c.args.look.now.code.now (scope_of c.args.look.now.scope) c.args.look.now.wanted w.rows (filter_map (g.R.Rows.row_of c.args.self.now.rows) c.args.places.now) [] c.answers_listed.new.found.items (option_map cursor_of c.next_class-next.result) c.requires.whole listed found_is next
