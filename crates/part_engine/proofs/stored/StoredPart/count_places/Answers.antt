use Rattle.std.proofs.Common.{[]}
use Rattle.std.specs.Option.{option_map}
use Rattle.std.specs.Prelude.{filter_map}
use Rattle.part_core.specs.Acts.Purpose.{Counts}
use Rattle.part_core.specs.Ops.{cursor_of, scope_of}
use Rattle.part_core.specs.Visits.{answers_of}
use Rattle.part_engine.proofs.VisitLemmas.{counted_listed}
use Rattle.part_engine.proofs.stored.StoredPart.count_places.Goals as goal

pub returns : goal.returns
returns g c = λ w listed.
    let next = c.next_class-next.ensures (answers_of Counts c.args.look.now.code.now) c.args.look.now.wanted [] in
    counted_listed Counts c.args.self.now.settings c.args.self.now.base c.args.look.now.code.now (scope_of c.args.look.now.scope) c.args.look.now.wanted w.rows (filter_map (g.R.Rows.row_of c.args.self.now.rows) c.args.places.now) [] c.in_ok-total.total (option_map cursor_of c.next_class-next.result) c.requires.whole listed c.in_ok-total.ensures next
