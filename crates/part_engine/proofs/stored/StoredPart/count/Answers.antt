use Rattle.std.specs.Option.{option_map}
use Rattle.std.specs.Prelude.{filter_map}
use Rattle.std.proofs.Common.{◌≡◌}
use Rattle.std.proofs.lemmas.Result.{IfOk-weaker}
use Rattle.part_core.specs.Acts.Purpose.{Counts}
use Rattle.part_core.specs.Ops.{cursor_of, scope_of}
use Rattle.part_rows.specs.Looks.{looked_at}
use Rattle.part_rows.specs.Shown.{Shown}
use Rattle.part_engine.specs.Looks.{IsCounted}
use Rattle.part_engine.proofs.stored.StoredPart.count.Goals as goal

pub returns-in-Some : goal.returns-in-Some
returns-in-Some g c =
    IfOk-weaker c.count_places.result (λ found. (w : Shown) → filter_map (g.R.Rows.row_of c.args.self.now.rows) c.in-Some.places.now ≡ looked_at c.args.self.now.settings c.args.self.now.base (scope_of c.args.look.now.scope) w.rows → IsCounted Counts c.args.self.now.settings c.args.self.now.base c.args.look.now.code.now (scope_of c.args.look.now.scope) c.args.look.now.wanted w.rows found.total (option_map cursor_of found.next)) _
    (λ found is w there sound. is w (c.in-Some.ensures w there sound)) c.count_places.ensures
