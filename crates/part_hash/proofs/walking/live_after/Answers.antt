use Rattle.std.proofs.Common.{sym, ◌∙◌, ◌+◌}
use Rattle.part_core.specs.Visits.{in_class}
use Rattle.part_core.proofs.LiveLemmas.{live_first, live_later}
use Rattle.part_hash.specs.Classes.{made_from}
use Rattle.part_engine.specs.Sets.{rows_from}
use Rattle.part_hash.proofs.walking.live_after.Goals as goal

pub returns-in-Some : goal.returns-in-Some
returns-in-Some g c = λ rows s.
    sym (live_first (in_class c.args.settings c.args.base c.args.class (made_from c.args.from s.list)) (rows_from c.args.settings c.args.base (c.args.class + 1) rows) c.in-Some.key.now (sym (c.in-Some.ensures rows s)))

pub returns-in-None : goal.returns-in-None
returns-in-None g c = λ rows s.
    c.live_from.ensures rows s ∙ sym (live_later (in_class c.args.settings c.args.base c.args.class (made_from c.args.from s.list)) (rows_from c.args.settings c.args.base (c.args.class + 1) rows) (sym (c.in-None.ensures rows s)))
