use Rattle.std.proofs.Common.{sym, ap, ◌∙◌, ◌+◌}
use Rattle.part_core.specs.Replies.{first_live}
use Rattle.part_core.specs.Visits.{in_class}
use Rattle.part_core.proofs.LiveLemmas.{live_first, live_later}
use Rattle.part_engine.specs.Sets.{rows_from}
use Rattle.part_engine.proofs.WalkLemmas.{rows_step, rows_none}
use Rattle.part_plain.proofs.walking.live_from.Goals as goal

pub returns-in-Some : goal.returns-in-Some
returns-in-Some g c =
    sym (ap first_live (rows_step c.args.settings c.args.base c.loop-class.class c.args.rows.now c.loop-class-test.true) ∙ live_first (in_class c.args.settings c.args.base c.loop-class.class c.args.rows.now) (rows_from c.args.settings c.args.base (c.loop-class.class + 1) c.args.rows.now) c.in-Some.key.now (sym c.in-Some.ensures)) ∙ c.loop-class.invariant

pub loop-class-preserved : goal.loop-class-preserved
loop-class-preserved g c =
    sym (ap first_live (rows_step c.args.settings c.args.base c.loop-class.class c.args.rows.now c.loop-class-test.true) ∙ live_later (in_class c.args.settings c.args.base c.loop-class.class c.args.rows.now) (rows_from c.args.settings c.args.base (c.loop-class.class + 1) c.args.rows.now) (sym c.in_default.ensures)) ∙ c.loop-class.invariant

pub returns : goal.returns
returns g c =
    sym (ap first_live (rows_none c.args.settings c.args.base c.loop-class.class c.args.rows.now c.loop-class-test.false)) ∙ c.loop-class.invariant
