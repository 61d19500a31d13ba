use Rattle.std.proofs.Common.{◌++◌, ◌∙◌, ap}
use Rattle.std.specs.Prelude.{flat_map, List}
use Rattle.part_core.specs.Rows.{Row}
use Rattle.part_engine.specs.Sets.{rows_from}
use Rattle.part_engine.proofs.WalkLemmas.{class_next, classes_all, walk_unordered}
use Rattle.part_plain.proofs.gathering.gather.Goals as goal

pub loop-class-preserved : goal.loop-class-preserved
loop-class-preserved g c =
    class_next c.args.settings c.args.base c.loop-class.class c.args.rows.now c.loop-class.into.items c.gather_class.new.into.items (c.args.into.now.items ++ flat_map (λ r. r.1) (rows_from c.args.settings c.args.base 0 c.args.rows.now)) c.loop-class-test.true c.loop-class.invariant c.in_ok-gather_class.ensures

pub returns : goal.returns
returns g c = λ kind.
    classes_all c.args.settings c.args.base c.loop-class.class c.args.rows.now c.loop-class.into.items (c.args.into.now.items ++ flat_map (λ r. r.1) (rows_from c.args.settings c.args.base 0 c.args.rows.now)) c.loop-class-test.false c.loop-class.invariant
    ∙ ap (λ (rs : List Row). c.args.into.now.items ++ flat_map (λ r. r.1) rs) (walk_unordered c.args.settings c.args.base c.args.rows.now kind)
