use Rattle.std.proofs.Common.{◌++◌, ap, ◌∙◌, List}
use Rattle.std.specs.Prelude.{flat_map}
use Rattle.part_core.specs.Rows.{Row}
use Rattle.part_engine.specs.Sets.{rows_from}
use Rattle.part_engine.proofs.WalkLemmas.{walk_unordered, class_next, classes_all}
use Rattle.part_hash.proofs.gathering.gather.Goals as goal

pub loop-class-preserved : goal.loop-class-preserved
loop-class-preserved g c = λ rows s.
    class_next c.args.settings c.args.base c.loop-class.class rows c.loop-class.into.items c.gather_class.new.into.items (c.args.into.now.items ++ flat_map (λ (r : Row). r.1) (rows_from c.args.settings c.args.base 0 rows)) c.loop-class-test.true (c.loop-class.invariant rows s) (c.in_ok-gather_class.ensures rows s)

pub returns : goal.returns
returns g c = λ rows kind s.
    classes_all c.args.settings c.args.base c.loop-class.class rows c.loop-class.into.items (c.args.into.now.items ++ flat_map (λ (r : Row). r.1) (rows_from c.args.settings c.args.base 0 rows)) c.loop-class-test.false (c.loop-class.invariant rows s)
    ∙ ap (λ (rs : List Row). c.args.into.now.items ++ flat_map (λ (r : Row). r.1) rs) (walk_unordered c.args.settings c.args.base rows kind)
