use Rattle.std.proofs.Common.{◌≡◌, List, sym, ap, ◌∙◌, ◌+◌}
use Rattle.part_core.specs.Replies.{first_live}
use Rattle.part_core.specs.Rows.{Row}
use Rattle.part_core.specs.Visits.{in_class}
use Rattle.part_core.proofs.LiveLemmas.{live_first, live_later}
use Rattle.part_hash.specs.Classes.{made_from}
use Rattle.part_engine.specs.Sets.{rows_from}
use Rattle.part_engine.proofs.WalkLemmas.{rows_step, rows_none}
use Rattle.part_hash.proofs.BehindLemmas.{all_from}
use Rattle.part_hash.proofs.walking.live_from.Goals as goal

pub returns-in-Some : goal.returns-in-Some
returns-in-Some g c = λ rows s.
    let all : made_from 0 s.list ≡ rows = all_from s.list ∙ sym s.are in
    sym (ap first_live (rows_step c.args.settings c.args.base c.loop-class.class rows c.loop-class-test.true) ∙ live_first (in_class c.args.settings c.args.base c.loop-class.class rows) (rows_from c.args.settings c.args.base (c.loop-class.class + 1) rows) c.in-Some.key.now (sym (c.in-Some.ensures rows s ∙ ap (λ (rs : List Row). first_live (in_class c.args.settings c.args.base c.loop-class.class rs)) all))) ∙ c.loop-class.invariant rows s

pub loop-class-preserved : goal.loop-class-preserved
loop-class-preserved g c = λ rows s.
    let all : made_from 0 s.list ≡ rows = all_from s.list ∙ sym s.are in
    sym (ap first_live (rows_step c.args.settings c.args.base c.loop-class.class rows c.loop-class-test.true) ∙ live_later (in_class c.args.settings c.args.base c.loop-class.class rows) (rows_from c.args.settings c.args.base (c.loop-class.class + 1) rows) (sym (c.in_default.ensures rows s ∙ ap (λ (rs : List Row). first_live (in_class c.args.settings c.args.base c.loop-class.class rs)) all))) ∙ c.loop-class.invariant rows s

pub returns : goal.returns
returns g c = λ rows s.
    sym (ap first_live (rows_none c.args.settings c.args.base c.loop-class.class rows c.loop-class-test.false)) ∙ c.loop-class.invariant rows s
