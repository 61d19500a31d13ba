use Rattle.std.proofs.Common.{ap, ◌∙◌}
use Rattle.part_core.specs.Replies.{first_live}
use Rattle.part_engine.proofs.WalkLemmas.{walk_unordered}
use Rattle.part_plain.proofs.walking.first_live.Goals as goal

pub returns : goal.returns
returns g c = λ kind.
    c.live_from.ensures ∙ ap first_live (walk_unordered c.args.settings c.args.base c.args.rows.now kind)
