use Rattle.std.proofs.Common.{ap, ◌∙◌}
use Rattle.part_core.specs.Replies.{first_live}
use Rattle.part_engine.proofs.WalkLemmas.{walk_unordered}
use Rattle.part_hash.proofs.walking.first_live.Goals as goal

pub returns : goal.returns
returns g c = λ rows kind s.
    c.live_from.ensures rows s ∙ ap first_live (walk_unordered c.args.settings c.args.base rows kind)
