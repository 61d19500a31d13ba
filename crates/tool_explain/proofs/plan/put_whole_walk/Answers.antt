use Rattle.std.proofs.Common.{codes}
use Rattle.tool_explain.specs.Plan.{walk_text}
use Rattle.tool_explain.proofs.ListingLemmas.{put_last}
use Rattle.tool_explain.proofs.plan.put_whole_walk.Goals as goal

pub returns : goal.returns
returns g c =
    put_last c.args.lines.now.items (walk_text c.args.keypos) (codes "all objects\n") c.put_walk.new.lines.items c.extend_from_slice.new.self.items c.in_ok-put_walk.ensures c.in_ok-extend_from_slice.ensures.items
