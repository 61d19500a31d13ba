use Rattle.std.proofs.Common.{◌++◌, codes, length}
use Rattle.std.specs.List.{flat_map}
use Rattle.std.specs.Prelude.{decimal}
use Rattle.tool_explain.specs.Plan.{walk_text, key_text}
use Rattle.tool_explain.proofs.ListingLemmas.{put_last}
use Rattle.tool_explain.proofs.plan.put_look_ups.Goals as goal

pub returns : goal.returns
returns g c =
    let old = c.args.lines.now.items in
    let keys = c.args.keys.now in
    let walk = walk_text c.args.keypos in
    let middle = codes " looked up:" in
    let till_count = put_last old walk (decimal (length keys)) c.put_walk.new.lines.items c.put_number.new.line.items c.in_ok-put_walk.ensures c.in_ok-put_number.ensures in
    let till_middle = put_last old (walk ++ decimal (length keys)) middle c.put_number.new.line.items c.extend_from_slice.new.self.items till_count c.in_ok-extend_from_slice.ensures.items in
    let till_keys = put_last old (walk ++ decimal (length keys) ++ middle) (flat_map key_text keys) c.extend_from_slice.new.self.items c.put_keys.new.lines.items till_middle c.in_ok-put_keys.ensures in
    put_last old (walk ++ decimal (length keys) ++ middle ++ flat_map key_text keys) (codes "\n") c.put_keys.new.lines.items c.extend_from_slice-2.new.self.items till_keys c.in_ok-extend_from_slice-2.ensures.items
