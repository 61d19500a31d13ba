use Rattle.std.proofs.Common.{◌++◌, codes, length}
use Rattle.std.specs.Prelude.{decimal}
use Rattle.tool_explain.proofs.ListingLemmas.{put_last}
use Rattle.tool_explain.proofs.listing.put_heading.Goals as goal

pub returns : goal.returns
returns g c =
    let old = c.args.lines.now.items in
    let first = codes "routine " in
    let middle = codes ", arguments " in
    let count = length c.args.routine.now.arguments in
    let number = rw c.arguments.ensures.value at c.in_ok-put_number-2.ensures in
    let till_number = put_last old first (decimal c.args.number) c.extend_from_slice.new.self.items c.put_number.new.line.items c.in_ok-extend_from_slice.ensures.items c.in_ok-put_number.ensures in
    let till_middle = put_last old (first ++ decimal c.args.number) middle c.put_number.new.line.items c.extend_from_slice-2.new.self.items till_number c.in_ok-extend_from_slice-2.ensures.items in
    let till_count = put_last old (first ++ decimal c.args.number ++ middle) (decimal count) c.extend_from_slice-2.new.self.items c.put_number-2.new.line.items till_middle number in
    put_last old (first ++ decimal c.args.number ++ middle ++ decimal count) (codes "\n") c.put_number-2.new.line.items c.extend_from_slice-3.new.self.items till_count c.in_ok-extend_from_slice-3.ensures.items
