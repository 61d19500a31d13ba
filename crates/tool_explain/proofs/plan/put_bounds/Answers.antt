use Rattle.std.proofs.Common.{◌≡◌, ◌∙◌, ◌++◌, ap, rules, codes}
use Rattle.std.specs.Prelude.{decimal}
use Rattle.tool_explain.proofs.ListingLemmas.{put_last}
use Rattle.tool_explain.proofs.plan.put_bounds.Goals as goal

pub returns : goal.returns
returns g c =
    let old = c.args.lines.now.items in
    let first = codes "instructions of a run at most " in
    let middle = codes ", stack at most " in
    let budget : c.from.result ≡ c.args.budget = search rules in
    let depth : c.from-2.result ≡ c.args.depth = search rules in
    let one = c.in_ok-put_number.ensures ∙ ap (λ n. c.extend_from_slice.new.self.items ++ decimal n) budget in
    let two = c.in_ok-put_number-2.ensures ∙ ap (λ n. c.extend_from_slice-2.new.self.items ++ decimal n) depth in
    let till_one = put_last old first (decimal c.args.budget) c.extend_from_slice.new.self.items c.put_number.new.line.items c.in_ok-extend_from_slice.ensures.items one in
    let till_middle = put_last old (first ++ decimal c.args.budget) middle c.put_number.new.line.items c.extend_from_slice-2.new.self.items till_one c.in_ok-extend_from_slice-2.ensures.items in
    let till_two = put_last old (first ++ decimal c.args.budget ++ middle) (decimal c.args.depth) c.extend_from_slice-2.new.self.items c.put_number-2.new.line.items till_middle two in
    put_last old (first ++ decimal c.args.budget ++ middle ++ decimal c.args.depth) (codes "\n") c.put_number-2.new.line.items c.extend_from_slice-3.new.self.items till_two c.in_ok-extend_from_slice-3.ensures.items
