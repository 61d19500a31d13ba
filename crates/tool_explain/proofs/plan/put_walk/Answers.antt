use Rattle.std.proofs.Common.{◌≡◌, ◌∙◌, ◌++◌, ap, rules, codes}
use Rattle.std.specs.Prelude.{decimal}
use Rattle.tool_explain.proofs.ListingLemmas.{put_last}
use Rattle.tool_explain.proofs.plan.put_walk.Goals as goal

pub returns : goal.returns
returns g c =
    let old = c.args.lines.now.items in
    let same : c.from.result ≡ c.args.keypos = search rules in
    let number = c.in_ok-put_number.ensures ∙ ap (λ n. c.extend_from_slice.new.self.items ++ decimal n) same in
    let named = put_last old (codes "walk at keypos ") (decimal c.args.keypos) c.extend_from_slice.new.self.items c.put_number.new.line.items c.in_ok-extend_from_slice.ensures.items number in
    put_last old (codes "walk at keypos " ++ decimal c.args.keypos) (codes ": ") c.put_number.new.line.items c.extend_from_slice-2.new.self.items named c.in_ok-extend_from_slice-2.ensures.items
