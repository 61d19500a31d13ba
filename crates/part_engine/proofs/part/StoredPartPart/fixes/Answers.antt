use Rattle.std.proofs.Common.{ap, ◌∙◌, get_or}
use Rattle.part_engine.proofs.LeadLemmas.{counts_are}
use Rattle.part_engine.proofs.part.StoredPartPart.fixes.Goals as goal

pub returns : goal.returns
returns g c = λ log now.
    c.fixes_at.ensures
    ∙ ap (λ fixes. get_or fixes c.args.session 0) c.as_slice.ensures.value
    ∙ counts_are g.R.Rows.shows c.args.self.now c.args.session log c.fixes_are_counted.ensures c.requires now
