use Rattle.std.proofs.Common.{[], ap, ◌∙◌}
use Rattle.part_core.specs.Rows.{is_fixed}
use Rattle.part_rows.specs.Shown.{shown_exchanged}
use Rattle.part_engine.proofs.LeadLemmas.{take_says, sound}
use Rattle.part_engine.proofs.stored.StoredPart.take.Goals as goal

pub returns-clause-leads : goal.returns-clause-leads
returns-clause-leads g c = λ n w keeps state.
    let s = take_says c.args.self.now.settings w c.args.self.now.fixes.items c.args.self.now.base n c.args.key.now c.in_ok-objects.objects.items state (c.in_ok-objects.ensures w keeps.there (sound c.args.self.now.settings w c.args.self.now.fixes.items c.args.self.now.base state)) in
    let written = (c.exchange_counted.ensures w keeps (sound c.args.self.now.settings w c.args.self.now.fixes.items c.args.self.now.base state)).2 in
    let now = rw (c.none-held.ensures, c.is_fixed-keeps.ensures ∙ ap is_fixed c.as_slice.ensures.value) at written in
    (s.0, (shown_exchanged c.args.key.now [] (is_fixed c.args.self.now.fixes.items) w, now, s.1))
