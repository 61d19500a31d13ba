use Rattle.std.proofs.Common.{sym, ap, ◌∙◌, ◌+◌, drop}
use Rattle.std.proofs.lemmas.List.{take_rest}
use Rattle.part_core.specs.Replies.{first_live}
use Rattle.part_core.specs.Visits.{in_class}
use Rattle.part_core.proofs.LiveLemmas.{live_first, live_later}
use Rattle.part_engine.specs.Sets.{rows_from}
use Rattle.part_plain.proofs.walking.live_after.Goals as goal

pub returns-in-Some : goal.returns-in-Some
returns-in-Some g c =
    let found = ap (λ rs. first_live (in_class c.args.settings c.args.base c.args.class rs)) (sym (take_rest c.args.rows.now (c.args.place + 1))) ∙ sym c.in-Some.ensures in
    sym (live_first (in_class c.args.settings c.args.base c.args.class (drop (c.args.place + 1) c.args.rows.now)) (rows_from c.args.settings c.args.base (c.args.class + 1) c.args.rows.now) c.in-Some.key.now found)

pub returns-in-None : goal.returns-in-None
returns-in-None g c =
    let none = ap (λ rs. first_live (in_class c.args.settings c.args.base c.args.class rs)) (sym (take_rest c.args.rows.now (c.args.place + 1))) ∙ sym c.in-None.ensures in
    c.live_from.ensures ∙ sym (live_later (in_class c.args.settings c.args.base c.args.class (drop (c.args.place + 1) c.args.rows.now)) (rows_from c.args.settings c.args.base (c.args.class + 1) c.args.rows.now) none)
