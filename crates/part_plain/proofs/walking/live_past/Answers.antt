use Rattle.std.proofs.Common.{◌≡◌, ◌<◌, ◌++◌, ◌+◌, ◌/◌, ◌%◌, drop, ap, sym, ◌∙◌, arith}
use Rattle.part_core.specs.Replies.{first_live}
use Rattle.part_core.specs.Settings.{class_at}
use Rattle.part_core.specs.Visits.{in_class}
use Rattle.part_engine.specs.Sets.{rows_from}
use Rattle.part_plain.proofs.PlaceLemmas.{walk_after}
use Rattle.part_plain.proofs.walking.live_past.Goals as goal

pub returns-in-Some : goal.returns-in-Some
returns-in-Some g c = λ kind there.
    let same : c.class_of.result ≡ class_at c.args.settings c.args.base c.args.key.now = c.class_of.ensures.value ∙ ap (λ hash. (hash / c.args.settings.parts) % c.args.base) c.key_hash-hash.ensures in
    let below : class_at c.args.settings c.args.base c.args.key.now < c.args.base = omega (arith, same, c.class_of.ensures.within) in
    c.live_after.ensures
    ∙ ap (λ class. first_live (in_class c.args.settings c.args.base class (drop (c.in-Some.place + 1) c.args.rows.now) ++ rows_from c.args.settings c.args.base (class + 1) c.args.rows.now)) same
    ∙ ap first_live (sym (walk_after c.args.settings c.args.base kind below c.in-Some.ensures))
