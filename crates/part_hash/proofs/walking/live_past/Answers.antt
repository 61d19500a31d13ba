use Rattle.std.proofs.Common.{◌≡◌, ◌+◌, ◌++◌, ◌/◌, ◌%◌, refl, ap, sym, ◌∙◌}
use Rattle.std.proofs.lemmas.Bool.{true≢false}
use Rattle.std.proofs.Math.Nat.{mod-lt}
use Rattle.slab.specs.Slab.{get}
use Rattle.term_core.specs.KeyHash.{key_hash}
use Rattle.part_core.specs.Replies.{first_live}
use Rattle.part_core.specs.Settings.{class_at}
use Rattle.part_core.specs.Rows.{objects_at}
use Rattle.part_core.specs.Visits.{in_class}
use Rattle.part_hash.specs.Classes.{made_from}
use Rattle.part_engine.specs.Sets.{rows_from}
use Rattle.part_hash.proofs.StandLemmas.{made_there}
use Rattle.part_hash.proofs.BehindLemmas.{behind}
use Rattle.part_hash.proofs.walking.live_past.Goals as goal

pub returns-in_default : goal.returns-in_default
returns-in_default g c = λ rows kind there s.
    absurd (true≢false (sym there ∙ c.in_default.ensures.found c.args.settings rows s))

pub returns : goal.returns
returns g c = λ rows kind there s.
    let found = c.in-Some.ensures.found c.args.settings rows s in
    let made = made_there (get c.args.store.now.rows c.in-Some.at) (c.args.key.now, objects_at rows c.args.key.now) found.1 in
    let next = behind c.args.base c.args.key.now c.in-Some.at made.0 (c.args.key.now, objects_at rows c.args.key.now) s kind (mod-lt (key_hash c.args.key.now / c.args.settings.parts) c.requires.base) made.1 refl in
    let from : c.made_to-from.result ≡ made.0 + 1 = c.made_to-from.ensures ((c.args.key.now, objects_at rows c.args.key.now), made.0) made.1 next.0 in
    let same : c.class_of-class.result ≡ class_at c.args.settings c.args.base c.args.key.now = c.class_of-class.ensures.value ∙ ap (λ hash. (hash / c.args.settings.parts) % c.args.base) c.key_hash.ensures in
    c.live_after.ensures rows s
    ∙ ap (λ n. first_live (in_class c.args.settings c.args.base c.class_of-class.result (made_from n s.list) ++ rows_from c.args.settings c.args.base (c.class_of-class.result + 1) rows)) from
    ∙ ap (λ class. first_live (in_class c.args.settings c.args.base class (made_from (made.0 + 1) s.list) ++ rows_from c.args.settings c.args.base (class + 1) rows)) same
    ∙ ap first_live (sym next.1)
