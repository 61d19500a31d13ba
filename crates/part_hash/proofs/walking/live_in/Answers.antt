use Rattle.std.proofs.Common.{rules, ◌≡◌, sym, subst, ◌∙◌, length}
use Rattle.std.specs.Prelude.{Option, None, MatchOption, option_map}
use Rattle.part_core.specs.Replies.{first_live}
use Rattle.part_core.specs.Visits.{in_class}
use Rattle.part_rows.specs.declared.place.Place.{Place}
use Rattle.part_hash.specs.Classes.{made_from}
use Rattle.part_hash.specs.Places.{row_of}
use Rattle.part_hash.proofs.NextLemmas.{next_found, next_key}
use Rattle.part_hash.proofs.AddLemmas.{base_some}
use Rattle.part_hash.proofs.walking.live_in.Goals as goal

pub returns-in-Some : goal.returns-in-Some
returns-in-Some g c = λ rows s.
    let is = c.in-Some.ensures rows s ∙ next_found c.args.base c.args.class c.args.from s c.requires.parts c.requires.base (base_some (length c.args.store.now.slots.items) (search rules)) in
    c.key_at.ensures ∙ subst (λ (p : Option Place). MatchOption p (None ≡ first_live (in_class c.args.settings c.args.base c.args.class (made_from c.args.from s.list))) (λ q. option_map (λ r. r.0) (row_of c.args.store.now.rows q) ≡ first_live (in_class c.args.settings c.args.base c.args.class (made_from c.args.from s.list)))) (sym is) (next_key c.args.settings c.args.base c.args.class c.args.from c.args.store.now.rows s.list s.placed.stands)

pub returns-in-None : goal.returns-in-None
returns-in-None g c = λ rows s.
    let is = c.in-None.ensures rows s ∙ next_found c.args.base c.args.class c.args.from s c.requires.parts c.requires.base (base_some (length c.args.store.now.slots.items) (search rules)) in
    subst (λ (p : Option Place). MatchOption p (None ≡ first_live (in_class c.args.settings c.args.base c.args.class (made_from c.args.from s.list))) (λ q. option_map (λ r. r.0) (row_of c.args.store.now.rows q) ≡ first_live (in_class c.args.settings c.args.base c.args.class (made_from c.args.from s.list)))) (sym is) (next_key c.args.settings c.args.base c.args.class c.args.from c.args.store.now.rows s.list s.placed.stands)
