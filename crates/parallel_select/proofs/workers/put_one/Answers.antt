use Rattle.std.proofs.Common.{◌∙◌, ap, sym, refl, vec_items}
use Rattle.std.specs.Prelude.{Bool, if◌then◌else◌, map}
use Rattle.parallel_select.specs.Parts.{answers_of}
use Rattle.parallel_select.proofs.ListLemmas.{set_there, set_elsewhere, given_there}
use Rattle.parallel_select.proofs.workers.put_one.Goals as goal

pub returns-then-mine-clause-own_else : goal.returns-then-mine-clause-own_else
returns-then-mine-clause-own_else g c part other = set_elsewhere vec_items c.args.own.now c.args.place c.swap.new.x part other

pub returns-then-mine-clause-others_else : goal.returns-then-mine-clause-others_else
returns-then-mine-clause-others_else g c part other = set_elsewhere vec_items c.args.others.now c.args.place c.swap.new.y part other

pub returns-then-mine-clause-here : goal.returns-then-mine-clause-here
returns-then-mine-clause-here g c =
    set_there vec_items c.args.others.now c.args.place c.swap.new.y c.requires.others
    ∙ ap vec_items c.swap.ensures.y_after
    ∙ sym (given_there vec_items c.args.own.now c.args.place c.index-own-place.result _ c.requires.own refl)
    ∙ sym (ap (λ (b : Bool). if b then answers_of (map vec_items c.args.own.now) c.args.place else answers_of (map vec_items c.args.others.now) c.args.place) c.if-mine.true)
