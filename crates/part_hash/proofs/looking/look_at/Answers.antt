use Rattle.std.proofs.Common.{List, ap, sym, ◌∙◌, ◌++◌}
use Rattle.std.specs.Prelude.{Option}
use Rattle.std.specs.Option.{option_to_list}
use Rattle.std.proofs.lemmas.List.{append-nil}
use Rattle.part_core.specs.Rows.{Row}
use Rattle.part_core.proofs.KeyedLemmas.{none_there}
use Rattle.part_engine.proofs.SetLemmas.{alone}
use Rattle.part_hash.proofs.looking.look_at.Goals as goal

pub returns-in_ok-look_at_row : goal.returns-in_ok-look_at_row
returns-in_ok-look_at_row g c = λ rows s.
    let found = c.in-Some.ensures.found c.args._settings rows s in
    c.in_ok-look_at_row.ensures ∙ ap (λ (rs : List Row). c.args.into.now.items ++ rs) (ap (λ (r : Option Row). option_to_list r) found.1 ∙ sym (alone c.args.key.now rows s.apart found.0))

pub returns-in_default : goal.returns-in_default
returns-in_default g c = λ rows s.
    sym (append-nil c.args.into.now.items) ∙ ap (λ (rs : List Row). c.args.into.now.items ++ rs) (sym (none_there c.args.key.now rows (c.in_default.ensures.found c.args._settings rows s)))
