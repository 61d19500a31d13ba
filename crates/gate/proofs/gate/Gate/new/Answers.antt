use Rattle.std.proofs.Common.{◌≡◌, List, [], ◌∷◌, ◌++◌, ap, sym, subst, ◌∙◌}
use Rattle.atomic_table.specs.Table.{opening}
use Rattle.gate.specs.Rule.{opener, Keeps}
use Rattle.gate.proofs.StepLemmas.{begins}
use Rattle.gate.proofs.gate.Gate.new.Goals as goal

pub new-requires : goal.new-requires
new-requires g c =
    let items : c.push_within.new.list.items ≡ c.args.part ∷ [] = c.push_within.ensures ∙ ap (λ (xs : List g.row.P.Denot). xs ++ c.args.part ∷ []) c.in_ok-slots.ensures.items in
    let o = g.P.Part.settings c.of-made.result.value in
    subst (λ (xs : List g.row.P.Denot). Keeps g.P.Part.settings g.P.Part.is_after o (opening (0 ∷ []) xs (opener o 0))) (sym items)
    (begins g.P.Part.settings g.P.Part.is_after o c.args.part (ap g.P.Part.settings (sym c.of-made.ensures)) c.requires.opening)
