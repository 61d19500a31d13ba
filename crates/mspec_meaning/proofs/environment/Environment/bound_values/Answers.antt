use Rattle.std.proofs.Common.{option_map, ◌∙◌, ap}
use Rattle.std.proofs.lemmas.Result.{IfOk-weaker}
use Rattle.mspec_match.specs.Match.{values_of}
use Rattle.term_operand.specs.Operand.{operand_datum}
use Rattle.mspec_match.specs.Slots.{seen}
use Rattle.mspec_match.proofs.MatchLemmas.{known-values, length-seen}
use Rattle.mspec_meaning.proofs.environment.Environment.bound_values.Goals as goal

pub returns : goal.returns
returns g c =
    let slots = c.self.inside.slots.now in
    let count = length-seen (λ o. option_map operand_datum o) slots ∙ c.self.invariant in
    IfOk-weaker c.copies.result _ _
    (λ values h.
    h ∙ known-values c.self.inside.variables.now (seen slots) count ∙ ap (λ s. values_of s.substitution) c.self.view_is)
    c.copies.ensures
