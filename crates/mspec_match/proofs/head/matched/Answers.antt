use Rattle.std.proofs.Common.{◌≡◌, option_map, length, List, Option, drop, sym, ◌∙◌, ap, subst}
use Rattle.mspec_syntax.specs.Specification.{clause_variables}
use Rattle.mspec_match.specs.Match.{Matches}
use Rattle.term_operand.specs.Operand.{operand_datum}
use Rattle.mspec_match.specs.Slots.{seen, substitution_of, AreFree}
use Rattle.term_operand.specs.declared.operand.Operand.{Operand}
use Rattle.mspec_match.proofs.MatchLemmas.{clause-match, clause-never, whole, length-seen}
use Rattle.mspec_match.proofs.head.matched.Goals as goal

pub returns-then-bind : goal.returns-then-bind
returns-then-bind g c =
    let new = c.bind.new.slots in
    let count = c.bind.auto.slots ∙ ap length c.as_mut_slice.ensures.value ∙ c.in_ok-slots.ensures.0 ∙ c.len.ensures ∙ ap length c.variables.ensures in
    let P : List (Option (Operand _)) → Type 0 = λ xs. (length xs ≡ length (clause_variables c.args.clause.now)) × Matches c.args.clause.now.head (substitution_of (clause_variables c.args.clause.now) (seen xs)) c.args.object.now in
    subst P (sym (whole c.in_ok-slots.slots.len new (drop (length new) c.in_ok-slots.slots.items) (sym (c.bind.auto.slots ∙ c.as_mut_slice.ensures.len))))
    (count, clause-match c.variables-2.result.now (seen c.as_mut_slice.result.now) (seen new) c.head.result.now c.args.clause.now.head c.args.object.now c.variables-2.ensures c.head.ensures (length-seen (λ o. option_map operand_datum o) new ∙ count ∙ sym (ap length c.variables-2.ensures)) c.if-bind.ensures)

pub returns : goal.returns
returns g c =
    let F : List (Option (Operand _)) → Type 0 = λ xs. AreFree (seen xs) in
    clause-never c.variables-2.result.now (seen c.as_mut_slice.result.now) c.head.result.now c.args.clause.now.head c.args.object.now c.variables-2.ensures c.head.ensures (subst F (sym c.as_mut_slice.ensures.value) c.in_ok-slots.ensures.1) c.if-bind.ensures
