use Rattle.std.proofs.Common.{◌+◌, ◌∷◌, [], ◌++◌, drop, sym, ◌∙◌, ap}
use Rattle.std.proofs.lemmas.List.{drop_all, append_assoc, append-nil}
use Rattle.term_operand.specs.Value.{value_datum}
use Rattle.mspec_match.specs.Slots.{seen, known}
use Rattle.mspec_meaning.proofs.KnownLemmas.{known-free, known-bound}
use Rattle.mspec_meaning.proofs.environment.copies.Goals as goal

pub loop-slot-init : goal.loop-slot-init
loop-slot-init g c = ap (λ l. l ++ known (seen c.args.slots.now)) c.in_ok-values.ensures.items

pub loop-slot-preserved : goal.loop-slot-preserved
loop-slot-preserved g c =
    let values = c.loop-slot.values.items in
    let rest = known (seen (drop (c.loop-slot.slot-index + 1) c.args.slots.now)) in
    ap (λ l. l ++ rest) c.in_ok-push_element.ensures
    ∙ append_assoc values (value_datum c.new.result ∷ []) rest
    ∙ ap (λ d. values ++ d ∷ rest) c.new.ensures.value
    ∙ ap (λ l. values ++ l) (known-bound c.args.slots.now c.loop-slot.slot-index c.slot-item.result c.in-Some.part c.loop-slot-test.true c.slot-item.is c.in-Some.is)
    ∙ c.loop-slot.invariant

pub loop-slot-preserved-in_default : goal.loop-slot-preserved-in_default
loop-slot-preserved-in_default g c =
    ap (λ l. c.loop-slot.values.items ++ l) (known-free c.args.slots.now c.loop-slot.slot-index c.slot-item.result c.loop-slot-test.true c.slot-item.is c.in_default.is)
    ∙ c.loop-slot.invariant

pub returns : goal.returns
returns g c =
    let values = c.loop-slot.values.items in
    sym (append-nil values)
    ∙ ap (λ l. values ++ known (seen l)) (sym (drop_all c.loop-slot.slot-index c.args.slots.now c.loop-slot-test.false))
    ∙ c.loop-slot.invariant
