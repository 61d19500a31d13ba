use Rattle.std.proofs.Common.{arith, sym, ap, ◌∙◌}
use Rattle.mcode.specs.declared.kind.Kind.TheVariants as kind
use Rattle.term_core.proofs.LimitLemmas.{item_count-items_of}
use Rattle.verifier_types.proofs.LeavingLemmas.{kind-cells}
use Rattle.verifier_types.proofs.leaving.kind_of.Goals as goal

pub tuple_kind-requires : goal.tuple_kind-requires
tuple_kind-requires g c =
    let within = c.in-Tuple.ensures.within in
    let within = rw (← c.in-Tuple.ensures.value) at within in
    omega (arith, within.sound.0, item_count-items_of c.in-Tuple.elements.now)

pub returns-in-Tuple : goal.returns-in-Tuple
returns-in-Tuple g c =
    rw (← c.in-Tuple.ensures.value) (c.tuple_kind.ensures ∙ ap kind.Tuple (sym (item_count-items_of c.in-Tuple.elements.now)))

pub returns-in-List : goal.returns-in-List
returns-in-List g c =
    rw (← c.in-List.ensures.value) (kind-cells _ _ c.in-List.ensures.split.0)
