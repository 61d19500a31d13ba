use Rattle.std.proofs.Common.{subst, ◌∙◌}
use Rattle.std.specs.Prelude.{IsSome}
use Rattle.std.proofs.lemmas.Result.{IfOk-weaker}
use Rattle.machine_stack.proofs.MapLemmas.{elements_there, map_keys_are}
use Rattle.machine_stack.proofs.ConstantLemmas.{listed_inside, listed_is}
use Rattle.machine_stack.proofs.made.keys_of.Goals as goal

pub bounds-constants-from : goal.bounds-constants-from
bounds-constants-from g c =
    let inside = listed_inside c.args.code.now.constants c.args.number c.requires in
    rw (c.constants.ensures.value, c.from.ensures) inside

pub elements_of-requires : goal.elements_of-requires
elements_of-requires g c =
    let list = c.index-constants-from.result in
    let read = rw (c.constants.ensures.value, c.from.ensures) at c.index-constants-from.is in
    elements_there list (subst IsSome (listed_is c.args.code.now.constants c.args.number list c.requires read) c.requires)

pub returns-clause-keys : goal.returns-clause-keys
returns-clause-keys g c =
    let list = c.index-constants-from.result in
    let read = rw (c.constants.ensures.value, c.from.ensures) at c.index-constants-from.is in
    let is = listed_is c.args.code.now.constants c.args.number list c.requires read in
    IfOk-weaker c.elements_of.result _ _ (λ keys elements. is ∙ (map_keys_are list keys.items (subst IsSome is c.requires) elements).1) c.elements_of.ensures

pub returns-clause-apart : goal.returns-clause-apart
returns-clause-apart g c =
    let list = c.index-constants-from.result in
    let read = rw (c.constants.ensures.value, c.from.ensures) at c.index-constants-from.is in
    let is = listed_is c.args.code.now.constants c.args.number list c.requires read in
    IfOk-weaker c.elements_of.result _ _ (λ keys elements. (map_keys_are list keys.items (subst IsSome is c.requires) elements).0) c.elements_of.ensures
