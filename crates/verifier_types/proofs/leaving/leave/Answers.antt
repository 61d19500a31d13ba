use Rattle.std.proofs.Common.{refl, ◌∙◌}
use Rattle.verifier_types.proofs.LeavingLemmas.{bindable, left_is, bound_kept, room_left}
use Rattle.verifier_types.proofs.leaving.leave.Goals as goal

pub bind-requires : goal.bind-requires
bind-requires g c =
    bindable c.args.body.now c.args.instr c.args.shape.now.bound _ c.requires.typed.slot
    (bound_kept c.args.shape.now _ _ _ _ _ c.pop.ensures c.in_ok-push.ensures c.requires.slots)

pub returns : goal.returns
returns g c =
    left_is c.args.body.now c.args.instr c.args.shape.now _ _ _ _ _ _ c.requires.needed refl (c.kinds_pushed.ensures ∙ c.repeated_kind-top.ensures c.args.body.now) c.pop.ensures c.in_ok-push.ensures c.bind.ensures

pub push-requires : goal.push-requires
push-requires g c = room_left c.args.body.now c.args.instr c.args.shape.now _ _ c.requires.needed c.pop.ensures c.requires.typed.depth
