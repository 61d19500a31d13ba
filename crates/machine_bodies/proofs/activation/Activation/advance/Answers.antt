use Rattle.std.proofs.Common.{rules, Some, refl, ap, ◌∙◌, arith}
use Rattle.mcode.specs.declared.instr.Instr.TheVariants as instr
use Rattle.machine_bodies.proofs.StandLemmas.{has_room, came_asked, settled_stands, settled_come}
use Rattle.machine_bodies.proofs.activation.Activation.advance.Goals as goal

pub may_join-requires : goal.may_join-requires
may_join-requires g c =
    let found = c.requires.read ∙ ap Some c.in-MakeCons.is in
    let stands = c.requires.stands in
    let room = has_room stands c.args.object.now (instr.MakeCons c.in-MakeCons.otherwise) found in
    (search rules, (omega (arith, room.operands), (stands.within, stands.may)))

pub returns-then-may_join-clause-came : goal.returns-then-may_join-clause-came
returns-then-may_join-clause-came g c stands =
    let found = c.requires.read ∙ ap Some c.in-MakeCons.is in
    came_asked stands c.args.object.now refl refl refl refl refl refl c.in-MakeCons.otherwise found (c.may_join.ensures.0 c.if-may_join.true)

pub execute-requires : goal.execute-requires
execute-requires g c =
    let body = c.settle.ensures.body in
    let settled = c.in_ok-settle.ensures.settled in
    let after = settled_stands body settled c.requires.stands in (
      search rules,
      (
        after.0,
        (
          (c.requires.body.0, body ∙ c.requires.body.1),
          (settled.cells, (rw (body, settled.pc) c.requires.read, (rw settled.pc c.requires.few, c.requires.inside))),
        ),
      ),
    )

pub returns-clause-came : goal.returns-clause-came
returns-clause-came g c = settled_come c.execute.new.self c.args.object.now c.settle.ensures.body c.in_ok-settle.ensures.settled c.execute.result c.execute.ensures.came
