use Rattle.std.proofs.Common.{◌≡◌, ◌-◌, ◌≤◌, length, rules, refl, subst, arith}
use Rattle.machine_step.specs.Flow.{HasRoom}
use Rattle.machine_bodies.proofs.StandLemmas.{constants_here, has_room, is_ready, jumps_framed, came_next, came_jump, came_answer, came_no_answer}
use Rattle.machine_bodies.proofs.activation.Activation.execute.Goals as goal

pub execute-ran-requires : goal.execute-ran-requires
execute-ran-requires g c =
    let s = c.args.self.now in
    let object = c.args.object.now in
    let height : s.height - s.cells ≡ s.height = omega (arith, c.requires.none) in
    let room = has_room c.requires.stands object c.args.instr c.requires.read in (
      search rules,
      (
        search rules,
        (
          c.requires.inside,
          record {
            code = s.body;
            same = constants_here s c.args.code.now c.code-code.result.now c.requires.body c.code-code.ensures.value;
            room = subst (λ n. HasRoom s.body c.args.instr n (length s.stack.terms)) height room;
            ready = is_ready c.requires.stands object c.args.instr c.requires.read c.requires.none;
          },
        ),
      ),
    )

pub frame_depth-self-requires : goal.frame_depth-self-requires
frame_depth-self-requires g c =
    let s = c.args.self.now in
    let leads = c.in-Ok.ensures.flow s.body (constants_here s c.args.code.now c.code-code.result.now c.requires.body c.code-code.ensures.value) in
    let leads = rw c.in-Jump.is at leads in
    jumps_framed c.requires.stands c.args.object.now c.args.instr c.requires.read c.requires.none c.in-Jump.target c.in-Jump.field-1 c.execute-ran.new.stack.terms c.execute-ran.new.slots.terms leads

pub returns-in-Next-clause-came : goal.returns-in-Next-clause-came
returns-in-Next-clause-came g c stands =
    let s = c.args.self.now in
    let leads = c.in-Ok.ensures.flow s.body (constants_here s c.args.code.now c.code-code.result.now c.requires.body c.code-code.ensures.value) in
    let leads = rw c.in-Next.is at leads in
    let within = c.in-Ok.ensures.within in
    let within = rw c.in-Next.is at within in
    let within : c.in-Next.height ≤ length c.execute-ran.new.stack.terms = omega (arith, within, c.execute-ran.ensures.places) in
    came_next stands c.args.object.now c.args.instr c.requires.read c.requires.none refl c.execute-ran.ensures.places c.requires.none refl within leads

pub returns-in-Jump-clause-came : goal.returns-in-Jump-clause-came
returns-in-Jump-clause-came g c stands =
    let s = c.args.self.now in
    let leads = c.in-Ok.ensures.flow s.body (constants_here s c.args.code.now c.code-code.result.now c.requires.body c.code-code.ensures.value) in
    let leads = rw c.in-Jump.is at leads in
    let within = c.in-Ok.ensures.within in
    let within = rw c.in-Jump.is at within in
    let within : c.in-Jump.field-1 ≤ length c.execute-ran.new.stack.terms = omega (arith, within, c.execute-ran.ensures.places) in
    came_jump stands c.args.object.now c.args.instr c.requires.read c.requires.none refl c.execute-ran.ensures.places c.requires.none c.in-Jump.field-1 within c.frame_depth-self.ensures leads

pub returns-in-Answer-clause-came : goal.returns-in-Answer-clause-came
returns-in-Answer-clause-came g c stands =
    let s = c.args.self.now in
    let leads = c.in-Ok.ensures.flow s.body (constants_here s c.args.code.now c.code-code.result.now c.requires.body c.code-code.ensures.value) in
    let leads = rw c.in-Answer.is at leads in
    let within = c.in-Ok.ensures.within in
    let within = rw c.in-Answer.is at within in (
      omega (arith, within, c.execute-ran.ensures.places),
      came_answer stands c.args.object.now c.args.instr c.requires.read c.requires.none c.in-Answer.place c.execute-ran.new.stack.terms c.execute-ran.new.slots.terms leads,
    )

pub returns-in-NoAnswer-clause-came : goal.returns-in-NoAnswer-clause-came
returns-in-NoAnswer-clause-came g c stands =
    let s = c.args.self.now in
    let leads = c.in-Ok.ensures.flow s.body (constants_here s c.args.code.now c.code-code.result.now c.requires.body c.code-code.ensures.value) in
    let leads = rw c.in-NoAnswer.is at leads in
    came_no_answer stands c.args.object.now c.args.instr c.requires.read c.requires.none c.execute-ran.new.stack.terms c.execute-ran.new.slots.terms leads
