use Rattle.std.proofs.Common.{length, slice_get, rules, refl, sym, ap, ◌∙◌}
use Rattle.mcode.specs.Machine.{push_outcome}
use Rattle.mcode.specs.declared.instr.Instr.TheVariants as instr
use Rattle.machine_stack.specs.Stack.{stack_at}
use Rattle.machine_stack.proofs.ConstantLemmas.{read_there}
use Rattle.machine_step.proofs.InsideLemmas.{stack_left, found_in, does_with, leads_in}
use Rattle.machine_step.proofs.TableLemmas.{load_room, const_room, const_inside}
use Rattle.machine_step.proofs.inside.execute.Goals as goal

pub push-requires : goal.push-requires
push-requires g c = (search rules, load_room c.args.height (length c.args.stack.now.terms) c.in-Load.is c.requires.finds.room)

pub bounds-constants-from : goal.bounds-constants-from
bounds-constants-from g c =
    let finds = c.requires.finds in
    let inside = const_inside finds.code c.args.object.now c.in-Const.constant (stack_at c.args.stack.now.terms c.args.height) c.args.slots.now.terms c.in-Const.is finds.ready in
    let inside = rw finds.same at inside in
    rw (c.from.ensures, c.constants.ensures.value) inside

pub push-requires-in-Const : goal.push-requires-in-Const
push-requires-in-Const g c = (search rules, const_room c.in-Const.constant c.args.height (length c.args.stack.now.terms) c.in-Const.is c.requires.finds.room)

pub get-requires : goal.get-requires
get-requires g c = (search rules, (search rules, (c.requires.finds.code, found_in c.in-Get.is c.requires.finds)))

pub bind-requires : goal.bind-requires
bind-requires g c = (search rules, (search rules, (c.requires.finds.code, found_in c.in-Bind.is c.requires.finds)))

pub on_stack-requires : goal.on_stack-requires
on_stack-requires g c =
    let finds = c.requires.finds in (
      search rules,
      (
        stack_left c.args.instr c.requires.inside c.in_default.not-Load c.in_default.not-Const c.in_default.not-Get c.in_default.not-Bind,
        record { code = finds.code; same = finds.same; room = finds.room; object = c.args.object.now; held = c.args.slots.now.terms; ready = finds.ready },
      ),
    )

pub returns-in-Load-clause-flow : goal.returns-in-Load-clause-flow
returns-in-Load-clause-flow g c =
    rw c.in-Load.is (λ p same pc slots are on. (slots, are, c.push.ensures.flow p pc slots))

pub returns-in-Const-clause-flow : goal.returns-in-Const-clause-flow
returns-in-Const-clause-flow g c =
    let finds = c.requires.finds in
    let inside = const_inside finds.code c.args.object.now c.in-Const.constant (stack_at c.args.stack.now.terms c.args.height) c.args.slots.now.terms c.in-Const.is finds.ready in
    let inside = rw finds.same at inside in
    let read = c.index-constants-from.is in
    let read = rw (c.constants.ensures.value, c.from.ensures) at read in
    let there = read_there c.args.code.now.constants c.in-Const.constant c.index-constants-from.result inside read in
    rw c.in-Const.is (λ p same pc slots are on.
    (slots, are, c.push-in-Const.ensures.flow p pc slots ∙ ap (push_outcome pc (stack_at c.args.stack.now.terms c.args.height) slots) (sym (ap (λ cs. slice_get cs c.in-Const.constant) same ∙ there))))

pub returns-in-Get-clause-flow : goal.returns-in-Get-clause-flow
returns-in-Get-clause-flow g c = rw c.in-Get.is (does_with c.get.result c.args.code.now.constants c.args.object.now (instr.Get c.in-Get.slot) (stack_at c.args.stack.now.terms c.args.height) c.args.slots.now.terms c.get.new.stack.terms c.args.slots.now.terms c.get.ensures.flow)

pub returns-in-Bind-clause-flow : goal.returns-in-Bind-clause-flow
returns-in-Bind-clause-flow g c = rw c.in-Bind.is (λ p same. c.bind.ensures.flow p)

pub returns-in_default-clause-flow : goal.returns-in_default-clause-flow
returns-in_default-clause-flow g c =
    leads_in c.on_stack.result c.args.code.now.constants c.args.object.now c.args.instr (stack_at c.args.stack.now.terms c.args.height) c.args.slots.now.terms c.on_stack.new.stack.terms c.on_stack.ensures.flow

pub returns-in-Const-clause-memory : goal.returns-in-Const-clause-memory
returns-in-Const-clause-memory g c none few of_stack of_slots =
    (refl, c.push-in-Const.ensures.borrowed of_stack refl, of_slots)

pub returns-in-Bind-clause-memory : goal.returns-in-Bind-clause-memory
returns-in-Bind-clause-memory g c none few of_stack of_slots =
    let both = c.bind.ensures.borrowed of_stack of_slots in
    (refl, both.0, both.1)

pub returns-in_default-clause-memory : goal.returns-in_default-clause-memory
returns-in_default-clause-memory g c none few of_stack of_slots =
    let kept = c.on_stack.ensures.memory none few of_stack in
    (kept.0, kept.1, of_slots)

pub returns-in-Load-clause-memory : goal.returns-in-Load-clause-memory
returns-in-Load-clause-memory g c none few of_stack of_slots = (refl, c.push.ensures.borrowed of_stack refl, of_slots)

pub returns-in-Get-clause-memory : goal.returns-in-Get-clause-memory
returns-in-Get-clause-memory g c none few of_stack of_slots =
    let kept = c.get.ensures.memory of_stack of_slots in
    (kept.0, kept.1, of_slots)

pub returns-in-Load-clause-within : goal.returns-in-Load-clause-within
returns-in-Load-clause-within g c = c.push.ensures.within

pub returns-in-Const-clause-within : goal.returns-in-Const-clause-within
returns-in-Const-clause-within g c = c.push-in-Const.ensures.within

pub returns-in-Bind-clause-within : goal.returns-in-Bind-clause-within
returns-in-Bind-clause-within g c = c.bind.ensures.within

pub returns-in-Get-clause-within : goal.returns-in-Get-clause-within
returns-in-Get-clause-within g c = c.get.ensures.within

pub returns-in_default-clause-within : goal.returns-in_default-clause-within
returns-in_default-clause-within g c = c.on_stack.ensures.within
