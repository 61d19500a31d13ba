use Rattle.std.proofs.Common.{ℕ, ◌≡◌, ◌<◌, Some, slice_get, length, refl, subst, sym, arith}
use Rattle.std.proofs.lemmas.Option.{slice_get_read}
use Rattle.part_core.specs.Ops.{act_of, answer_in}
use Rattle.tables.specs.Sessions.{IsOpened}
use Rattle.tables.proofs.SessionLemmas.{pass_at, opened_still, put_off_at, turned_at}
use Rattle.tables.proofs.brief.BriefAtTryTurns.turn.Goals as goal

pub returns-then-self-eq0-clause-entry : goal.returns-then-self-eq0-clause-entry
returns-then-self-eq0-clause-entry g c =
    let t = c.args.self.now.table.now in
    let s = c.args.self.now.session.now in
    put_off_at t.options t.gates.items s.number s.passes.items c.requires.ready s.legal s.passes.items refl c.args.part c.requires.part (act_of c.args.op.now) c.args.self.now.session.ghost_name

pub ask-requires-clause-made : goal.ask-requires-clause-made
ask-requires-clause-made g c =
    let t = c.args.self.now.table.now in
    let s = c.args.self.now.session.now in
    let inside : c.from.result < length t.gates.items = omega (arith, c.from.ensures, c.requires.part, c.requires.ready.count) in
    let there : slice_get t.gates.items c.from.result ≡ Some c.index-gate.result.now = slice_get_read t.gates.items (length t.gates.items) c.from.result c.index-gate.result.now refl inside c.index-gate.ensures in
    pass_at t.options t.gates.items s.number s.passes.items c.requires.ready c.args.part c.index-gate.result.now (subst (λ (k : ℕ). slice_get t.gates.items k ≡ Some c.index-gate.result.now) c.from.ensures there)

pub returns-in-Some-clause-ready : goal.returns-in-Some-clause-ready
returns-in-Some-clause-ready g c =
    let t = c.args.self.now.table.now in
    let s = c.args.self.now.session.now in
    subst (λ (n : ℕ). IsOpened t.options t.gates.items n c.ask.new.self.passes.items) (sym c.ask.ensures.number)
    (opened_still t.options t.gates.items s.number s.passes.items c.requires.ready c.ask.new.self.passes.items c.args.part (act_of c.args.op.now) (answer_in c.in-Some.answer) c.in-Some.ensures.entry)

pub returns-in-Some-clause-entry : goal.returns-in-Some-clause-entry
returns-in-Some-clause-entry g c =
    let t = c.args.self.now.table.now in
    let s = c.args.self.now.session.now in
    turned_at t.options t.gates.items s.number s.passes.items c.requires.ready c.ask.new.self.passes.items c.args.part (act_of c.args.op.now) (answer_in c.in-Some.answer) c.in-Some.ensures.entry c.args.self.now.session.ghost_name

pub returns-in-None-clause-entry : goal.returns-in-None-clause-entry
returns-in-None-clause-entry g c =
    let t = c.args.self.now.table.now in
    let s = c.args.self.now.session.now in
    put_off_at t.options t.gates.items s.number s.passes.items c.requires.ready s.legal c.ask.new.self.passes.items c.in-None.ensures.busy.0 c.args.part c.requires.part (act_of c.args.op.now) c.args.self.now.session.ghost_name
