use Rattle.std.proofs.Common.{ℕ, ◌≡◌, ◌<◌, Some, slice_get, length, refl, subst, sym, arith}
use Rattle.std.proofs.lemmas.Option.{slice_get_read}
use Rattle.part_core.specs.Ops.{act_of, answer_in}
use Rattle.tables.specs.Sessions.{IsOpened}
use Rattle.tables.proofs.SessionLemmas.{pass_at, opened_still, turned_at}
use Rattle.tables.proofs.at.AtTryTurns.turn.Goals as goal

pub turn-requires-clause-made : goal.turn-requires-clause-made
turn-requires-clause-made g c =
    let t = c.args.self.now.table.now in
    let s = c.args.self.now.session.now in
    let inside : c.from.result < length t.gates.items = omega (arith, c.from.ensures, c.requires.part, c.requires.ready.count) in
    let there : slice_get t.gates.items c.from.result ≡ Some c.index.result.now = slice_get_read t.gates.items (length t.gates.items) c.from.result c.index.result.now refl inside c.index.ensures in
    pass_at t.options t.gates.items s.number s.passes.items c.requires.ready c.args.part c.index.result.now (subst (λ (k : ℕ). slice_get t.gates.items k ≡ Some c.index.result.now) c.from.ensures there)

pub returns-clause-ready : goal.returns-clause-ready
returns-clause-ready g c =
    let t = c.args.self.now.table.now in
    let s = c.args.self.now.session.now in
    subst (λ (n : ℕ). IsOpened t.options t.gates.items n c.turn.new.self.passes.items) (sym c.turn.ensures.number)
    (opened_still t.options t.gates.items s.number s.passes.items c.requires.ready c.turn.new.self.passes.items c.args.part (act_of c.args.op.now) (answer_in c.turn.result) c.turn.ensures.entry)

pub returns-clause-entry : goal.returns-clause-entry
returns-clause-entry g c =
    let t = c.args.self.now.table.now in
    let s = c.args.self.now.session.now in
    turned_at t.options t.gates.items s.number s.passes.items c.requires.ready c.turn.new.self.passes.items c.args.part (act_of c.args.op.now) (answer_in c.turn.result) c.turn.ensures.entry c.args.self.now.session.ghost_name
