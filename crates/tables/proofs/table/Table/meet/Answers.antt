use Rattle.std.proofs.Common.{ℕ, ◌≡◌, ◌<◌, List, Some, slice_get, length, refl, subst, ap, ◌∙◌, arith}
use Rattle.std.proofs.lemmas.Option.{slice_get_read}
use Rattle.gate.specs.Views.{Ticket}
use Rattle.tables.proofs.SessionLemmas.{pass_at, met_more}
use Rattle.tables.proofs.table.Table.meet.Goals as goal

pub meet_at-requires-clause-made : goal.meet_at-requires-clause-made
meet_at-requires-clause-made g c =
    let t = c.args.self.now in
    let inside : c.from.result < length t.gates.items = omega (arith, c.from.ensures, c.loop-part-test.true, c.requires.one.count) in
    let there : slice_get t.gates.items c.from.result ≡ Some c.index.result.now = slice_get_read t.gates.items (length t.gates.items) c.from.result c.index.result.now refl inside c.index.ensures in
    let pass = pass_at t.options t.gates.items c.args.one.now.number c.args.one.now.passes.items c.requires.one c.loop-part.part c.index.result.now (subst (λ (k : ℕ). slice_get t.gates.items k ≡ Some c.index.result.now) c.from.ensures there) in
    (pass.0, ap (λ (ps : List Ticket). slice_get ps c.loop-part.part) c.loop-part.invariant.0.1 ∙ pass.1, pass.2)

pub meet_at-requires-clause-other_made : goal.meet_at-requires-clause-other_made
meet_at-requires-clause-other_made g c =
    let t = c.args.self.now in
    let inside : c.from.result < length t.gates.items = omega (arith, c.from.ensures, c.loop-part-test.true, c.requires.one.count) in
    let there : slice_get t.gates.items c.from.result ≡ Some c.index.result.now = slice_get_read t.gates.items (length t.gates.items) c.from.result c.index.result.now refl inside c.index.ensures in
    let pass = pass_at t.options t.gates.items c.args.other.now.number c.args.other.now.passes.items c.requires.other c.loop-part.part c.index.result.now (subst (λ (k : ℕ). slice_get t.gates.items k ≡ Some c.index.result.now) c.from.ensures there) in
    (pass.0, ap (λ (ps : List Ticket). slice_get ps c.loop-part.part) c.loop-part.invariant.1.1 ∙ pass.1, pass.2)

pub loop-part-preserved : goal.loop-part-preserved
loop-part-preserved g c =
    let t = c.args.self.now in
    let before = c.loop-part.invariant in
    let inside : c.from.result < length t.gates.items = omega (arith, c.from.ensures, c.loop-part-test.true, c.requires.one.count) in
    let there : slice_get t.gates.items c.from.result ≡ Some c.index.result.now = slice_get_read t.gates.items (length t.gates.items) c.from.result c.index.result.now refl inside c.index.ensures in
    let gate = subst (λ (k : ℕ). slice_get t.gates.items k ≡ Some c.index.result.now) c.from.ensures there in
    let mine = pass_at t.options t.gates.items c.args.one.now.number c.args.one.now.passes.items c.requires.one c.loop-part.part c.index.result.now gate in
    let yours = pass_at t.options t.gates.items c.args.other.now.number c.args.other.now.passes.items c.requires.other c.loop-part.part c.index.result.now gate in (
      (c.meet_at.ensures.same.0 ∙ before.0.0, c.meet_at.ensures.same.1 ∙ before.0.1),
      (c.meet_at.ensures.other_same.0 ∙ before.1.0, c.meet_at.ensures.other_same.1 ∙ before.1.1),
      met_more c.args.one.now.passes.items c.args.other.now.passes.items c.loop-part.part mine.0 yours.0 mine.1 yours.1
          (c.meet_at.ensures.met mine.0 yours.0 (ap (λ (ps : List Ticket). slice_get ps c.loop-part.part) before.0.1 ∙ mine.1) (ap (λ (ps : List Ticket). slice_get ps c.loop-part.part) before.1.1 ∙ yours.1))
          before.2,
    )

pub returns-clause-met : goal.returns-clause-met
returns-clause-met g c = λ part v w inside sees others_see.
    c.loop-part.invariant.2 part v w (omega (arith, inside, c.loop-part-test.false)) sees others_see
