use Rattle.std.proofs.Common.{ap, subst, sym, ◌∙◌}
use Rattle.std.proofs.lemmas.Result.{IfErr-weaker, IfOk-weaker}
use Rattle.gate.specs.declared.session.Session.{Session}
use Rattle.tables.specs.declared.table.Table.{Table}
use Rattle.tables.specs.Turns.{Home}
use Rattle.walk_laws.specs.Answered.{IsAnsweredBy, IsGivenUpBy}
use Rattle.walk_laws.proofs.selecting.select_at.Goals as goal

-- The session that is handed back is the one that the walk had: both are borrowed from the same variable.
pub returns-clause-answered : goal.returns-clause-answered
returns-clause-answered g c =
    let at = c.at-at.result in
    let q = c.args.query.now in
    let last = c.select-answers.new.turns.session.now in
    let same_name = sym (ap (λ (h : Home). h.table) c.select-answers.ensures.same ∙ c.at-at.ensures.same_reference) in
    let handed_back = sym (c.session-2-1.given.1 same_name) in
    IfOk-weaker c.select-answers.result _ _
    (λ answers h.
    subst (λ (s : Session _ _). IsAnsweredBy c.args.table.now.options c.args.table.now.gates.items c.args.session.number q c.args.session.passes.items s.passes.items answers.items)
    handed_back
    (subst (λ (s : Session _ _). IsAnsweredBy c.args.table.now.options c.args.table.now.gates.items s.number q s.passes.items last.passes.items answers.items)
    c.at-at.ensures.session
    (subst (λ (t : Table _ _). IsAnsweredBy t.options t.gates.items at.session.now.number q at.session.now.passes.items last.passes.items answers.items)
    c.at-at.ensures.table
    (at.session.ghost_name, h))))
    c.select-answers.ensures.done

pub returns-clause-refused : goal.returns-clause-refused
returns-clause-refused g c =
    let at = c.at-at.result in
    let q = c.args.query.now in
    let last = c.select-answers.new.turns.session.now in
    let same_name = sym (ap (λ (h : Home). h.table) c.select-answers.ensures.same ∙ c.at-at.ensures.same_reference) in
    let handed_back = sym (c.session-2-1.given.1 same_name) in
    IfErr-weaker c.select-answers.result _ _
    (λ fault h.
    subst (λ (s : Session _ _). IsGivenUpBy c.args.table.now.options c.args.table.now.gates.items c.args.session.number q c.args.session.passes.items s.passes.items)
    handed_back
    (subst (λ (s : Session _ _). IsGivenUpBy c.args.table.now.options c.args.table.now.gates.items s.number q s.passes.items last.passes.items)
    c.at-at.ensures.session
    (subst (λ (t : Table _ _). IsGivenUpBy t.options t.gates.items at.session.now.number q at.session.now.passes.items last.passes.items)
    c.at-at.ensures.table
    (at.session.ghost_name, h))))
    c.select-answers.ensures.refused
