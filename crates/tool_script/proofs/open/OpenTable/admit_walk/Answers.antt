use Rattle.std.proofs.Common.{◌≡◌, ◌∙◌, ◌<◌, ℕ, sym, ap, subst, Some, rules}
use Rattle.std.specs.Prelude.{FitsSigned}
use Rattle.std.specs.Int.{w64}
use Rattle.std.proofs.lemmas.Int.{to_z-of_z}
use Rattle.std.proofs.lemmas.Result.{IfOk-weaker}
use Rattle.tables.specs.declared.options.Options.{Options}
use Rattle.tables.specs.declared.local.LocalTable.{LocalTable}
use Rattle.tables.specs.Local.{AreAfter}
use Rattle.tables.specs.Turns.{Home}
use Rattle.tool_script.specs.Commands.{selection_of}
use Rattle.tool_script.specs.Continuations.{AreHeld}
use Rattle.tool_script.specs.Course.{Takes}
use Rattle.tool_script.specs.Replies.{reply_term}
use Rattle.tool_script.specs.Script.{session_number}
use Rattle.tool_script.specs.State.{AreAt, IsAt}
use Rattle.tool_script.specs.Walks.{Walked, selecting}
use Rattle.tool_script.proofs.CourseLemmas.{takes_weaker}
use Rattle.tool_script.proofs.open.OpenTable.admit_walk.Goals as goal

pub returns-clause-answered : goal.returns-clause-answered
returns-clause-answered g c =
    let fits : FitsSigned w64 c.args.number = search rules in
    let number = to_z-of_z w64 c.args.number fits in
    let now = c.walk.new.turns.table.now in
    let there = c.at-session.result.table.now in
    let old = ap (λ (t : LocalTable g.row.P.Denot g.row.A.Denot g.P.Part). t.options) c.at-session.ensures.table in
    let same = ap (λ (h : Home). h.options) (sym c.walk.ensures.same) in
    IfOk-weaker c.walk.result _ _ (λ reply said count state walks named before held.
    let is : session_number state c.args.number ≡ Some c.in-Some.number = ap (session_number state) (sym number) ∙ sym (c.session.ensures.found state before) ∙ c.in-Some.is in
    let whole : Walked = record { table = state.table; walks = walks } in
    let at = subst (λ (t : LocalTable g.row.P.Denot g.row.A.Denot g.P.Part). AreAt t.options (AreAfter g.P.Part.is_after t.parts.items) count c.args.walks.now whole) (sym c.at-session.ensures.table) (record { table = before.table; named = named; walks = held }) in
    let taken = subst (λ (n : ℕ). Takes (selecting whole n (selection_of c.args.selection)) (reply_term reply) (AreAt there.options (AreAfter g.P.Part.is_after now.parts.items) count c.walk.new.walks)) c.at-session.ensures.number (said count whole at) in
    rw is (takes_weaker (selecting whole c.in-Some.number (selection_of c.args.selection)) (reply_term reply) _ _ (λ (w : Walked) (at : AreAt there.options (AreAfter g.P.Part.is_after now.parts.items) count c.walk.new.walks w). (
      record { table = subst (λ (o : Options). IsAt o (AreAfter g.P.Part.is_after now.parts.items) w.table) same at.table; left = λ k inside. before.left k (subst (λ (o : Options). k < o.sessions) (sym same ∙ old) inside) },
      subst (λ (o : Options). AreHeld (Some o) count c.walk.new.walks w.walks) same at.walks,
    )) taken))
    c.walk.ensures.answered
