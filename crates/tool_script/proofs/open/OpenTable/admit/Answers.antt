use Rattle.std.proofs.Common.{◌≡◌, ◌∙◌, ◌<◌, ℕ, sym, ap, subst, Some, rules}
use Rattle.std.specs.Prelude.{FitsSigned}
use Rattle.std.specs.Int.{w64}
use Rattle.std.proofs.lemmas.Int.{to_z-of_z}
use Rattle.tables.specs.declared.options.Options.{Options}
use Rattle.tables.specs.declared.local.LocalTable.{LocalTable}
use Rattle.tables.specs.Local.{AreAfter}
use Rattle.tables.specs.Turns.{Home}
use Rattle.tool_script.specs.Script.{asked, session_number}
use Rattle.tool_script.specs.Commands.{ask_of}
use Rattle.tool_script.specs.Replies.{reply_term}
use Rattle.tool_script.specs.State.{IsAt}
use Rattle.tool_script.proofs.open.OpenTable.admit.Goals as goal

pub returns-clause-answered : goal.returns-clause-answered
returns-clause-answered g c = λ state before.
    let fits : FitsSigned w64 c.args.number = search rules in
    let number = to_z-of_z w64 c.args.number fits in
    let is : session_number state c.args.number ≡ Some c.in-Some.number = ap (session_number state) (sym number) ∙ sym (c.session.ensures.found state before) ∙ c.in-Some.is in
    let now = c.perform.new.turns.table.now in
    let at = subst (λ (t : LocalTable g.row.P.Denot g.row.A.Denot g.P.Part). IsAt t.options (AreAfter g.P.Part.is_after t.parts.items) state.table) (sym c.at-session.ensures.table) before.table in
    let options = ap (λ (h : Home). h.options) c.in_ok-reply.ensures.same ∙ ap (λ (t : LocalTable g.row.P.Denot g.row.A.Denot g.P.Part). t.options) c.at-session.ensures.table in
    let said = subst (λ (n : ℕ). (reply_term c.in_ok-reply.reply ≡ (asked state.table n (ask_of c.args.ask)).0) × IsAt c.at-session.result.table.now.options (AreAfter g.P.Part.is_after now.parts.items) (asked state.table n (ask_of c.args.ask)).1) c.at-session.ensures.number (c.in_ok-reply.ensures.answered state.table at) in
    let table = subst (λ (o : Options). IsAt o (AreAfter g.P.Part.is_after now.parts.items) (asked state.table c.in-Some.number (ask_of c.args.ask)).1) (sym (ap (λ (h : Home). h.options) c.in_ok-reply.ensures.same)) said.1 in
    rw (is, sym c.is_leaving-leaves.ensures) (said.0, record { table = table; left = λ k inside. c.note_leaving.ensures k (state.left k) (before.left k (subst (λ (o : Options). k < o.sessions) options inside)) })
