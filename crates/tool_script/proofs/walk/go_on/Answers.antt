use Rattle.std.proofs.Common.{◌∙◌, sym, ap, subst, rules, to_z, of_z}
use Rattle.std.specs.Prelude.{FitsSigned}
use Rattle.std.specs.Int.{w64}
use Rattle.std.proofs.lemmas.Int.{to_z-of_z}
use Rattle.std.proofs.lemmas.Result.{IfOk-weaker}
use Rattle.tables.specs.declared.options.Options.{Options}
use Rattle.tool_script.specs.Continuations.{IsSpent, own_at}
use Rattle.tool_script.specs.Replies.{reply_term}
use Rattle.tool_script.proofs.SelectLemmas.{gone_on, own_walk, stranger}
use Rattle.tool_script.proofs.walk.go_on.Goals as goal

pub returns-in_default-clause-answered : goal.returns-in_default-clause-answered
returns-in_default-clause-answered g c =
    let turns = g.T.TryTurns in
    let h = turns.home c.args.turns.now in
    let old = c.args.walks.now in
    let fits : FitsSigned w64 c.args.number = search rules in
    let number = to_z-of_z w64 c.args.number fits in
    let name = ap (λ (x : Options). x.name) c.options.ensures in
    let none = ap (own_at old h.options.name h.number) (sym number) ∙ sym (c.take.ensures.found ∙ ap (λ x. own_at old x c.number.result (to_z w64 (of_z w64 c.args.number))) name ∙ ap (λ n. own_at old h.options.name n (to_z w64 (of_z w64 c.args.number))) c.number.ensures) ∙ c.in_default.is in
    stranger h.options h.number (turns.sees c.args.turns.now) old c.take.new.self c.args.number none c.in_default.ensures.same

pub select_next-requires-clause-own : goal.select_next-requires-clause-own
select_next-requires-clause-own g c =
    let turns = g.T.TryTurns in
    let h = turns.home c.args.turns.now in
    let old = c.args.walks.now in
    let fits : FitsSigned w64 c.args.number = search rules in
    let number = to_z-of_z w64 c.args.number fits in
    let name = ap (λ (x : Options). x.name) c.options.ensures in
    let own = ap (own_at old h.options.name h.number) (sym number) ∙ sym (c.take.ensures.found ∙ ap (λ x. own_at old x c.number.result (to_z w64 (of_z w64 c.args.number))) name ∙ ap (λ n. own_at old h.options.name n (to_z w64 (of_z w64 c.args.number))) c.number.ensures) ∙ c.in-Some.is in
    own_walk h old c.args.number c.in-Some.walk own

pub returns-in-Ok-clause-answered : goal.returns-in-Ok-clause-answered
returns-in-Ok-clause-answered g c =
    let turns = g.T.TryTurns in
    let h = turns.home c.args.turns.now in
    let old = c.args.walks.now in
    let fits : FitsSigned w64 c.args.number = search rules in
    let number = to_z-of_z w64 c.args.number fits in
    let name = ap (λ (x : Options). x.name) c.options.ensures in
    let own = ap (own_at old h.options.name h.number) (sym number) ∙ sym (c.take.ensures.found ∙ ap (λ x. own_at old x c.number.result (to_z w64 (of_z w64 c.args.number))) name ∙ ap (λ n. own_at old h.options.name n (to_z w64 (of_z w64 c.args.number))) c.number.ensures) ∙ c.in-Some.is in
    let spent = subst (λ z. IsSpent old z c.take.new.self) number c.in-Some.ensures.spent in
    IfOk-weaker c.keep.result _ _ (λ reply kept. gone_on c.steps_are_pieces.ensures h (turns.sees c.args.turns.now) (turns.sees c.select_next.new.turns) old c.take.new.self c.keep.new.self c.args.number c.in-Some.walk c.in-Ok.step (reply_term reply) c.requires.alone (g.met.T.TryTurns.fits c.args.turns.now c.requires.ready).0 own spent
    (λ v before. ((c.in-Ok.ensures.done v before).0, (c.in-Ok.ensures.done v before).1, (c.in-Ok.ensures.done v before).2.0)) kept)
    c.keep.ensures
