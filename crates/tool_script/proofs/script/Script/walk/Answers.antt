use Rattle.std.proofs.Common.{ap, subst, refl, rules}
use Rattle.std.specs.Prelude.{FitsSigned}
use Rattle.std.specs.Int.{w64}
use Rattle.std.proofs.lemmas.Int.{to_z-of_z}
use Rattle.std.proofs.lemmas.Result.{IfOk-weaker}
use Rattle.tool_script.specs.Commands.{selection_of}
use Rattle.tool_script.specs.Opened.{IsOpen, IsSelectionAnswered}
use Rattle.tool_script.specs.Replies.{reply_term}
use Rattle.tool_script.specs.Scripts.{HasTable, open_options}
use Rattle.tool_script.proofs.CourseLemmas.{ok_both}
use Rattle.tool_script.proofs.ScriptLemmas.{walked_step, set_there, ordered_there}
use Rattle.tool_script.proofs.script.Script.walk.Goals as goal

pub returns-in-Unordered-clause-answered : goal.returns-in-Unordered-clause-answered
returns-in-Unordered-clause-answered g c =
    let old = c.args.self.now in
    let fits : FitsSigned w64 c.args.number = search rules in
    let number = to_z-of_z w64 c.args.number fits in
    IfOk-weaker c.admit_walk.result _ _ (λ reply both st has.
    let there = set_there g.O.Part c.in-Unordered.table st.current (subst (λ x. HasTable x st.current) c.in-Unordered.is has.current) in
    walked_step old _ st there.0 _ _ (IsOpen c.admit_walk.new.self) c.args.number (selection_of c.args.selection) (reply_term reply) has there.1 (ap open_options c.in-Unordered.is) refl both.0 refl (λ u is. is)
    (λ named held. subst (λ z. IsSelectionAnswered c.in-Unordered.table c.admit_walk.new.self old.walks c.admit_walk.new.walks z (selection_of c.args.selection) (reply_term reply)) number both.1 old.count there.0 st.walks named there.2 held))
    (ok_both c.admit_walk.result _ _ c.admit_walk.ensures.options c.admit_walk.ensures.answered)

pub returns-in-Ordered-clause-answered : goal.returns-in-Ordered-clause-answered
returns-in-Ordered-clause-answered g c =
    let old = c.args.self.now in
    let fits : FitsSigned w64 c.args.number = search rules in
    let number = to_z-of_z w64 c.args.number fits in
    IfOk-weaker c.admit_walk-in-Ordered.result _ _ (λ reply both st has.
    let there = ordered_there g.S.Part c.in-Ordered.table st.current (subst (λ x. HasTable x st.current) c.in-Ordered.is has.current) in
    walked_step old _ st there.0 _ _ (IsOpen c.admit_walk-in-Ordered.new.self) c.args.number (selection_of c.args.selection) (reply_term reply) has there.1 (ap open_options c.in-Ordered.is) refl both.0 refl (λ u is. is)
    (λ named held. subst (λ z. IsSelectionAnswered c.in-Ordered.table c.admit_walk-in-Ordered.new.self old.walks c.admit_walk-in-Ordered.new.walks z (selection_of c.args.selection) (reply_term reply)) number both.1 old.count there.0 st.walks named there.2 held))
    (ok_both c.admit_walk-in-Ordered.result _ _ c.admit_walk-in-Ordered.ensures.options c.admit_walk-in-Ordered.ensures.answered)
