use Rattle.std.proofs.Common.{◌∙◌, sym, subst, refl}
use Rattle.tool_script.specs.Scripts.{HasTable}
use Rattle.tool_script.proofs.ScriptLemmas.{closed_step, unopened_step, set_there, ordered_there}
use Rattle.tool_script.proofs.script.Script.close.Goals as goal

pub returns-in_ok-close-in-Unordered-clause-answered : goal.returns-in_ok-close-in-Unordered-clause-answered
returns-in_ok-close-in-Unordered-clause-answered g c = λ st has.
    let there = set_there g.O.Part c.in-Unordered.table st.current (subst (λ x. HasTable x st.current) (sym c.replace.ensures.value ∙ c.in-Unordered.is) has.current) in
    closed_step c.args.self.now
    (record { alloc = c.args.self.now.alloc; current = c.replace.new.dest; count = c.args.self.now.count; walks = c.clear.new.self; taken = c.args.self.now.taken })
    st there.0 _ c.clear.new.self has there.1 (c.in_ok-close-in-Unordered.ensures there.0 there.2) c.replace.ensures.after refl refl c.clear.ensures

pub returns-in_ok-close-in-Ordered-clause-answered : goal.returns-in_ok-close-in-Ordered-clause-answered
returns-in_ok-close-in-Ordered-clause-answered g c = λ st has.
    let there = ordered_there g.S.Part c.in-Ordered.table st.current (subst (λ x. HasTable x st.current) (sym c.replace.ensures.value ∙ c.in-Ordered.is) has.current) in
    closed_step c.args.self.now
    (record { alloc = c.args.self.now.alloc; current = c.replace.new.dest; count = c.args.self.now.count; walks = c.clear.new.self; taken = c.args.self.now.taken })
    st there.0 _ c.clear.new.self has there.1 (c.in_ok-close-in-Ordered.ensures there.0 there.2) c.replace.ensures.after refl refl c.clear.ensures

pub returns-in-NoTable-clause-answered : goal.returns-in-NoTable-clause-answered
returns-in-NoTable-clause-answered g c = λ st has.
    unopened_step c.args.self.now
    (record { alloc = c.args.self.now.alloc; current = c.replace.new.dest; count = c.args.self.now.count; walks = c.clear.new.self; taken = c.args.self.now.taken })
    st c.clear.new.self has (sym c.replace.ensures.value ∙ c.in-NoTable.is) c.replace.ensures.after refl refl c.clear.ensures
