use Rattle.std.proofs.Common.{inl}
use Rattle.std.proofs.lemmas.Result.{IfOk-weaker}
use Rattle.tool_script.specs.Commands.{command_of}
use Rattle.tool_script.specs.Replied.{course}
use Rattle.tool_script.specs.Replies.{reply_term}
use Rattle.tool_script.specs.Scripts.{HasState}
use Rattle.tool_script.proofs.CourseLemmas.{told}
use Rattle.tool_script.proofs.run.reply_to_term.Goals as goal

pub returns-in-Some-clause-answered : goal.returns-in-Some-clause-answered
returns-in-Some-clause-answered g c =
    let command = command_of c.in-Some.command in
    IfOk-weaker c.obey.result _ _ (λ reply taken st has.
    let after = told (course st st.current command) (reply_term reply) (HasState c.obey.new.self) (taken st has) in
    (after.0, inl (command, c.in-Some.ensures, after.1), after.2))
    c.obey.ensures.answered
