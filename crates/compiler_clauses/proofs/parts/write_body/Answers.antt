use Rattle.compiler_clauses.proofs.WriteLemmas.{body_put}
use Rattle.compiler_clauses.proofs.parts.write_body.Goals as goal

pub returns : goal.returns
returns g c =
    let put = body_put c.args.site.now c.args.body.now c.in-Some.answer.now c.prepend.new.self c.args.lines.now c.in-Some.ensures.value c.in_ok-prepend.ensures in
    rw (← put) c.write_expression.ensures
