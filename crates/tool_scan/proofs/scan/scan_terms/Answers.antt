use Rattle.std.proofs.Common.{subst, sym}
use Rattle.std.proofs.lemmas.Result.{err_from_is_err_and, on_ok_weaker, MatchResult-weaker}
use Rattle.tool_query.proofs.RunLemmas.{parted}
use Rattle.tool_scan.specs.Asking.{AreAnswers}
use Rattle.tool_scan.proofs.ScanLemmas.{answers_stopped, no_object, no_specification}
use Rattle.tool_scan.proofs.scan.scan_terms.Goals as goal

pub returns-in_err-specification-clause-stopped : goal.returns-in_err-specification-clause-stopped
returns-in_err-specification-clause-stopped g c =
    let whole = parted c.args.terms.now c.first-item.result c.requires.some c.first-item.is in
    let back = err_from_is_err_and c.from_residual.result c.from_residual.ensures.1 in
    rw (back.1, back.2) (no_specification c.args.options c.args.terms.now c.first-item.result _ (g.W.Write.contents c.args.writer.now) _ whole c.in_err-specification.ensures.refused)

pub returns-in_err-check_objects-clause-stopped : goal.returns-in_err-check_objects-clause-stopped
returns-in_err-check_objects-clause-stopped g c =
    let whole = parted c.args.terms.now c.first-item.result c.requires.some c.first-item.is in
    let back = err_from_is_err_and c.from_residual-in_err-check_objects.result c.from_residual-in_err-check_objects.ensures.1 in
    rw (back.1, back.2)
    (no_object c.args.options c.args.terms.now c.first-item.result _ _ (g.W.Write.contents c.args.writer.now) _ whole c.in_ok-specification.ensures.ok c.in_err-check_objects.ensures.refused)

pub returns-in-Ok-clause-ok : goal.returns-in-Ok-clause-ok
returns-in-Ok-clause-ok g c =
    let whole = parted c.args.terms.now c.first-item.result c.requires.some c.first-item.is in
    on_ok_weaker c.write_answers.result
    (λ gained. record {
      specification = c.in_ok-specification.specification;
      objects = _;
      asked = record { first = c.first-item.result; whole = whole; read = c.in_ok-specification.ensures.ok; fit = c.in_ok-check_objects.ensures.ok };
      answers = c.as_slice.result.now;
      scanned = subst (AreAnswers c.args.options c.in_ok-specification.specification _) (sym c.as_slice.ensures.value) c.in-Ok.ensures;
      gained = gained;
    })
    c.write_answers.ensures.ok

pub returns-in-Ok-clause-stopped : goal.returns-in-Ok-clause-stopped
returns-in-Ok-clause-stopped g c =
    let whole = parted c.args.terms.now c.first-item.result c.requires.some c.first-item.is in
    MatchResult-weaker c.write_answers.result c.write_answers.ensures.stopped (λ x p. p)
    (λ f h. answers_stopped c.args.options c.args.terms.now c.in_ok-specification.specification _ _ _ _ f
    (record { first = c.first-item.result; whole = whole; read = c.in_ok-specification.ensures.ok; fit = c.in_ok-check_objects.ensures.ok })
    (subst (AreAnswers c.args.options c.in_ok-specification.specification _) (sym c.as_slice.ensures.value) c.in-Ok.ensures) h)
