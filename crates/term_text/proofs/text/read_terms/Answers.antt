use Rattle.std.proofs.Common.{◌≡◌, refl, sym, ap, ◌∙◌}
use Rattle.std.specs.Str.{chars, IsValidUpTo}
use Rattle.term_text.proofs.BlamesTerms.{has_cause}
use Rattle.term_text.proofs.Publics.{read_is_spelled, spelled_is_read, spelled_stops, not_both, one_end, no_bad_utf8}
use Rattle.term_text.proofs.text.read_terms.Goals as goal

pub returns-in-Err-clause-bad_utf8 : goal.returns-in-Err-clause-bad_utf8
returns-in-Err-clause-bad_utf8 g c =
    let front : IsValidUpTo c.args.bytes.now c.valid_up_to.result = rw c.valid_up_to.ensures c.in-Err.ensures.cases.1 in
    λ at. (λ e. let same : c.valid_up_to.result ≡ at = cc in rw (← same) front, λ v. rw (one_end c.args.bytes.now c.valid_up_to.result at front v) refl)

pub returns-in-Ok-terms-clause-ok : goal.returns-in-Ok-terms-clause-ok
returns-in-Ok-terms-clause-ok g c =
    let utf8 = c.in-Ok.ensures.cases in
    read_is_spelled c.args.bytes.now (chars c.in-Ok.text.now) c.in-Ok-terms.terms.items utf8.1 (ap chars utf8.0) c.in-Ok-terms.ensures

pub returns-in-Ok-terms-clause-only : goal.returns-in-Ok-terms-clause-only
returns-in-Ok-terms-clause-only g c =
    let utf8 = c.in-Ok.ensures.cases in
    λ ds h. spelled_is_read c.args.bytes.now (chars c.in-Ok.text.now) ds c.in-Ok-terms.terms.items (ap chars utf8.0) h c.in-Ok-terms.ensures

pub returns-in-Ok-terms-clause-bad_utf8 : goal.returns-in-Ok-terms-clause-bad_utf8
returns-in-Ok-terms-clause-bad_utf8 g c = λ at. (λ e. absurd cc, λ v. absurd (not_both c.args.bytes.now at c.in-Ok.ensures.cases.1 v))

pub returns-in-Err-terms-clause-only : goal.returns-in-Err-terms-clause-only
returns-in-Err-terms-clause-only g c =
    let utf8 = c.in-Ok.ensures.cases in
    λ ds h. rw (c.fault.ensures, spelled_stops c.args.bytes.now (chars c.in-Ok.text.now) ds c.in-Err-terms.stop (ap chars utf8.0) h c.in-Err-terms.ensures) refl

pub returns-in-Err-terms-clause-bad_utf8 : goal.returns-in-Err-terms-clause-bad_utf8
returns-in-Err-terms-clause-bad_utf8 g c = λ at. (λ e. absurd (no_bad_utf8 c.in-Err-terms.stop _ at (sym c.fault.ensures ∙ cc)), λ v. absurd (not_both c.args.bytes.now at c.in-Ok.ensures.cases.1 v))

pub returns-in-Err-terms-clause-cause : goal.returns-in-Err-terms-clause-cause
returns-in-Err-terms-clause-cause g c =
    let utf8 = c.in-Ok.ensures.cases in
    rw c.fault.ensures (has_cause c.args.bytes.now (chars c.in-Ok.text.now) c.in-Err-terms.stop (ap chars utf8.0) c.in-Err-terms.ensures)
