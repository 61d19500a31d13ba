use Rattle.std.proofs.Common.{◌≡◌, refl}
use Rattle.std.specs.Str.{IsValidUpTo}
use Rattle.term_text.proofs.Publics.{one_end}
use Rattle.term_text.proofs.text.text_of.Goals as goal

pub returns-in-Err-clause-refused : goal.returns-in-Err-clause-refused
returns-in-Err-clause-refused c =
    let front : IsValidUpTo c.args.bytes.now c.valid_up_to.result = rw c.valid_up_to.ensures c.in-Err.ensures.cases.1 in
    record {
      other = λ e. absurd cc;
      cause = tt;
      bad_utf8 = λ at. (λ e. let same : c.valid_up_to.result ≡ at = cc in rw (← same) front, λ v. rw (one_end c.args.bytes.now c.valid_up_to.result at front v) refl);
    }
