use Rattle.std.proofs.Common.{rules}
use Rattle.std.specs.Str.{chars}
use Rattle.term_text.proofs.Nexts.{next_is_there, next_is_read, next_stops_for, next_refusal}
use Rattle.term_text.proofs.text.next_term.Goals as goal

pub returns-in-Ok-clause-ok : goal.returns-in-Ok-clause-ok
returns-in-Ok-clause-ok g c = next_is_there (chars c.args.rest.now) _ c.in-Ok.ensures.value

pub returns-in-Ok-clause-only : goal.returns-in-Ok-clause-only
returns-in-Ok-clause-only g c = λ there h. next_is_read (chars c.args.rest.now) there _ h c.in-Ok.ensures.value

pub returns-in-Err-clause-only : goal.returns-in-Err-clause-only
returns-in-Err-clause-only g c = λ there h. rw c.fault.ensures (next_stops_for (chars c.args.rest.now) (chars c.args.text.now) there c.in-Err.refused h c.in-Err.ensures.value)

pub returns-in-Err-clause-cause : goal.returns-in-Err-clause-cause
returns-in-Err-clause-cause g c =
    λ ds front. rw c.fault.ensures (next_refusal c.args.text.now (chars c.args.rest.now) ds c.in-Err.refused (search rules) front c.in-Err.ensures.value)
