use Rattle.std.proofs.Common.{Some, None, rules, ap, ◌∙◌}
use Rattle.mcode.specs.Machine.Outcome.{Ends}
use Rattle.machine_bodies.proofs.GoingLemmas.{goes_on, over}
use Rattle.machine_bodies.proofs.bodies.Run.advance.Goals as goal

pub advance-requires : goal.advance-requires
advance-requires g c =
    let going = c.requires.going.1 in
    (search rules, (going.stands, ((going.body, going.seen), (c.requires.read, (c.requires.few, c.requires.inside)))))

pub answer-requires : goal.answer-requires
answer-requires g c =
    let came = c.in_ok-advance.ensures.came c.requires.going.1.stands in
    let came = rw c.in-Answer.is at came in
    (search rules, came.0)

pub returns-in-On-clause-turn : goal.returns-in-On-clause-turn
returns-in-On-clause-turn g c n going =
    let came = c.in_ok-advance.ensures.came going.stands in
    let came = rw c.in-On.is at came in
    goes_on going c.advance.ensures.body came

pub returns-in_ok-answer-in-Answer-clause-turn : goal.returns-in_ok-answer-in-Answer-clause-turn
returns-in_ok-answer-in-Answer-clause-turn g c n going =
    let came = c.in_ok-advance.ensures.came going.stands in
    let came = rw c.in-Answer.is at came in
    over going (Some c.in_ok-answer-in-Answer.field-0) (came.1 ∙ ap Ends c.in_ok-answer-in-Answer.ensures)

pub returns-in-NoAnswer-clause-turn : goal.returns-in-NoAnswer-clause-turn
returns-in-NoAnswer-clause-turn g c n going =
    let came = c.in_ok-advance.ensures.came going.stands in
    let came = rw c.in-NoAnswer.is at came in
    over going None came
