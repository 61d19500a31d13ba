use Rattle.std.proofs.Common.{Some, subst}
use Rattle.std.proofs.lemmas.Result.{IfOk-weaker}
use Rattle.term_core.specs.Datum.{Datum}
use Rattle.part_core.specs.Acts.Act.{Insert, InsertNew, Lookup, Member, Delete, Take}
use Rattle.part_core.specs.Acts.Answer.{Replied}
use Rattle.part_core.specs.Acts.Said.{Nothing, Flag, Objects}
use Rattle.tables.specs.Turns.{Follows}
use Rattle.tables.specs.Calls.{TurnedByObject}
use Rattle.tool_script.specs.Replies.{reply_term}
use Rattle.tool_script.proofs.AskLemmas.{key_answered, object_answered, deletion_answered, fix_outcome, unfix_outcome, leave_answered}
use Rattle.tool_script.proofs.WalkLemmas.{first_answered, next_answered, next_refused}
use Rattle.tool_script.proofs.session.perform.Goals as goal

pub returns-in-Ok-clause-answered : goal.returns-in-Ok-clause-answered
returns-in-Ok-clause-answered g c = λ t at.
    let turns = g.T.TryTurns in
    rw c.in-Insert.is (object_answered (turns.home c.args.turns.now) (turns.sees c.args.turns.now) (turns.sees c.insert.new.turns) c.in-Insert.object.now (Insert c.in-Insert.object.now) (Replied Nothing) t c.requires.alone (g.met.T.TryTurns.fits c.args.turns.now c.requires.ready).0
    (subst (λ (o : Datum). Follows (turns.sees c.args.turns.now) (turns.sees c.insert.new.turns) (TurnedByObject (turns.home c.args.turns.now) o (Insert o) (Some (Replied Nothing)))) c.in_ok-object-in-Insert.ensures c.in-Ok.ensures.done) at)

pub returns-in-Ok-insert_new-clause-answered : goal.returns-in-Ok-insert_new-clause-answered
returns-in-Ok-insert_new-clause-answered g c = λ t at.
    let turns = g.T.TryTurns in
    rw c.in-InsertNew.is (object_answered (turns.home c.args.turns.now) (turns.sees c.args.turns.now) (turns.sees c.insert_new.new.turns) c.in-InsertNew.object.now (InsertNew c.in-InsertNew.object.now) (Replied (Flag c.in-Ok-insert_new.fresh)) t c.requires.alone (g.met.T.TryTurns.fits c.args.turns.now c.requires.ready).0
    (subst (λ (o : Datum). Follows (turns.sees c.args.turns.now) (turns.sees c.insert_new.new.turns) (TurnedByObject (turns.home c.args.turns.now) o (InsertNew o) (Some (Replied (Flag c.in-Ok-insert_new.fresh))))) c.in_ok-object-in-InsertNew.ensures c.in-Ok-insert_new.ensures.done) at)

pub returns-in_ok-lookup-in-Lookup-clause-answered : goal.returns-in_ok-lookup-in-Lookup-clause-answered
returns-in_ok-lookup-in-Lookup-clause-answered g c = λ t at.
    let turns = g.T.TryTurns in
    rw c.in-Lookup.is (key_answered (turns.home c.args.turns.now) (turns.sees c.args.turns.now) (turns.sees c.lookup.new.turns) c.in-Lookup.key.now (Lookup c.in-Lookup.key.now) (Replied (Objects c.in_ok-lookup-in-Lookup.field-0.items)) t c.requires.alone (g.met.T.TryTurns.fits c.args.turns.now c.requires.ready).0 c.in_ok-lookup-in-Lookup.ensures.done at)

pub returns-in-Member-clause-answered : goal.returns-in-Member-clause-answered
returns-in-Member-clause-answered g c = λ t at.
    let turns = g.T.TryTurns in
    rw c.in-Member.is (key_answered (turns.home c.args.turns.now) (turns.sees c.args.turns.now) (turns.sees c.member.new.turns) c.in-Member.key.now (Member c.in-Member.key.now) (Replied (Flag c.member.result)) t c.requires.alone (g.met.T.TryTurns.fits c.args.turns.now c.requires.ready).0 c.member.ensures.done at)

pub returns-in-Delete-clause-answered : goal.returns-in-Delete-clause-answered
returns-in-Delete-clause-answered g c = λ t at.
    let turns = g.T.TryTurns in
    rw c.in-Delete.is (key_answered (turns.home c.args.turns.now) (turns.sees c.args.turns.now) (turns.sees c.delete.new.turns) c.in-Delete.key.now (Delete c.in-Delete.key.now) (Replied Nothing) t c.requires.alone (g.met.T.TryTurns.fits c.args.turns.now c.requires.ready).0 c.delete.ensures.done at)

pub returns-in-DeleteObject-clause-answered : goal.returns-in-DeleteObject-clause-answered
returns-in-DeleteObject-clause-answered g c =
    let turns = g.T.TryTurns in
    rw c.in-DeleteObject.is (IfOk-weaker c.reply_to-in-DeleteObject.result _ _ (λ reply replied. deletion_answered (turns.home c.args.turns.now) (turns.sees c.args.turns.now) (turns.sees c.delete_object.new.turns) c.in-DeleteObject.object.now c.delete_object.result (reply_term reply) c.requires.alone (g.met.T.TryTurns.fits c.args.turns.now c.requires.ready).0 c.delete_object.ensures.done c.delete_object.ensures.refused replied)
    c.reply_to-in-DeleteObject.ensures)

pub returns-in_ok-take-in-Take-clause-answered : goal.returns-in_ok-take-in-Take-clause-answered
returns-in_ok-take-in-Take-clause-answered g c = λ t at.
    let turns = g.T.TryTurns in
    rw c.in-Take.is (key_answered (turns.home c.args.turns.now) (turns.sees c.args.turns.now) (turns.sees c.take.new.turns) c.in-Take.key.now (Take c.in-Take.key.now) (Replied (Objects c.in_ok-take-in-Take.field-0.items)) t c.requires.alone (g.met.T.TryTurns.fits c.args.turns.now c.requires.ready).0 c.in_ok-take-in-Take.ensures.done at)

pub returns-in-Fix-clause-answered : goal.returns-in-Fix-clause-answered
returns-in-Fix-clause-answered g c =
    let turns = g.T.TryTurns in
    rw c.in-Fix.is (IfOk-weaker c.reply_to-in-Fix.result _ _ (λ reply replied. fix_outcome (turns.home c.args.turns.now) (turns.sees c.args.turns.now) (turns.sees c.fix.new.turns) c.fix.result (reply_term reply) c.requires.alone (λ v part sees inside. g.met.T.TryTurns.legal c.args.turns.now v part c.requires.ready sees inside) (g.met.T.TryTurns.fits c.args.turns.now c.requires.ready).1 c.fix.ensures.done c.fix.ensures.refused replied)
    c.reply_to-in-Fix.ensures)

pub returns-in-Unfix-clause-answered : goal.returns-in-Unfix-clause-answered
returns-in-Unfix-clause-answered g c =
    let turns = g.T.TryTurns in
    rw c.in-Unfix.is (IfOk-weaker c.reply_to-in-Unfix.result _ _ (λ reply replied. unfix_outcome (turns.home c.args.turns.now) (turns.sees c.args.turns.now) (turns.sees c.unfix.new.turns) c.unfix.result (reply_term reply) c.requires.alone (λ v part sees inside. g.met.T.TryTurns.legal c.args.turns.now v part c.requires.ready sees inside) (g.met.T.TryTurns.fits c.args.turns.now c.requires.ready).1 c.unfix.ensures.done c.unfix.ensures.refused replied)
    c.reply_to-in-Unfix.ensures)

pub returns-in-Leave-clause-answered : goal.returns-in-Leave-clause-answered
returns-in-Leave-clause-answered g c = λ t at.
    let turns = g.T.TryTurns in
    rw c.in-Leave.is (leave_answered (turns.home c.args.turns.now) (turns.sees c.args.turns.now) (turns.sees c.release.new.turns) c.requires.alone c.release.ensures.done t at)

pub returns-in_ok-first-in-First-clause-answered : goal.returns-in_ok-first-in-First-clause-answered
returns-in_ok-first-in-First-clause-answered g c = λ t at.
    let turns = g.T.TryTurns in
    rw c.in-First.is (first_answered (turns.home c.args.turns.now) (turns.sees c.args.turns.now) (turns.sees c.first.new.turns) c.in_ok-first-in-First.field-0 c.requires.alone c.in_ok-first-in-First.ensures.done t at)

pub returns-in-Ok-next-clause-answered : goal.returns-in-Ok-next-clause-answered
returns-in-Ok-next-clause-answered g c = λ t at.
    let turns = g.T.TryTurns in
    rw c.in-Next.is (next_answered (turns.home c.args.turns.now) (turns.sees c.args.turns.now) (turns.sees c.next.new.turns) c.in-Next.key.now c.in-Ok-next.next c.requires.alone (g.met.T.TryTurns.fits c.args.turns.now c.requires.ready).0 c.in-Ok-next.ensures.done t at)

pub returns-in-Err-next-clause-answered : goal.returns-in-Err-next-clause-answered
returns-in-Err-next-clause-answered g c =
    let turns = g.T.TryTurns in
    rw c.in-Next.is (IfOk-weaker c.reply_to-in-Err-next.result _ _ (λ reply replied. next_refused (turns.home c.args.turns.now) (turns.sees c.args.turns.now) (turns.sees c.next.new.turns) c.in-Next.key.now c.in-Err-next.fault (reply_term reply) c.requires.alone (g.met.T.TryTurns.fits c.args.turns.now c.requires.ready).0 c.in-Err-next.ensures.refused replied)
    c.reply_to-in-Err-next.ensures)
