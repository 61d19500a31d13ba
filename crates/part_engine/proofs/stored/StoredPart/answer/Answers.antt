use Rattle.part_engine.proofs.stored.StoredPart.answer.Goals as goal

pub returns-in-Member-clause-leads : goal.returns-in-Member-clause-leads
returns-in-Member-clause-leads g c = rw c.in-Member.is (c.member.ensures c.args.session)

pub returns-in-Delete-clause-leads : goal.returns-in-Delete-clause-leads
returns-in-Delete-clause-leads g c = rw c.in-Delete.is (c.delete.ensures.leads c.args.session)
