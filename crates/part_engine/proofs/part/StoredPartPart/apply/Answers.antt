use Rattle.part_core.specs.Ops.{act_of}
use Rattle.part_engine.proofs.LeadLemmas.{goes_on}
use Rattle.part_engine.proofs.part.StoredPartPart.apply.Goals as goal

pub returns-clause-entry : goal.returns-clause-entry
returns-clause-entry g c = λ log now.
    goes_on g.R.Rows.shows c.args.self.now c.answer.new.self c.args.session (act_of c.args.op.now) log c.answer.result c.states_are_kept.ensures c.legal_goes_on.ensures c.answer.ensures.settings c.requires.session c.requires.asked c.answer.ensures.leads now
