use Rattle.verifier_types.proofs.checks.check_operands.Goals as goal

pub returns-in-Err-clause-fault : goal.returns-in-Err-clause-fault
returns-in-Err-clause-fault g c = λ ds. c.in-Err.ensures.fault ds c.args.shape.now
