use Rattle.mspec_reader.proofs.ReadingLemmas.{refused-memory, refusal-one}
use Rattle.mspec_reader.proofs.laws.one_fault_is_refused.Goals as goal

pub returns-clause-read : goal.returns-clause-read
returns-clause-read c = λ d s f is within refused. refused-memory d s f is within refused

pub returns-clause-fault : goal.returns-clause-fault
returns-clause-fault c = λ d f g first second some other. refusal-one d f g first second some other
