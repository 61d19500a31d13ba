use Rattle.mspec_reader.proofs.ReadingLemmas.{IsSpecification-one}
use Rattle.mspec_reader.proofs.laws.one_specification_is_read.Goals as goal

pub returns : goal.returns
returns c = λ d s t h k. IsSpecification-one d s t h k
