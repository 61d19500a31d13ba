use Rattle.compiler.proofs.CompilerLemmas.{shallow}
use Rattle.compiler.proofs.laws.code_is_shallow.Goals as goal

pub returns : goal.returns
returns c = shallow
