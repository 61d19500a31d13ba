use Rattle.compiler.proofs.CompilerLemmas.{short}
use Rattle.compiler.proofs.laws.code_is_short.Goals as goal

pub returns : goal.returns
returns c = short
