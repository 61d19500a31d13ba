use Rattle.compiler_assembly.proofs.StandLemmas.{assembled_stands}
use Rattle.compiler_assembly.proofs.laws.assembled_code_stands.Goals as goal

pub returns : goal.returns
returns c = assembled_stands
