use Rattle.compiler.proofs.CodeFlow.{code_is_typed}
use Rattle.compiler.proofs.typing.code_of_specifications_is_typed.Goals as goal

pub returns : goal.returns
returns c = code_is_typed
