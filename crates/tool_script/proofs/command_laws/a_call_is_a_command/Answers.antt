use Rattle.tool_script.proofs.CallLawLemmas.{said_by_calls}
use Rattle.tool_script.proofs.command_laws.a_call_is_a_command.Goals as goal

pub returns : goal.returns
returns c = λ t n ask. said_by_calls t n ask
