use Rattle.tool_script.proofs.ReadingLemmas.{command_term_is_one}
use Rattle.tool_script.proofs.command_laws.terms_tell_commands.Goals as goal

pub returns : goal.returns
returns c = λ a b same. command_term_is_one a b same
