use Rattle.tool_script.specs.Commands.{command_of}
use Rattle.tool_script.proofs.ReadingLemmas.{command_is_read}
use Rattle.tool_script.proofs.command.read_command.Goals as goal

pub returns : goal.returns
returns g c =
    command_is_read c.args.term.now c.in_ok-elements.field-0.now c.command_in.result command_of c.in_ok-elements.ensures c.command_in.ensures
