-- Laws of commands.
use Rattle.std.specs.Prelude.{◌≡◌}
use Rattle.tool_script.specs.Command.{Command, command_term}

-- different commands have different terms
abbrev pub TermsTellCommands : Type 0
TermsTellCommands = (a b : Command) → command_term a ≡ command_term b → a ≡ b
