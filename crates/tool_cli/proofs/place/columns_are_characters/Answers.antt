use Rattle.tool_cli.proofs.CharacterLemmas.{columns_count}
use Rattle.tool_cli.proofs.place.columns_are_characters.Goals as goal

pub returns : goal.returns
returns c = columns_count
