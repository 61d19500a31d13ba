use Rattle.std.proofs.Common.{◌≡◌, ◌++◌, drop}
use Rattle.std.proofs.Common.{map as each}
use Rattle.term_text.specs.Text.{code_point}
use Rattle.term_text.proofs.read.put_characters.Given as goal

abbrev pub invariant-loop-character : goal.invariant-loop-character
invariant-loop-character g l = l.stack.items ++ each code_point (drop l.character-index l.characters) ≡ l.fn.stack.items ++ each code_point l.characters
