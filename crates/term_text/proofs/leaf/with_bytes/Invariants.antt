use Rattle.std.proofs.Common.{◌≡◌, ◌++◌, drop, true}
use Rattle.std.specs.List.{AllByRecursion}
use Rattle.term_text.specs.TokenReading.{is_allowed}
use Rattle.term_text.proofs.leaf.with_bytes.Given as goal

abbrev pub invariant-loop-character : goal.invariant-loop-character
invariant-loop-character g l = record {
  joined : l.bytes.items ++ drop l.character-index l.characters ≡ l.fn.bytes.items ++ l.characters;
  allowed : AllByRecursion (λ c. is_allowed true c ≡ true) (drop l.character-index l.characters);
}
