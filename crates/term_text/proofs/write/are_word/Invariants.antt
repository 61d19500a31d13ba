use Rattle.std.proofs.Common.{◌≡◌, drop}
use Rattle.term_text.specs.Canonical.{are_word}
use Rattle.term_text.proofs.write.are_word.Given as goal

abbrev pub invariant-loop-byte : goal.invariant-loop-byte
invariant-loop-byte l = are_word (drop l.byte-index l.bytes) ≡ are_word l.bytes
