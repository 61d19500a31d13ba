use Rattle.std.proofs.Common.{◌≡◌, drop}
use Rattle.term_text.specs.Canonical.{are_shown}
use Rattle.term_text.proofs.write.are_shown.Given as goal

abbrev pub invariant-loop-byte : goal.invariant-loop-byte
invariant-loop-byte l = are_shown (drop l.byte-index l.bytes) ≡ are_shown l.bytes
