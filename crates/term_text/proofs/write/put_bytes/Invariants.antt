use Rattle.std.proofs.Common.{◌≡◌, ◌++◌, drop}
use Rattle.term_text.specs.Canonical.{more_bytes, bytes_text}
use Rattle.term_text.proofs.write.put_bytes.Given as goal

abbrev pub invariant-loop-byte : goal.invariant-loop-byte
invariant-loop-byte g l = (l.out.front ≡ l.fn.out.front) × (l.out.items ++ more_bytes (drop l.byte-index l.rest) ≡ l.fn.out.items ++ bytes_text l.fn.bytes)
