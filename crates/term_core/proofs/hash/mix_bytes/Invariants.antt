use Rattle.std.proofs.Common.{◌≡◌, drop}
use Rattle.term_core.specs.KeyHash.{mix_all}
use Rattle.term_core.proofs.hash.mix_bytes.Given as goal

abbrev pub invariant-loop-byte : goal.invariant-loop-byte
invariant-loop-byte l = mix_all l.mixed (drop l.byte-index l.bytes) ≡ mix_all l.hash l.bytes
