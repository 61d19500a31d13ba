-- The mixed hash of a key, by which the index finds its row.
use Rattle.std.specs.Prelude.{ℕ, ◌%◌, ◌^◌, ◌++◌, [], fold}
use Rattle.std.specs.Hash as fed
use Rattle.std.specs.Hash.DefaultHasher as sip
use Rattle.term_core.specs.Datum.{Datum}
use Rattle.term_core.specs.Fed.{term_fed}

-- SipHash-1-3 of a seed and then of what the key is made of, of which 32 bits are taken
unfoldable pub mixed : ℕ → Datum → ℕ
mixed seed k = sip.finish (fold sip.write sip.initial (fed.u64 seed ++ term_fed k [])) % 2 ^ 32
