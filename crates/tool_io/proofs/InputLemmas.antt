-- How long an input is at most after a number of reads.
use Rattle.std.proofs.Common.{◌≡◌, ℕ, ◌+◌, ◌-◌, ◌*◌, ◌<◌, ◌≤◌, arith}
use Rattle.std.proofs.Math.Nat.{mul-le-mul_left}

-- the bound for fewer reads than the limit
pub reads-within : (size reads limit length : ℕ) → reads < limit → length ≤ size * reads → length ≤ size * (limit - 1)
reads-within size reads limit length below bounded =
    let few : size * reads ≤ size * (limit - 1) = mul-le-mul_left size (omega arith) in
    omega arith
