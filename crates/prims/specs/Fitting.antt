-- Integers have 64 bits.
use Rattle.std.specs.Prelude.{◌^◌, ℤ, pos, negsuc, if◌then◌else◌, nat_lt, Option, Some, None}

-- the number, None if it is below -2 ^ 63 or above 2 ^ 63 - 1
abbrev pub fitting : ℤ → Option ℤ
fitting (pos n) = if nat_lt n (2 ^ 63) then Some (pos n) else None
fitting (negsuc n) = if nat_lt n (2 ^ 63) then Some (negsuc n) else None
