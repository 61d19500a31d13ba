-- Shifts (Erlang Reference Manual, "Expressions", "Arithmetic Expressions").
use Rattle.std.specs.Prelude.{ℕ, suc, ◌^◌, ◌/◌, ℤ, pos, negsuc, ◌*ℤ◌, Option, Some}
use Rattle.prims.specs.Fitting.{fitting}

-- x times 2 to the power n, None if that is outside 64 bits
abbrev pub times_power : ℤ → ℕ → Option ℤ
times_power x n = fitting (x *ℤ pos (2 ^ n))

-- x divided by 2 to the power n, rounded down
abbrev pub over_power : ℤ → ℕ → ℤ
over_power (pos a) n = pos (a / 2 ^ n)
over_power (negsuc a) n = negsuc (a / 2 ^ n)

-- bsl and bsr; a shift by a negative number goes the other way
abbrev pub shift_left : ℤ → ℤ → Option ℤ
shift_left x (pos n) = times_power x n
shift_left x (negsuc n) = Some (over_power x (suc n))

abbrev pub shift_right : ℤ → ℤ → Option ℤ
shift_right x (pos n) = Some (over_power x n)
shift_right x (negsuc n) = times_power x (suc n)
