-- Bits of integers (Erlang Reference Manual, "Expressions", "Arithmetic Expressions": band, bor, bxor).
use Rattle.std.specs.Prelude.{ℕ, ◌≡◌, ◌-◌, ◌<◌, ℤ, pos, negsuc}
use Rattle.std.specs.Int.{bit_at}

-- bit k of a two's complement: the bit of n, and the other bit for -(n + 1)
abbrev pub int_bit : ℤ → ℕ → ℕ
int_bit (pos n) k = bit_at n k
int_bit (negsuc n) k = 1 - bit_at n k

-- each of the 64 bits of z is computed from those of x and y
abbrev pub IsMadeOfBits : (ℕ → ℕ → ℕ) → ℤ → ℤ → ℤ → Type 0
IsMadeOfBits f x y z = (k : ℕ) → k < 64 → int_bit z k ≡ f (int_bit x k) (int_bit y k)
