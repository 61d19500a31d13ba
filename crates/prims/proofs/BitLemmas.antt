-- The bits of two's complement.
use Rattle.std.proofs.Common.{◌≡◌, ℕ, suc, ◌+◌, ◌-◌, ◌%◌, ◌^◌, ◌<◌, min, max, ℤ, pos, negsuc, refl, sym, ◌∙◌, ap, arith}
use Rattle.std.specs.Prelude.{FitsSigned, bit_and, bit_or, bit_xor}
use Rattle.std.specs.Int.{w64, cast_signed, cast_unsigned, bit_at, bit_not, int_bit_and, int_bit_or, int_bit_xor}
use Rattle.std.proofs.lemmas.Int.{of_z-to_z}
use Rattle.std.proofs.lemmas.Nat.{and_le_l, or_lt, xor_lt}
use Rattle.std.proofs.lemmas.Nat.Bits.{bit_at_and, bit_at_or, bit_at_xor, bit_at_not}
use Rattle.std.proofs.Math.Facts.{sfits_to_z}
use Rattle.prims.specs.Bits.{int_bit, IsMadeOfBits}

int_bit-cast_unsigned : (z : ℤ) (k : ℕ) → FitsSigned w64 z → k < 64 → bit_at (cast_unsigned w64 z) k ≡ int_bit z k
int_bit-cast_unsigned (pos n) k fits within = refl
int_bit-cast_unsigned (negsuc n) k fits within =
    let small : n < 2 ^ 63 = fits.sfits in
    let same : 2 ^ 64 - suc n ≡ bit_not w64 n = omega arith in
    ap (λ m. bit_at m k) same ∙ bit_at_not w64 n k (omega arith) within

unsigned_small : (z : ℤ) → FitsSigned w64 z → cast_unsigned w64 z < 2 ^ 64
unsigned_small (pos n) fits = let small : n < 2 ^ 63 = fits.sfits in omega arith
unsigned_small (negsuc n) fits = let small : n < 2 ^ 63 = fits.sfits in omega arith

int_bit-cast_signed : (m k : ℕ) → m < 2 ^ 64 → k < 64 → int_bit (cast_signed w64 m) k ≡ bit_at m k
int_bit-cast_signed m k small within =
    sym (int_bit-cast_unsigned (cast_signed w64 m) k (sfits_to_z (record { fits = small })) within) ∙ ap (λ n. bit_at n k) (of_z-to_z w64 m small)

-- what holds for the bits of natural numbers holds for those of two's complements
from_naturals : (f op : ℕ → ℕ → ℕ) (x y : ℤ) → FitsSigned w64 x → FitsSigned w64 y → op (cast_unsigned w64 x) (cast_unsigned w64 y) < 2 ^ 64 → ((a b k : ℕ) → bit_at (op a b) k ≡ f (bit_at a k) (bit_at b k)) → IsMadeOfBits f x y (cast_signed w64 (op (cast_unsigned w64 x) (cast_unsigned w64 y)))
from_naturals f op x y x_fits y_fits small each k within =
    int_bit-cast_signed (op (cast_unsigned w64 x) (cast_unsigned w64 y)) k small within
    ∙ each (cast_unsigned w64 x) (cast_unsigned w64 y) k
    ∙ rw (int_bit-cast_unsigned x k x_fits within, int_bit-cast_unsigned y k y_fits within)

pub int_bit_and-bits : (x y : ℤ) → FitsSigned w64 x → FitsSigned w64 y → IsMadeOfBits (λ a b. min a b) x y (int_bit_and w64 x y)
int_bit_and-bits x y x_fits y_fits = from_naturals (λ a b. min a b) bit_and x y x_fits y_fits (omega (arith, and_le_l (cast_unsigned w64 x) (cast_unsigned w64 y), unsigned_small x x_fits)) bit_at_and

pub int_bit_or-bits : (x y : ℤ) → FitsSigned w64 x → FitsSigned w64 y → IsMadeOfBits (λ a b. max a b) x y (int_bit_or w64 x y)
int_bit_or-bits x y x_fits y_fits = from_naturals (λ a b. max a b) bit_or x y x_fits y_fits (or_lt 64 (cast_unsigned w64 x) (cast_unsigned w64 y) (unsigned_small x x_fits) (unsigned_small y y_fits)) bit_at_or

pub int_bit_xor-bits : (x y : ℤ) → FitsSigned w64 x → FitsSigned w64 y → IsMadeOfBits (λ a b. (a + b) % 2) x y (int_bit_xor w64 x y)
int_bit_xor-bits x y x_fits y_fits = from_naturals (λ a b. (a + b) % 2) bit_xor x y x_fits y_fits (xor_lt 64 (cast_unsigned w64 x) (cast_unsigned w64 y) (unsigned_small x x_fits) (unsigned_small y y_fits)) bit_at_xor
