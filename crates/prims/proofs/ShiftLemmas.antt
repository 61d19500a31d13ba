-- Shifts by any number of places.
use Rattle.std.proofs.Common.{◌≡◌, ℕ, zero, suc, ◌*◌, ◌/◌, ◌%◌, ◌^◌, ◌<◌, ◌≤◌, ℤ, pos, negsuc, ◌*ℤ◌, refl, sym, ap, arith, unsigned_abs, int_lt, true, false, lit<}
use Rattle.std.specs.Prelude.{FitsSigned}
use Rattle.std.specs.Int.{w64, w128, cast_signed, cast_unsigned}
use Rattle.std.proofs.lemmas.Int.{to_z-of_z, fits_signed_from_abs, fits_signed_mul, unsigned_abs-mul}
use Rattle.std.proofs.lemmas.Bool.Decides.{nat_tests}
use Rattle.std.proofs.Math.Nat.{div-eq_of_lt, mul-le-mul, one-mul, mod-eq_of_lt}
use Rattle.std.proofs.Math.Pow.{pow_mono}
use Rattle.prims.specs.Shifts.{over_power}
use Rattle.prims.proofs.FittingLemmas.{within_abs, large_outside}

power_past : (n : ℕ) → 64 ≤ n → 2 ^ 64 ≤ 2 ^ n
power_past n past = pow_mono past

-- a shift by 64 or more places leaves only the sign
past_zero : (a n : ℕ) → a < 2 ^ 63 → 64 ≤ n → a / 2 ^ n ≡ 0
past_zero a n small past =
    let power : 2 ^ 64 ≤ 2 ^ n = power_past n past in div-eq_of_lt {n = a} {m = 2 ^ n} (omega arith)

pub over_power_negative : (z : ℤ) (n : ℕ) → FitsSigned w64 z → 64 ≤ n → int_lt z (pos 0) ≡ true → negsuc 0 ≡ over_power z n
over_power_negative (pos a) n fits past below = grind (arith, nat_tests)
over_power_negative (negsuc a) n fits past below = ap negsuc (sym (past_zero a n fits.sfits past))

pub over_power_positive : (z : ℤ) (n : ℕ) → FitsSigned w64 z → 64 ≤ n → int_lt z (pos 0) ≡ false → pos 0 ≡ over_power z n
over_power_positive (pos a) n fits past above = ap pos (sym (past_zero a n fits.sfits past))
over_power_positive (negsuc a) n fits past above = cc

nonzero_abs : (z : ℤ) → ¬ (cast_unsigned w64 z ≡ 0) → 1 ≤ unsigned_abs z
nonzero_abs (pos zero) nonzero = absurd (nonzero refl)
nonzero_abs (pos (suc n)) nonzero = omega arith
nonzero_abs (negsuc n) nonzero = omega arith

-- a product of more than 64 bits does not fit
pub shifted_out : (z : ℤ) (n : ℕ) → ¬ (cast_unsigned w64 z ≡ 0) → 63 < n → ¬ FitsSigned w64 (z *ℤ pos (2 ^ n))
shifted_out z n nonzero past =
    let power : 2 ^ 64 ≤ 2 ^ n = power_past n (omega arith) in
    let product : 1 * 2 ^ n ≤ unsigned_abs z * 2 ^ n = mul-le-mul (nonzero_abs z nonzero) (omega arith) in
    large_outside (z *ℤ pos (2 ^ n)) (rw (unsigned_abs-mul z (pos (2 ^ n))) (omega arith))

-- the product of a number and a power of 2, as computed with 128 bits
pub wide_product : (x y z : ℤ) (n : ℕ) → x ≡ z → y ≡ pos (2 ^ n) → FitsSigned w64 z → n ≤ 63 → cast_signed w128 (cast_unsigned w128 (cast_signed w128 (cast_unsigned w128 x) *ℤ cast_signed w128 (cast_unsigned w128 y))) ≡ z *ℤ pos (2 ^ n)
wide_product x y z n x_is y_is fits short =
    let power : 2 ^ n ≤ 2 ^ 63 = pow_mono short in
    let abs : unsigned_abs z ≤ 2 ^ 63 = within_abs z fits in
    let left : FitsSigned w128 z = fits_signed_from_abs w128 z (omega arith) in
    let right : FitsSigned w128 (pos (2 ^ n)) = fits_signed_from_abs w128 (pos (2 ^ n)) (omega arith) in
    let whole : FitsSigned w128 (z *ℤ pos (2 ^ n)) = fits_signed_mul w128 z (pos (2 ^ n)) (2 ^ 63) (2 ^ 63) abs power (lit< tt) in
    rw (x_is, y_is, to_z-of_z w128 z left, to_z-of_z w128 (pos (2 ^ n)) right) (to_z-of_z w128 (z *ℤ pos (2 ^ n)) whole)

-- a power of 2 below 2 ^ 64, as computed with 64 bits
pub power_is : (n : ℕ) → n ≤ 63 → (1 * 2 ^ n) % 2 ^ 64 ≡ 2 ^ n
power_is n short =
    let power : 2 ^ n ≤ 2 ^ 63 = pow_mono short in
    rw (one-mul (2 ^ n)) (mod-eq_of_lt (omega arith))
