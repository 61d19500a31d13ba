-- Integers that fit 64 bits, and the results of calls that return them.
use Rattle.std.proofs.Common.{◌≡◌, ◌^◌, ◌<◌, ◌≤◌, ℤ, pos, negsuc, sym, ◌∙◌, ap, arith, Some, None, Result, Ok, Err, unsigned_abs}
use Rattle.std.specs.Prelude.{FitsSigned, OkIff}
use Rattle.std.specs.Result.{result_ok}
use Rattle.std.specs.Int.{w64}
use Rattle.std.proofs.lemmas.Bool.Decides.{nat_tests}
use Rattle.prims.specs.Fitting.{fitting}

pub fitting_within : (z : ℤ) → FitsSigned w64 z → fitting z ≡ Some z
fitting_within (pos n) fits = let small : n < 2 ^ 63 = fits.sfits in grind (arith, nat_tests)
fitting_within (negsuc n) fits = let small : n < 2 ^ 63 = fits.sfits in grind (arith, nat_tests)

pub fitting_outside : (z : ℤ) → ¬ FitsSigned w64 z → fitting z ≡ None
fitting_outside (pos n) out =
    let large : ¬ (n < 2 ^ 63) = λ h. out (record { sfits = h }) in grind (arith, nat_tests)
fitting_outside (negsuc n) out =
    let large : ¬ (n < 2 ^ 63) = λ h. out (record { sfits = h }) in grind (arith, nat_tests)

pub fitting-result_ok : {E : Type 0} (r : Result ℤ E) (z : ℤ) → OkIff r (FitsSigned w64 z) z → result_ok r ≡ fitting z
fitting-result_ok (Ok x) z h = ap Some h.1 ∙ sym (fitting_within z h.0)
fitting-result_ok (Err e) z h = sym (fitting_outside z h)

-- a number beyond 2 ^ 63 in either direction is outside 64 bits
pub large_outside : (z : ℤ) → 2 ^ 63 < unsigned_abs z → ¬ FitsSigned w64 z
large_outside (pos n) large fits = let small : n < 2 ^ 63 = fits.sfits in omega arith
large_outside (negsuc n) large fits = let small : n < 2 ^ 63 = fits.sfits in omega arith

pub within_abs : (z : ℤ) → FitsSigned w64 z → unsigned_abs z ≤ 2 ^ 63
within_abs (pos n) fits = let small : n < 2 ^ 63 = fits.sfits in omega arith
within_abs (negsuc n) fits = let small : n < 2 ^ 63 = fits.sfits in omega arith
