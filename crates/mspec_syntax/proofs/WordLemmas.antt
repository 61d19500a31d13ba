-- Numbers in digits.
use Rattle.std.proofs.Common.{◌≡◌, ℕ, suc, ◌+◌, ◌-◌, ◌*◌, ◌^◌, ◌<◌, ◌≤◌, Bool, true, false, ◌&&◌, List, [], ◌∷◌, length, drop, get_or, refl, sym, ◌∙◌, ap, arith, drop-cons, lit<}
use Rattle.std.specs.List.{list_all}
use Rattle.std.specs.Char.{is_ascii_digit, digit_value}
use Rattle.std.specs.Str.Parse.{digits_value, digits_value_after, AllDigits}
use Rattle.std.proofs.lemmas.Str.{digit_value_digit}
use Rattle.std.proofs.lemmas.Int.Digits.{digits_value-lt}
use Rattle.std.proofs.lemmas.Bool.Decides.{nat_tests}
use Rattle.std.proofs.Math.Nat.{pow-le-pow_right}

-- a number does not shrink with more digits
digits_value_after-ge : (n : ℕ) (ds : List ℕ) → n ≤ digits_value_after 10 n ds
digits_value_after-ge n [] = omega arith
digits_value_after-ge n (d ∷ ds) = omega (arith, digits_value_after-ge (n * 10 + digit_value d) ds)

and_parts : (a b : Bool) → (a && b) ≡ true → (a ≡ true) × (b ≡ true)
and_parts true b h = (refl, h)
and_parts false b h = cc

-- the code of a digit is from 48 to 57
digit_range : (d : ℕ) → is_ascii_digit d ≡ true → (48 ≤ d) × (d ≤ 57)
digit_range d h = (grind (arith, nat_tests), grind (arith, nat_tests))

digit_value-is : (d : ℕ) → is_ascii_digit d ≡ true → digit_value d + 48 ≡ d
digit_value-is d h = let r = digit_range d h in digit_value_digit d r

all_digits : (ds : List ℕ) → list_all is_ascii_digit ds ≡ true → AllDigits 10 ds
all_digits [] h = tt
all_digits (d ∷ ds) h =
    let p = and_parts (is_ascii_digit d) (list_all is_ascii_digit ds) h in
    let r = digit_range d p.0 in
    (omega (arith, digit_value-is d p.0), all_digits ds p.1)

-- a number of at most eight digits is below 100,000,000
digits_value-fits : (ds : List ℕ) → list_all is_ascii_digit ds ≡ true → length ds ≤ 8 → digits_value 10 ds < 100000000
digits_value-fits ds h short =
    let bound : 10 ^ length ds ≤ 10 ^ 8 = pow-le-pow_right {n = 10} (lit< tt) short in
    omega (arith, bound, digits_value-lt 10 ds (all_digits ds h))

-- the next digit, and that the number after it is at most the whole number
pub next-fits : (n i : ℕ) (ds : List ℕ) → i < length ds → digits_value_after 10 n (drop i ds) ≡ digits_value 10 ds → list_all is_ascii_digit (drop i ds) ≡ true → list_all is_ascii_digit ds ≡ true → length ds ≤ 8 → (48 ≤ get_or ds i 0) × (n * 10 + (get_or ds i 0 - 48) < 100000000)
next-fits n i ds within value left all short =
    let split : drop i ds ≡ get_or ds i 0 ∷ drop (suc i) ds = drop-cons ds i 0 within in
    let digits = rw split at left in
    let whole = rw split at value in
    let p = and_parts (is_ascii_digit (get_or ds i 0)) (list_all is_ascii_digit (drop (suc i) ds)) digits in
    let d = digit_value-is (get_or ds i 0) p.0 in
    (omega (arith, d), omega (arith, d, digits_value_after-ge (n * 10 + digit_value (get_or ds i 0)) (drop (suc i) ds), digits_value-fits ds all short))
