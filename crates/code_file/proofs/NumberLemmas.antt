-- Reading numbers and rows of bytes.
use Rattle.std.specs.Int.{w16, w32, w64, to_be_bytes, from_be_bytes, cast_unsigned, cast_signed}
use Rattle.byteorder.specs.Endian.{big_number}
use Rattle.std.proofs.Common.{◌≡◌, ℕ, ℤ, ◌<◌, ◌≤◌, ◌^◌, List, ◌++◌, length, get_or, take, drop, refl, sym, ap, ◌∙◌, arith, inl, inr}
use Rattle.std.proofs.lemmas.Nat.{be_bytes_2, be_bytes_4, be_bytes_8}
use Rattle.std.proofs.lemmas.Int.{of_z-to_z}
use Rattle.std.proofs.Math.Facts.{sfits_to_z}
use Rattle.std.proofs.lemmas.Bool.{cases_lt}
use Rattle.std.proofs.lemmas.List.{take-append-drop, length-append, length-take, get_or-take, get_or_past}
use Rattle.code_writer.specs.Spelling.{u16_bytes, u32_bytes, i64_bytes}
use Rattle.code_writer.specs.Format.{Format, Begins}
use Rattle.code_writer.specs.Formats.{u16_format, u32_format, i64_format, bytes_format}
use Rattle.code_writer.proofs.NumberLemmas.{length-i64_bytes, length-u16_bytes, length-u32_bytes}
use Rattle.code_file.specs.Reads.{IsRefuted, IsCut}
use Rattle.code_file.specs.declared.stop.FileCause.TheVariants.{Truncated}

-- ---- what is read

-- each number is a byte, by its place
abbrev pub AreBytesAt : List ℕ → Type 0
AreBytesAt bytes = (i : ℕ) → get_or bytes i 0 < 256

AreBytesAt-take : (n : ℕ) (bytes : List ℕ) → AreBytesAt bytes → AreBytesAt (take n bytes)
AreBytesAt-take n bytes h i =
    elim (cases_lt i n) [
      | inl lt ↦ rw (get_or-take n bytes i 0 lt) (h i)
      | inr le ↦ rw (get_or_past (take n bytes) i 0 (omega (arith, length-take n bytes))) (omega arith)
    ]

-- there are fewer bytes than the number has
pub too_short : {X : Type 0} (F : Format X) (n : ℕ) (bytes : List ℕ) → ((x : X) → F.Fits x → n ≤ length (F.spell x)) → length bytes < n → IsRefuted F bytes (IsCut n bytes Truncated 0)
too_short F n bytes long short = record {
  none = λ x rest h. omega (arith, long x h.fits, ap length h.parts, length-append (F.spell x) rest);
  blame = (refl, refl, short);
}

pub u16_short : (bytes : List ℕ) → length bytes < 2 → IsRefuted u16_format bytes (IsCut 2 bytes Truncated 0)
u16_short bytes short = too_short u16_format 2 bytes (λ n fits. omega (arith, length-u16_bytes n)) short

pub u32_short : (bytes : List ℕ) → length bytes < 4 → IsRefuted u32_format bytes (IsCut 4 bytes Truncated 0)
u32_short bytes short = too_short u32_format 4 bytes (λ n fits. omega (arith, length-u32_bytes n)) short

pub i64_short : (bytes : List ℕ) → length bytes < 8 → IsRefuted i64_format bytes (IsCut 8 bytes Truncated 0)
i64_short bytes short = too_short i64_format 8 bytes (λ z fits. omega (arith, length-i64_bytes z)) short

pub bytes_short : (n : ℕ) (bytes : List ℕ) → length bytes < n → IsRefuted (bytes_format n) bytes (IsCut n bytes Truncated 0)
bytes_short n bytes short = too_short (bytes_format n) n bytes (λ bs fits. omega (arith, fits)) short

pub bytes_read : (n : ℕ) (bytes front rest : List ℕ) → n ≤ length bytes → front ≡ take n bytes → rest ≡ drop n bytes → Begins (bytes_format n) bytes front rest
bytes_read n bytes front rest long front_is rest_is = record {
  fits = ap length front_is ∙ omega (arith, length-take n bytes);
  parts = rw (front_is, rest_is) (sym (take-append-drop n bytes));
}

-- the number in two bytes is the one that the standard library reads
same_2 : (bytes : List ℕ) → big_number 2 bytes ≡ from_be_bytes w16 bytes
same_2 bytes = omega arith

same_4 : (bytes : List ℕ) → big_number 4 bytes ≡ from_be_bytes w32 bytes
same_4 bytes = omega arith

same_8 : (bytes : List ℕ) → big_number 8 bytes ≡ from_be_bytes w64 bytes
same_8 bytes = omega arith

pub u16_read : (bytes front rest : List ℕ) (n : ℕ) → AreBytesAt bytes → 2 ≤ length bytes → front ≡ take 2 bytes → rest ≡ drop 2 bytes → n ≡ big_number 2 front → Begins u16_format bytes n rest
unfolding u16_bytes
u16_read bytes front rest n fits long front_is rest_is n_is =
    let front_fits : AreBytesAt front = rw front_is (AreBytesAt-take 2 bytes fits) in
    let front_long : length front ≡ 2 = ap length front_is ∙ omega (arith, length-take 2 bytes) in
    record {
      fits = omega (arith, n_is, front_fits 0, front_fits 1);
      parts = sym (take-append-drop 2 bytes) ∙ ap (λ (t : List ℕ). t ++ drop 2 bytes) (sym front_is ∙ sym (be_bytes_2 front n front_long front_fits (n_is ∙ same_2 front))) ∙ ap (λ t. to_be_bytes w16 n ++ t) (sym rest_is);
    }

pub u32_read : (bytes front rest : List ℕ) (n : ℕ) → AreBytesAt bytes → 4 ≤ length bytes → front ≡ take 4 bytes → rest ≡ drop 4 bytes → n ≡ big_number 4 front → Begins u32_format bytes n rest
unfolding u32_bytes
u32_read bytes front rest n fits long front_is rest_is n_is =
    let front_fits : AreBytesAt front = rw front_is (AreBytesAt-take 4 bytes fits) in
    let front_long : length front ≡ 4 = ap length front_is ∙ omega (arith, length-take 4 bytes) in
    record {
      fits = omega (arith, n_is, front_fits 0, front_fits 1, front_fits 2, front_fits 3);
      parts = sym (take-append-drop 4 bytes) ∙ ap (λ (t : List ℕ). t ++ drop 4 bytes) (sym front_is ∙ sym (be_bytes_4 front n front_long front_fits (n_is ∙ same_4 front))) ∙ ap (λ t. to_be_bytes w32 n ++ t) (sym rest_is);
    }

pub i64_read : (bytes front rest : List ℕ) (z : ℤ) → AreBytesAt bytes → 8 ≤ length bytes → front ≡ take 8 bytes → rest ≡ drop 8 bytes → z ≡ cast_signed w64 (big_number 8 front) → Begins i64_format bytes z rest
unfolding i64_bytes
i64_read bytes front rest z fits long front_is rest_is z_is =
    let front_fits : AreBytesAt front = rw front_is (AreBytesAt-take 8 bytes fits) in
    let front_long : length front ≡ 8 = ap length front_is ∙ omega (arith, length-take 8 bytes) in
    let n : ℕ = big_number 8 front in
    let low : n < 2 ^ 64 = omega (arith, front_fits 0, front_fits 1, front_fits 2, front_fits 3, front_fits 4, front_fits 5, front_fits 6, front_fits 7) in
    let back : cast_unsigned w64 z ≡ n = ap (cast_unsigned w64) z_is ∙ of_z-to_z w64 n low in
    record {
      fits = rw z_is (sfits_to_z {w = w64} {n = n} (record { fits = low }));
      parts = sym (take-append-drop 8 bytes) ∙ ap (λ (t : List ℕ). t ++ drop 8 bytes) (sym front_is ∙ sym (be_bytes_8 front (cast_unsigned w64 z) front_long front_fits (back ∙ same_8 front))) ∙ ap (λ t. to_be_bytes w64 (cast_unsigned w64 z) ++ t) (sym rest_is);
    }
