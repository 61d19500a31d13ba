-- Numbers have one spelling, which begins no other.
use Rattle.std.specs.Prelude.{FitsSigned}
use Rattle.std.specs.Int.{w64, cast_unsigned, cast_signed}
use Rattle.byteorder.specs.Endian.{big_number}
use Rattle.byteorder.specs.Numbers.{big_number-reads_back, length-bytes_high_first}
use Rattle.std.proofs.Common.{◌≡◌, ℕ, ℤ, ◌<◌, ◌^◌, List, [], length, get_or, take, drop, sym, ap, ◌∙◌, arith}
use Rattle.std.proofs.lemmas.Int.{to_z-of_z}
use Rattle.std.proofs.Math.Facts.{Fits-of_z}
use Rattle.std.proofs.lemmas.List.{take_at, drop_at}
use Rattle.code_writer.specs.Spelling.{u16_bytes, u32_bytes, i64_bytes}
use Rattle.code_writer.specs.Format.{Format}
use Rattle.code_writer.specs.Formats.{u8_format, u16_format, u32_format, i64_format, bytes_format}
use Rattle.code_writer.proofs.FormatLemmas.{IsPrefixFree}

-- spellings of equal length, from which the value can be read back
fixed : {X : Type 0} (F : Format X) (n : ℕ) (read : List ℕ → X) → ((x : X) → length (F.spell x) ≡ n) → ((x : X) → F.Fits x → read (F.spell x) ≡ x) → IsPrefixFree F
fixed F n read long back = record {
  one = λ bytes x y r s h k.
      let same = sym h.parts ∙ k.parts in
      let front = sym (take_at (F.spell x) r n (long x)) ∙ ap (take n) same ∙ take_at (F.spell y) s n (long y) in
      let behind = sym (drop_at (F.spell x) r n (long x)) ∙ ap (drop n) same ∙ drop_at (F.spell y) s n (long y) in
      (sym (back x h.fits) ∙ ap read front ∙ back y k.fits, behind);
}

pub length-u16_bytes : (n : ℕ) → length (u16_bytes n) ≡ 2
unfolding u16_bytes
length-u16_bytes n = length-bytes_high_first 2 n

pub length-u32_bytes : (n : ℕ) → length (u32_bytes n) ≡ 4
unfolding u32_bytes
length-u32_bytes n = length-bytes_high_first 4 n

pub length-i64_bytes : (z : ℤ) → length (i64_bytes z) ≡ 8
unfolding i64_bytes
length-i64_bytes z = length-bytes_high_first 8 (cast_unsigned w64 z)

u16_back : (n : ℕ) → n < 2 ^ 16 → big_number 2 (u16_bytes n) ≡ n
unfolding u16_bytes
u16_back n fits = big_number-reads_back 2 n [] fits

u32_back : (n : ℕ) → n < 2 ^ 32 → big_number 4 (u32_bytes n) ≡ n
unfolding u32_bytes
u32_back n fits = big_number-reads_back 4 n [] fits

i64_back : (z : ℤ) → FitsSigned w64 z → cast_signed w64 (big_number 8 (i64_bytes z)) ≡ z
unfolding i64_bytes
i64_back z fits = ap (cast_signed w64) (big_number-reads_back 8 (cast_unsigned w64 z) [] (omega (arith, Fits-of_z {w = w64} {z = z} fits))) ∙ to_z-of_z w64 z fits

pub u8_free : IsPrefixFree u8_format
u8_free = record { one = λ bytes x y r s h k. (ap (λ bs. get_or bs 0 0) (sym h.parts ∙ k.parts), ap (drop 1) (sym h.parts ∙ k.parts)) }

pub u16_free : IsPrefixFree u16_format
u16_free = fixed u16_format 2 (big_number 2) length-u16_bytes u16_back

pub u32_free : IsPrefixFree u32_format
u32_free = fixed u32_format 4 (big_number 4) length-u32_bytes u32_back

pub i64_free : IsPrefixFree i64_format
i64_free = fixed i64_format 8 (λ bs. cast_signed w64 (big_number 8 bs)) length-i64_bytes i64_back

pub bytes_free : (n : ℕ) → IsPrefixFree (bytes_format n)
bytes_free n = record {
  one = λ bytes xs ys r s h k.
      let same = sym h.parts ∙ k.parts in
      (sym (take_at xs r n h.fits) ∙ ap (take n) same ∙ take_at ys s n k.fits, sym (drop_at xs r n h.fits) ∙ ap (drop n) same ∙ drop_at ys s n k.fits);
}
