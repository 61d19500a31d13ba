-- Bytes after their number, numbers within limits and texts have one spelling, which begins no other.
use Rattle.std.specs.Str.{IsUtf8, encode_utf8_all, chars}
use Rattle.std.proofs.Common.{◌≡◌, ℕ, ◌*◌, ◌<◌, ◌≤◌, ◌^◌, Bool, true, false, ◌&&◌, List, [], ◌∷◌, ◌++◌, length, refl, ap, sym, ◌∙◌, append_assoc, arith}
use Rattle.std.proofs.Math.Utf8.{scalars, encode}
use Rattle.std.proofs.lemmas.Str.{chars-encodes, encodes-chars, length-encode, len_utf8_bounds}
use Rattle.std.proofs.lemmas.List.{length-append}
use Rattle.term_core.specs.Limits.{AreScalars}
use Rattle.term_core.specs.Sizes.{atom_limit, binary_limit}
use Rattle.code_writer.specs.Spelling.{u16_bytes, u32_bytes, text_bytes}
use Rattle.code_writer.specs.File.{IsU16}
use Rattle.code_writer.specs.Format.{Format, Begins}
use Rattle.code_writer.specs.Formats.{u16_format, u32_format, bytes_format, utf8_format, size_format, binary_format, length_format, IsListLength}
use Rattle.code_writer.proofs.FormatLemmas.{IsPrefixFree}
use Rattle.code_writer.proofs.NumberLemmas.{u16_free, u32_free, bytes_free}

-- ---- bytes after their number

abbrev pub raw : Format ℕ → Format (List ℕ)
raw N = record { spell = λ bs. N.spell (length bs) ++ bs; Fits = λ bs. N.Fits (length bs) }

pub raw_first : (N : Format ℕ) (bytes bs s : List ℕ) → Begins (raw N) bytes bs s → Begins N bytes (length bs) (bs ++ s)
raw_first N bytes bs s h = record { fits = h.fits; parts = h.parts ∙ append_assoc (N.spell (length bs)) bs s }

pub raw_rest : (N : Format ℕ) → IsPrefixFree N → (bytes : List ℕ) (n : ℕ) (r bs s : List ℕ) → Begins N bytes n r → Begins (raw N) bytes bs s → Begins (bytes_format n) r bs s
raw_rest N free bytes n r bs s h k =
    let same = free.one bytes n (length bs) r (bs ++ s) h (raw_first N bytes bs s k) in
    record { fits = sym same.0; parts = same.1 }

raw_free : (N : Format ℕ) → IsPrefixFree N → IsPrefixFree (raw N)
raw_free N free = record {
  one = λ bytes bs cs r s h k.
      let first = raw_first N bytes bs r h in
      (bytes_free (length bs)).one (bs ++ r) bs cs r s (record { fits = refl; parts = refl }) (raw_rest N free bytes (length bs) (bs ++ r) cs s first k);
}

-- ---- numbers within limits

-- the numbers of four bytes that also satisfy a condition
abbrev pub limited : (ℕ → Type 0) → Format ℕ
limited P = record { spell = u32_bytes; Fits = P }

pub limited_is : (P : ℕ → Type 0) → ((n : ℕ) → P n → n < 2 ^ 32) → (bytes : List ℕ) (n : ℕ) (r : List ℕ) → Begins (limited P) bytes n r → Begins u32_format bytes n r
limited_is P small bytes n r h = record { fits = small n h.fits; parts = h.parts }

limited_free : (P : ℕ → Type 0) → ((n : ℕ) → P n → n < 2 ^ 32) → IsPrefixFree (limited P)
limited_free P small = record { one = λ bytes m n r s h k. u32_free.one bytes m n r s (limited_is P small bytes m r h) (limited_is P small bytes n s k) }

pub size_small : (n : ℕ) → n ≤ binary_limit → n < 2 ^ 32
size_small n h = omega arith

pub length_small : (n : ℕ) → IsListLength n → n < 2 ^ 32
length_small n h = omega (arith, h.1)

pub size_free : IsPrefixFree size_format
size_free = limited_free (λ n. n ≤ binary_limit) size_small

pub length_free : IsPrefixFree length_format
length_free = limited_free IsListLength length_small

-- ---- binaries

pub binary_free : IsPrefixFree binary_format
binary_free = raw_free size_format size_free

-- ---- texts

pub utf8_raw : (bytes bs s : List ℕ) → Begins utf8_format bytes bs s → Begins (raw u16_format) bytes bs s
utf8_raw bytes bs s h = record { fits = h.fits.0; parts = h.parts }

pub utf8_free : IsPrefixFree utf8_format
utf8_free = record { one = λ bytes bs cs r s h k. (raw_free u16_format u16_free).one bytes bs cs r s (utf8_raw bytes bs r h) (utf8_raw bytes cs s k) }

-- two tests that are both true
so_both : (a b : Bool) → a ≡ true → b ≡ true → (a && b) ≡ true
so_both true b h k = k
so_both false b h k = h

pub scalars_of : (cs : List ℕ) → AreScalars cs → scalars cs ≡ true
scalars_of [] h = refl
scalars_of (c ∷ cs) h = so_both _ (scalars cs) h.0 (scalars_of cs h.1)

pub text_IsUtf8 : (cs : List ℕ) → AreScalars cs → IsUtf8 (encode_utf8_all cs)
text_IsUtf8 cs h = (cs, (scalars_of cs h, refl))

pub chars_of_text : (cs : List ℕ) → AreScalars cs → chars (encode_utf8_all cs) ≡ cs
chars_of_text cs h = chars-encodes cs (scalars_of cs h)

pub text_length : (cs : List ℕ) → length (encode_utf8_all cs) ≤ 4 * length cs
text_length [] = omega arith
text_length (c ∷ cs) = omega (arith, length-append (encode c) (encode_utf8_all cs), length-encode c, (len_utf8_bounds c).1, text_length cs)

pub text_fits : (cs : List ℕ) → length cs ≤ atom_limit → IsU16 (length (encode_utf8_all cs))
text_fits cs short = omega (arith, text_length cs)

-- the bytes of a text, by its characters
pub text_bytes_are : (bs : List ℕ) → IsUtf8 bs → text_bytes (chars bs) ≡ u16_bytes (length bs) ++ bs
text_bytes_are bs utf8 = ap (λ (t : List ℕ). u16_bytes (length t) ++ t) (encodes-chars bs utf8)

pub text_bytes_fit : (bs : List ℕ) → IsUtf8 bs → length (chars bs) ≤ atom_limit → length bs < 2 ^ 16
text_bytes_fit bs utf8 short = omega (arith, text_fits (chars bs) short, ap length (encodes-chars bs utf8))
