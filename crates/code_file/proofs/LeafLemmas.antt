-- Reading binaries, lengths and texts, and what stops it.
use Rattle.std.specs.Str.{IsUtf8}
use Rattle.std.proofs.Common.{◌≡◌, ℕ, ◌<◌, ◌≤◌, ◌^◌, List, ◌++◌, length, refl, sym, ap, subst, ◌∙◌, arith}
use Rattle.std.proofs.lemmas.List.{length-append}
use Rattle.term_core.specs.Sizes.{list_limit, binary_limit}
use Rattle.code_writer.specs.Spelling.{u16_bytes}
use Rattle.code_writer.specs.Format.{Begins, BeginsNone}
use Rattle.code_writer.specs.Formats.{u16_format, u32_format, bytes_format, utf8_format, size_format, binary_format, length_format, IsListLength}
use Rattle.code_writer.proofs.NumberLemmas.{u16_free, u32_free, bytes_free, length-u16_bytes}
use Rattle.code_writer.proofs.LeafLemmas.{length_small, limited, limited_is, raw_first, raw_rest, size_free, size_small, utf8_raw}
use Rattle.code_file.specs.declared.stop.FileCause.TheVariants.{NotCanonical, Limit}
use Rattle.code_file.specs.declared.stop.FileStop.{FileStop}
use Rattle.code_file.specs.Due.{Due}
use Rattle.code_file.specs.Due.Item.{a_text_size, a_text, a_list_length, a_binary_size, so_many}
use Rattle.code_file.specs.Causes.{IsWrong}
use Rattle.code_file.specs.Reads.{Blames, IsCut, IsRefuted, IsStop}
use Rattle.code_file.proofs.StopLemmas.{stop_cut}

-- ---- bytes after their number

-- ---- numbers within limits

limited_none : (P : ℕ → Type 0) → ((n : ℕ) → P n → n < 2 ^ 32) → (bytes : List ℕ) (n : ℕ) (r : List ℕ) → Begins u32_format bytes n r → ¬ P n → BeginsNone (limited P) bytes
limited_none P small bytes n r h past m s k = past (subst P (sym (u32_free.one bytes n m r s h (limited_is P small bytes m s k)).0) k.fits)

-- ---- binaries

pub binary_short_size : (bytes : List ℕ) (stop : FileStop) → IsStop u32_format bytes (IsCut 4 bytes) stop → IsStop binary_format bytes (Blames a_binary_size bytes) stop
binary_short_size bytes stop h =
    stop_cut u32_format binary_format 4 a_binary_size a_binary_size bytes bytes stop refl
    (λ none bs s l. none (length bs) (bs ++ s) (limited_is (λ n. n ≤ binary_limit) size_small bytes (length bs) (bs ++ s) (raw_first size_format bytes bs s l))) (λ file due. due) h

pub binary_too_long : (bytes : List ℕ) (n : ℕ) (r : List ℕ) → Begins u32_format bytes n r → binary_limit < n → IsRefuted binary_format bytes (Blames a_binary_size bytes Limit (length bytes))
binary_too_long bytes n r h past = record {
  none = λ bs s l. limited_none (λ n. n ≤ binary_limit) size_small bytes n r h (λ within. omega (arith, within, past)) (length bs) (bs ++ s) (raw_first size_format bytes bs s l);
  blame = λ file due. (bytes, refl, IsWrong.many_bytes due h past);
}

pub binary_short : (bytes : List ℕ) (n : ℕ) (r : List ℕ) (stop : FileStop) → Begins u32_format bytes n r → n ≤ binary_limit → IsStop (bytes_format n) r (IsCut n r) stop → IsStop binary_format bytes (Blames a_binary_size bytes) stop
binary_short bytes n r stop h within k =
    let size : Begins size_format bytes n r = record { fits = within; parts = h.parts } in
    stop_cut (bytes_format n) binary_format n (so_many n) a_binary_size r bytes stop refl
    (λ none bs s l. none bs s (raw_rest size_format size_free bytes n r bs s size l)) (λ file due. Due.content due size) k

-- ---- the number of a list's elements

pub length_short : (bytes : List ℕ) (stop : FileStop) → IsStop u32_format bytes (IsCut 4 bytes) stop → IsStop length_format bytes (Blames a_list_length bytes) stop
length_short bytes stop h =
    stop_cut u32_format length_format 4 a_list_length a_list_length bytes bytes stop refl (λ none n s l. none n s (limited_is IsListLength length_small bytes n s l)) (λ file due. due) h

pub length_none : (bytes : List ℕ) (n : ℕ) (r : List ℕ) → Begins u32_format bytes n r → n ≡ 0 → IsRefuted length_format bytes (Blames a_list_length bytes NotCanonical (length bytes))
length_none bytes n r h is = record {
  none = limited_none IsListLength length_small bytes n r h (λ within. omega (arith, within.0, is));
  blame = λ file due. (bytes, refl, IsWrong.no_elements due (subst (λ m. Begins u32_format bytes m r) is h));
}

pub length_too_long : (bytes : List ℕ) (n : ℕ) (r : List ℕ) → Begins u32_format bytes n r → list_limit < n → IsRefuted length_format bytes (Blames a_list_length bytes Limit (length bytes))
length_too_long bytes n r h past = record {
  none = limited_none IsListLength length_small bytes n r h (λ within. omega (arith, within.1, past));
  blame = λ file due. (bytes, refl, IsWrong.many_elements due h past);
}

-- ---- texts

pub text_short_size : (bytes : List ℕ) (stop : FileStop) → IsStop u16_format bytes (IsCut 2 bytes) stop → IsStop utf8_format bytes (Blames a_text_size bytes) stop
text_short_size bytes stop h =
    stop_cut u16_format utf8_format 2 a_text_size a_text_size bytes bytes stop refl
    (λ none bs s l. none (length bs) (bs ++ s) (raw_first u16_format bytes bs s (utf8_raw bytes bs s l))) (λ file due. due) h

pub text_short : (bytes : List ℕ) (n : ℕ) (r : List ℕ) (stop : FileStop) → Begins u16_format bytes n r → IsStop (bytes_format n) r (IsCut n r) stop → IsStop utf8_format bytes (Blames a_text_size bytes) stop
text_short bytes n r stop h k =
    stop_cut (bytes_format n) utf8_format n (a_text n) a_text_size r bytes stop refl
    (λ none bs s l. none bs s (raw_rest u16_format u16_free bytes n r bs s h (utf8_raw bytes bs s l))) (λ file due. Due.text due h) k

pub text_no_utf8 : (bytes : List ℕ) (n : ℕ) (r bs s : List ℕ) → Begins u16_format bytes n r → Begins (bytes_format n) r bs s → ¬ IsUtf8 bs → IsRefuted utf8_format bytes (Blames a_text_size bytes NotCanonical (length r))
text_no_utf8 bytes n r bs s h k no_text = record {
  none = λ cs q l.
      let other = raw_rest u16_format u16_free bytes n r cs q h (utf8_raw bytes cs q l) in
      no_text (subst IsUtf8 (sym ((bytes_free n).one r bs cs s q k other).0) l.fits.1);
  blame = λ file due. (r, refl, IsWrong.no_text (Due.text due h) k no_text);
}

pub text_least : (r bs s : List ℕ) → Begins utf8_format r bs s → 2 ≤ length r
text_least r bs s h = omega (arith, ap length h.parts, length-append (u16_bytes (length bs) ++ bs) s, length-append (u16_bytes (length bs)) bs, length-u16_bytes (length bs))
