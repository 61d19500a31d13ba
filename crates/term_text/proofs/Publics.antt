-- From characters to bytes.
use Rattle.std.proofs.Common.{◌≡◌, ◌++◌, ℕ, ◌≤◌, List, Result, Ok, refl, sym, ap, ◌∙◌, arith}
use Rattle.std.specs.Str.{IsUtf8, IsValidUpTo, chars}
use Rattle.std.proofs.lemmas.Str.{utf8_valid_len-IsValidUpTo, utf8_valid_len-IsUtf8}
use Rattle.term_core.specs.Datum.{Datum}
use Rattle.term_text.specs.Text.{Spells}
use Rattle.term_text.specs.Fault.{fault_of}
use Rattle.term_text.specs.declared.stop.Cause.TheVariants as causes
use Rattle.term_text.specs.declared.fault.TextFault.TheVariants as faults
use Rattle.term_text.specs.declared.stop.Stop.{Stop}
use Rattle.term_text.specs.declared.stop.Stop.TheVariants as stops
use Rattle.term_text.specs.TokenReading.{Fault, Fails}
use Rattle.term_text.specs.Reading.{text_at}
use Rattle.term_text.proofs.Steps.{holds_at}
use Rattle.term_text.proofs.Texts.{text_holds, text_again}

pub read_is_spelled : (bytes text : List ℕ) (ds : List Datum) → IsUtf8 bytes → text ≡ chars bytes → text_at text ≡ Ok ds → Spells bytes ds
read_is_spelled bytes text ds u c e = record { utf8 = u; sentences = rw c at (holds_at _ (text_at text) ds (text_holds text) e) }

abbrev done : List Datum → Result (List Datum) Fault
done ds = Ok ds

pub spelled_is_read : (bytes text : List ℕ) (ds es : List Datum) → text ≡ chars bytes → Spells bytes ds → text_at text ≡ Ok es → es ≡ ds
spelled_is_read bytes text ds es c h e =
    let again : done es ≡ done ds = sym e ∙ ap text_at c ∙ text_again (chars bytes) ds h.sentences in cc

pub spelled_stops : (bytes text : List ℕ) (ds : List Datum) (stop : Stop) → text ≡ chars bytes → Spells bytes ds → Fails stop (text_at text) → stop ≡ stops.Memory
spelled_stops bytes text ds stops.Memory c h f = refl
spelled_stops bytes text ds (stops.At cause left) c h f =
    let again : text_at text ≡ done ds = ap text_at c ∙ text_again (chars bytes) ds h.sentences in absurd cc

pub not_both : (bytes : List ℕ) (n : ℕ) → IsUtf8 bytes → IsValidUpTo bytes n → ⊥
not_both bytes n u v = let a = utf8_valid_len-IsUtf8 bytes u in let b = utf8_valid_len-IsValidUpTo bytes n v in let short = v.short in omega arith

pub one_end : (bytes : List ℕ) (m n : ℕ) → IsValidUpTo bytes m → IsValidUpTo bytes n → m ≡ n
one_end bytes m n h k = let a = utf8_valid_len-IsValidUpTo bytes m h in let b = utf8_valid_len-IsValidUpTo bytes n k in omega arith

pub no_bad_utf8 : (stop : Stop) (text : List ℕ) (at : ℕ) → fault_of stop text ≡ faults.BadUtf8 at → ⊥
no_bad_utf8 stops.Memory text at h = absurd cc
no_bad_utf8 (stops.At causes.TooDeep left) text at h = absurd cc
no_bad_utf8 (stops.At causes.TooLong left) text at h = absurd cc
no_bad_utf8 (stops.At causes.DuplicateKey left) text at h = absurd cc
no_bad_utf8 (stops.At causes.Syntax left) text at h = absurd cc
no_bad_utf8 (stops.At causes.IntegerRange left) text at h = absurd cc
no_bad_utf8 (stops.At causes.UnsupportedEscape left) text at h = absurd cc

pub spelled_once : (bytes : List ℕ) (ds es : List Datum) → Spells bytes ds → Spells bytes es → ds ≡ es
spelled_once bytes ds es h k =
    let again : done ds ≡ done es = sym (text_again (chars bytes) ds h.sentences) ∙ text_again (chars bytes) es k.sentences in cc
