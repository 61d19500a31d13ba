-- A stop in a part is a stop in the whole, if the part is due in it.
use Rattle.std.proofs.Common.{◌≡◌, ℕ, List, [], ◌++◌, length, refl, sym, ap, subst, arith}
use Rattle.std.proofs.lemmas.List.{length-append}
use Rattle.code_writer.specs.Format.{Format, Begins, BeginsNone, both, through, such}
use Rattle.code_writer.specs.Formats.{u16_format}
use Rattle.code_writer.proofs.FormatLemmas.{IsPrefixFree, both_first, both_rest}
use Rattle.code_writer.proofs.NumberLemmas.{u16_free, length-u16_bytes}
use Rattle.code_file.specs.declared.stop.FileCause.{FileCause}
use Rattle.code_file.specs.declared.stop.FileStop.{FileStop}
use Rattle.code_file.specs.declared.stop.FileStop.TheVariants as stops
use Rattle.code_file.specs.Due.{Item, Due}
use Rattle.code_file.specs.Causes.{IsWrong, width}
use Rattle.code_file.specs.Reads.{Blames, IsCut, IsRefuted, IsStop}

-- if the part is not spelled, the whole is not
pub stop_none : {X Y : Type 0} (F : Format X) (G : Format Y) (r bytes : List ℕ) (blames : FileCause → ℕ → Type 0) (stop : FileStop)
    → (BeginsNone F r → BeginsNone G bytes) → IsStop F r blames stop → IsStop G bytes blames stop
stop_none F G r bytes blames stops.Memory none h = tt
stop_none F G r bytes blames (stops.At cause left) none h = record { none = none h.none; blame = h.blame }

-- a part is due where it begins in a whole that is due
pub stop_due : {X Y : Type 0} (F : Format X) (G : Format Y) (i j : Item) (r bytes : List ℕ) (stop : FileStop)
    → (BeginsNone F r → BeginsNone G bytes) → ((file : List ℕ) → Due file j bytes → Due file i r) → IsStop F r (Blames i r) stop → IsStop G bytes (Blames j bytes) stop
stop_due F G i j r bytes stops.Memory none step h = tt
stop_due F G i j r bytes (stops.At cause left) none step h = record { none = none h.none; blame = λ file due. h.blame file (step file due) }

cut_blames : (n : ℕ) (i : Item) (r : List ℕ) (cause : FileCause) (left : ℕ) → width i ≡ n → IsCut n r cause left → Blames i r cause left
cut_blames n i r cause left is cut file due =
    ([], cut.1, subst (λ c. IsWrong file c []) (sym cut.0) (IsWrong.cut_off due (omega (arith, cut.2, is))))

-- a part whose bytes are cut off is due where it begins in a whole that is due
pub stop_cut : {X Y : Type 0} (F : Format X) (G : Format Y) (n : ℕ) (i j : Item) (r bytes : List ℕ) (stop : FileStop) → width i ≡ n
    → (BeginsNone F r → BeginsNone G bytes) → ((file : List ℕ) → Due file j bytes → Due file i r) → IsStop F r (IsCut n r) stop → IsStop G bytes (Blames j bytes) stop
stop_cut F G n i j r bytes stops.Memory is none step h = tt
stop_cut F G n i j r bytes (stops.At cause left) is none step h = record { none = none h.none; blame = λ file due. cut_blames n i r cause left is h.blame file (step file due) }

-- ---- pairs, values mapped by a function, numbers with a limit

pub both_first_stop : {X Y : Type 0} (F : Format X) (G : Format Y) (i j : Item) (bytes : List ℕ) (stop : FileStop) → ((file : List ℕ) → Due file j bytes → Due file i bytes) → IsStop F bytes (Blames i bytes) stop → IsStop (both F G) bytes (Blames j bytes) stop
both_first_stop F G i j bytes stop step h =
    stop_due F (both F G) i j bytes bytes stop (λ none p s k. none p.0 (G.spell p.1 ++ s) (both_first F G bytes p s k)) step h

pub both_rest_stop : {X Y : Type 0} (F : Format X) (G : Format Y) (i j : Item) (bytes : List ℕ) (x : X) (r : List ℕ) (stop : FileStop) → IsPrefixFree F → Begins F bytes x r → ((file : List ℕ) → Due file j bytes → Due file i r) → IsStop G r (Blames i r) stop → IsStop (both F G) bytes (Blames j bytes) stop
both_rest_stop F G i j bytes x r stop free h step k =
    stop_due G (both F G) i j r bytes stop (λ none p s l. none p.1 s (both_rest F G free bytes x r p s h l).1) step k

pub through_stop : {X Y : Type 0} (f : X → Y) (F : Format Y) (bytes : List ℕ) (blames : FileCause → ℕ → Type 0) (stop : FileStop) → IsStop F bytes blames stop → IsStop (through f F) bytes blames stop
through_stop f F bytes blames stop h =
    stop_none F (through f F) bytes bytes blames stop (λ none x s k. none (f x) s (record { fits = k.fits; parts = k.parts })) h

pub limit_short : (P : ℕ → Type 0) (i : Item) (bytes : List ℕ) (stop : FileStop) → width i ≡ 2 → IsStop u16_format bytes (IsCut 2 bytes) stop → IsStop (such u16_format P) bytes (Blames i bytes) stop
limit_short P i bytes stop is h =
    stop_cut u16_format (such u16_format P) 2 i i bytes bytes stop is (λ none n s k. none n s (record { fits = k.fits.0; parts = k.parts })) (λ file due. due) h

pub limit_past : (P : ℕ → Type 0) (i : Item) (bytes : List ℕ) (n : ℕ) (r : List ℕ) (cause : FileCause) → Begins u16_format bytes n r → ¬ P n → ((file : List ℕ) → Due file i bytes → IsWrong file cause bytes) → IsRefuted (such u16_format P) bytes (Blames i bytes cause (length bytes))
limit_past P i bytes n r cause h other wrong = record {
  none = λ m s k.
      other (subst P (sym (u16_free.one bytes n m r s h (record { fits = k.fits.0; parts = k.parts })).0) k.fits.1);
  blame = λ file due. (bytes, refl, wrong file due);
}

-- ---- two numbers

pub two_second : (bytes : List ℕ) (n : ℕ) (r : List ℕ) (stop : FileStop) → Begins u16_format bytes n r → IsStop u16_format r (IsCut 2 r) stop → IsStop (both u16_format u16_format) bytes (IsCut 4 bytes) stop
two_second bytes n r stops.Memory begun h = tt
two_second bytes n r (stops.At cause left) begun h = record {
  none = λ p s k. h.none p.1 s (both_rest u16_format u16_format u16_free bytes n r p s begun k).1;
  blame = (h.blame.0, h.blame.1, omega (arith, h.blame.2, ap length begun.parts, length-append (u16_format.spell n) r, length-u16_bytes n));
}
