-- Rows that a loop reads, one value after the other.
use Rattle.std.specs.List.{flat_map, AllByRecursion}
use Rattle.std.specs.Prelude.{IsTrue}
use Rattle.std.proofs.Common.{◌≡◌, ℕ, ◌<◌, List, [], ◌∷◌, ◌++◌, length, refl, sym, ap, subst, ◌∙◌, append_assoc, arith, ◌+◌, true, false}
use Rattle.std.proofs.lemmas.List.{append-nil, length-append}
use Rattle.std.proofs.lemmas.List.Concat.{flat_map-append}
use Rattle.code_writer.specs.Format.{Format, Begins, BeginsNone, rows, counted, such}
use Rattle.code_writer.proofs.FormatLemmas.{IsPrefixFree, rows_go_on, counted_first, counted_rest, counted_begins}
use Rattle.code_writer.specs.Formats.{u16_format}
use Rattle.code_writer.proofs.NumberLemmas.{u16_free}
use Rattle.code_file.specs.declared.stop.FileStop.{FileStop}
use Rattle.code_file.specs.Due.{Item, Row, Due}
use Rattle.code_file.specs.Due.Item.{a_count, many}
use Rattle.code_file.specs.Reads.{Blames, IsCut, IsStop}
use Rattle.code_file.proofs.StopLemmas.{stop_due, stop_cut}

-- ---- one more

pub all_more : {X : Type 0} (P : X → Type 0) (xs : List X) (y : X) → AllByRecursion P xs → P y → AllByRecursion P (xs ++ y ∷ [])
all_more P [] y each one = (one, tt)
all_more P (x ∷ xs) y each one = (each.0, all_more P xs y each.1 one)

pub row_more : {X : Type 0} (F : Format X) (bytes : List ℕ) (xs : List X) (rest : List ℕ) (y : X) (r : List ℕ)
    → bytes ≡ flat_map F.spell xs ++ rest → rest ≡ F.spell y ++ r → bytes ≡ flat_map F.spell (xs ++ y ∷ []) ++ r
row_more F bytes xs rest y r so_far next =
    so_far ∙ ap (λ (t : List ℕ). flat_map F.spell xs ++ t) next ∙ sym (append_assoc (flat_map F.spell xs) (F.spell y) r)
    ∙ ap (λ (t : List ℕ). t ++ r) (ap (λ (t : List ℕ). flat_map F.spell xs ++ t) (sym (append-nil (F.spell y))) ∙ sym (flat_map-append F.spell xs (y ∷ [])))

-- ---- a row with a property that its beginnings have too

pub such_rows_none : {X : Type 0} (F : Format X) (P : List X → Type 0) → IsPrefixFree F → ((xs : List X) (z : X) (zs : List X) → P (xs ++ z ∷ zs) → P (xs ++ z ∷ []))
    → (n : ℕ) (bytes : List ℕ) (xs : List X) (rest : List ℕ) → bytes ≡ flat_map F.spell xs ++ rest → AllByRecursion F.Fits xs → length xs < n
    → BeginsNone (such F (λ y. P (xs ++ y ∷ []))) rest → BeginsNone (such (rows F n) P) bytes
such_rows_none {X} F P free closed n bytes xs rest so_far each fewer none ys s h =
    let long : length ys ≡ n = h.fits.0.0 in
    let more = rows_go_on F free xs rest ys s each h.fits.0.1 (omega arith) (sym so_far ∙ h.parts) in
    go more.0 more.1 more.2 more.3
  where
    go : (zs : List X) → ys ≡ xs ++ zs → AllByRecursion F.Fits zs → rest ≡ flat_map F.spell zs ++ s → ⊥
    go [] is fits behind = let long : length ys ≡ n = h.fits.0.0 in omega (arith, ap length is, ap length (append-nil xs))
    go (z ∷ zs) is fits behind = none z (flat_map F.spell zs ++ s) (record {
      fits = (fits.0, closed xs z zs (subst P is h.fits.1));
      parts = behind ∙ append_assoc (F.spell z) (flat_map F.spell zs) s;
    })

-- a row whose next value is not spelled is not spelled
pub rows_none : {X : Type 0} (F : Format X) → IsPrefixFree F → (n : ℕ) (bytes : List ℕ) (xs : List X) (rest : List ℕ) → bytes ≡ flat_map F.spell xs ++ rest → AllByRecursion F.Fits xs → length xs < n
    → BeginsNone F rest → BeginsNone (rows F n) bytes
rows_none F free n bytes xs rest so_far each fewer none ys s k =
    such_rows_none F (λ _. Unit {0}) free (λ _ _ _ _. tt) n bytes xs rest so_far each fewer (λ y r l. none y r (record { fits = l.fits.0; parts = l.parts })) ys s
    (record { fits = (k.fits, tt); parts = k.parts })

-- ---- rows after their number

pub such_counted_begins : {X : Type 0} (N : Format ℕ) (F : Format X) (P : List X → Type 0) (bytes : List ℕ) (n : ℕ) (r : List ℕ) (xs : List X) (s : List ℕ)
    → Begins N bytes n r → Begins (such (rows F n) P) r xs s → Begins (such (counted N F) P) bytes xs s
such_counted_begins N F P bytes n r xs s h k =
    let begun = counted_begins N F bytes n r xs s h (record { fits = k.fits.0; parts = k.parts }) in
    record { fits = (begun.fits, k.fits.1); parts = begun.parts }

pub such_counted_short : {X : Type 0} (F : Format X) (P : List X → Type 0) (row : Row) (bytes : List ℕ) (stop : FileStop)
    → IsStop u16_format bytes (IsCut 2 bytes) stop → IsStop (such (counted u16_format F) P) bytes (Blames (a_count row) bytes) stop
such_counted_short F P row bytes stop h =
    stop_cut u16_format (such (counted u16_format F) P) 2 (a_count row) (a_count row) bytes bytes stop refl
    (λ none xs s k. none (length xs) (flat_map F.spell xs ++ s) (counted_first u16_format F bytes xs s (record { fits = k.fits.0; parts = k.parts }))) (λ file due. due) h

pub such_counted_none : {X : Type 0} (N : Format ℕ) (F : Format X) (P : List X → Type 0) → IsPrefixFree N → (bytes : List ℕ) (n : ℕ) (r : List ℕ)
    → Begins N bytes n r → BeginsNone (such (rows F n) P) r → BeginsNone (such (counted N F) P) bytes
such_counted_none N F P free bytes n r h none xs s k =
    let rest = counted_rest N F free bytes n r xs s h (record { fits = k.fits.0; parts = k.parts }) in
    none xs s (record { fits = (rest.fits, k.fits.1); parts = rest.parts })

pub such_counted_stop : {X : Type 0} (F : Format X) (P : List X → Type 0) (row : Row) (bytes : List ℕ) (n : ℕ) (r : List ℕ) (stop : FileStop)
    → Begins u16_format bytes n r → IsStop (such (rows F n) P) r (Blames (many row n) r) stop → IsStop (such (counted u16_format F) P) bytes (Blames (a_count row) bytes) stop
such_counted_stop F P row bytes n r stop h k =
    stop_due (such (rows F n) P) (such (counted u16_format F) P) (many row n) (a_count row) r bytes stop (such_counted_none u16_format F P u16_free bytes n r h) (λ file due. Due.behind_count due h) k

-- ---- what a loop knows

pub record IsRowSoFar {X : Type 0} (F : Format X) (P : List X → Type 0) (bytes : List ℕ) (xs : List X) (rest : List ℕ) (n : ℕ) : Type 0 where
  pub parts : bytes ≡ flat_map F.spell xs ++ rest
  pub each : AllByRecursion F.Fits xs
  pub count : length xs ≡ n
  pub so : P xs

pub row_start : {X : Type 0} (F : Format X) (P : List X → Type 0) (bytes : List ℕ) → P [] → IsRowSoFar F P bytes [] bytes 0
row_start F P bytes so = record { parts = refl; each = tt; count = refl; so = so }

pub row_step : {X : Type 0} (F : Format X) (P : List X → Type 0) (bytes : List ℕ) (xs : List X) (rest : List ℕ) (n : ℕ) (y : X) (r : List ℕ)
    → IsRowSoFar F P bytes xs rest n → Begins (such F (λ y. P (xs ++ y ∷ []))) rest y r → IsRowSoFar F P bytes (xs ++ y ∷ []) r (n + 1)
row_step F P bytes xs rest n y r h k = record {
  parts = row_more F bytes xs rest y r h.parts k.parts;
  each = all_more F.Fits xs y h.each k.fits.0;
  count = omega (arith, length-append xs (y ∷ []), h.count);
  so = k.fits.1;
}

pub row_end : {X : Type 0} (F : Format X) (P : List X → Type 0) (bytes : List ℕ) (xs : List X) (rest : List ℕ) (n : ℕ)
    → IsRowSoFar F P bytes xs rest n → Begins (such (rows F n) P) bytes xs rest
row_end F P bytes xs rest n h = record { fits = ((h.count, h.each), h.so); parts = h.parts }

-- the stop at the next value of a row, which is due in it
pub row_stop : {X : Type 0} (F : Format X) (P : List X → Type 0) (i j : Item) → IsPrefixFree F → ((xs : List X) (z : X) (zs : List X) → P (xs ++ z ∷ zs) → P (xs ++ z ∷ []))
    → (bytes : List ℕ) (xs : List X) (rest : List ℕ) (k n : ℕ) (stop : FileStop) → IsRowSoFar F P bytes xs rest k → k < n
    → ((file : List ℕ) → Due file j bytes → Begins (such (rows F k) P) bytes xs rest → Due file i rest)
    → IsStop (such F (λ y. P (xs ++ y ∷ []))) rest (Blames i rest) stop → IsStop (such (rows F n) P) bytes (Blames j bytes) stop
row_stop F P i j free closed bytes xs rest k n stop h fewer step l =
    stop_due (such F (λ y. P (xs ++ y ∷ []))) (such (rows F n) P) i j rest bytes stop
    (such_rows_none F P free closed n bytes xs rest h.parts h.each (omega (arith, h.count)))
    (λ file due. step file due (row_end F P bytes xs rest k h)) l

pub not_so : {P : Type 0} → (P → IsTrue false) → ¬ P
not_so h p = absurd (never (h p))
  where
    never : false ≡ true → ⊥
    never is = cc

-- a row of any values, with one more
pub plain_step : {X : Type 0} (F : Format X) (bytes : List ℕ) (xs : List X) (rest : List ℕ) (n : ℕ) (y : X) (r : List ℕ)
    → IsRowSoFar F (λ _. Unit {0}) bytes xs rest n → Begins F rest y r → IsRowSoFar F (λ _. Unit {0}) bytes (xs ++ y ∷ []) r (n + 1)
plain_step F bytes xs rest n y r h k = row_step F (λ _. Unit {0}) bytes xs rest n y r h (record { fits = (k.fits, tt); parts = k.parts })

pub plain_end : {X : Type 0} (F : Format X) (bytes : List ℕ) (xs : List X) (rest : List ℕ) (n : ℕ) → IsRowSoFar F (λ _. Unit {0}) bytes xs rest n → Begins (rows F n) bytes xs rest
plain_end F bytes xs rest n h = record { fits = (h.count, h.each); parts = h.parts }

-- the stop at the next value of a row of any values
pub plain_stop : {X : Type 0} (F : Format X) (i j : Item) → IsPrefixFree F → (bytes : List ℕ) (xs : List X) (rest : List ℕ) (k n : ℕ) (stop : FileStop) → IsRowSoFar F (λ _. Unit {0}) bytes xs rest k → k < n
    → ((file : List ℕ) → Due file j bytes → Begins (rows F k) bytes xs rest → Due file i rest)
    → IsStop F rest (Blames i rest) stop → IsStop (rows F n) bytes (Blames j bytes) stop
plain_stop F i j free bytes xs rest k n stop h fewer step l =
    stop_due F (rows F n) i j rest bytes stop (rows_none F free n bytes xs rest h.parts h.each (omega (arith, h.count)))
    (λ file due. step file due (plain_end F bytes xs rest k h)) l

-- a row of any values whose number is cut off
pub counted_short : {X : Type 0} (F : Format X) (row : Row) (bytes : List ℕ) (stop : FileStop) → IsStop u16_format bytes (IsCut 2 bytes) stop → IsStop (counted u16_format F) bytes (Blames (a_count row) bytes) stop
counted_short F row bytes stop h =
    stop_cut u16_format (counted u16_format F) 2 (a_count row) (a_count row) bytes bytes stop refl (λ none xs s k. none (length xs) (flat_map F.spell xs ++ s) (counted_first u16_format F bytes xs s k)) (λ file due. due) h

pub counted_stop : {X : Type 0} (F : Format X) (row : Row) (bytes : List ℕ) (n : ℕ) (r : List ℕ) (stop : FileStop) → Begins u16_format bytes n r → IsStop (rows F n) r (Blames (many row n) r) stop → IsStop (counted u16_format F) bytes (Blames (a_count row) bytes) stop
counted_stop F row bytes n r stop h k =
    stop_due (rows F n) (counted u16_format F) (many row n) (a_count row) r bytes stop (λ none xs s l. none xs s (counted_rest u16_format F u16_free bytes n r xs s h l)) (λ file due. Due.behind_count due h) k
