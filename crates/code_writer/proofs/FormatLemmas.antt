-- Spellings that begin no other: whatever follows, bytes begin with at most one value.
use Rattle.std.specs.List.{flat_map, AllByRecursion}
use Rattle.std.proofs.Common.{◌≡◌, ℕ, ◌≤◌, List, [], ◌∷◌, ◌++◌, length, refl, sym, ap, subst, ◌∙◌, append_assoc, arith}
use Rattle.code_writer.specs.Format.{Format, Begins, both, through, rows, counted, such}

-- no spelling of a value begins that of another
pub record IsPrefixFree {X : Type 0} (F : Format X) : Type 0 where
  pub one : (bytes : List ℕ) (x y : X) (r s : List ℕ) → Begins F bytes x r → Begins F bytes y s → (x ≡ y) × (r ≡ s)

-- ---- pairs

pub both_begins : {X Y : Type 0} (F : Format X) (G : Format Y) (bytes : List ℕ) (x : X) (r : List ℕ) (y : Y) (s : List ℕ)
    → Begins F bytes x r → Begins G r y s → Begins (both F G) bytes (x, y) s
both_begins F G bytes x r y s p q = record {
  fits = (p.fits, q.fits);
  parts = p.parts ∙ ap (λ (t : List ℕ). F.spell x ++ t) q.parts ∙ sym (append_assoc (F.spell x) (G.spell y) s);
}

-- bytes that begin with a pair begin with its first part, and then with its second
pub both_first : {X Y : Type 0} (F : Format X) (G : Format Y) (bytes : List ℕ) (p : X × Y) (s : List ℕ) → Begins (both F G) bytes p s → Begins F bytes p.0 (G.spell p.1 ++ s)
both_first F G bytes p s h = record { fits = h.fits.0; parts = h.parts ∙ append_assoc (F.spell p.0) (G.spell p.1) s }

-- after the first part of a pair comes the second
pub both_rest : {X Y : Type 0} (F : Format X) (G : Format Y) → IsPrefixFree F → (bytes : List ℕ) (x : X) (r : List ℕ) (p : X × Y) (s : List ℕ)
    → Begins F bytes x r → Begins (both F G) bytes p s → (x ≡ p.0) × Begins G r p.1 s
both_rest F G free bytes x r p s h k =
    let same = free.one bytes x p.0 r (G.spell p.1 ++ s) h (both_first F G bytes p s k) in
    (same.0, record { fits = k.fits.1; parts = same.1 })

pub both_prefix_free : {X Y : Type 0} (F : Format X) (G : Format Y) → IsPrefixFree F → IsPrefixFree G → IsPrefixFree (both F G)
both_prefix_free F G first second = record {
  one = λ bytes p q r s h k.
      let rest = both_rest F G first bytes p.0 (G.spell p.1 ++ r) q s (both_first F G bytes p r h) k in
      let same = second.one (G.spell p.1 ++ r) p.1 q.1 r s (record { fits = h.fits.1; parts = refl }) rest.1 in
      (pair_same p q rest.0 same.0, same.1);
}
  where
    pair_same : {X Y : Type 0} (p q : X × Y) → p.0 ≡ q.0 → p.1 ≡ q.1 → p ≡ q
    pair_same p q e d = λ i. (e i, d i)

-- ---- other values

pub through_prefix_free : {X Y : Type 0} (f : X → Y) (g : Y → X) (F : Format Y) → ((x : X) → g (f x) ≡ x) → IsPrefixFree F → IsPrefixFree (through f F)
through_prefix_free f g F back free = record {
  one = λ bytes x y r s h k.
      let same = free.one bytes (f x) (f y) r s (record { fits = h.fits; parts = h.parts }) (record { fits = k.fits; parts = k.parts }) in
      (sym (back x) ∙ ap g same.0 ∙ back y, same.1);
}

pub such_prefix_free : {X : Type 0} (F : Format X) (P : X → Type 0) → IsPrefixFree F → IsPrefixFree (such F P)
such_prefix_free F P free = record {
  one = λ bytes x y r s h k. free.one bytes x y r s (record { fits = h.fits.0; parts = h.parts }) (record { fits = k.fits.0; parts = k.parts });
}

-- ---- rows

-- The rest of a row, after the part of it that was read.
pub rows_go_on : {X : Type 0} (F : Format X) → IsPrefixFree F → (xs : List X) (rest : List ℕ) (ys : List X) (s : List ℕ)
    → AllByRecursion F.Fits xs → AllByRecursion F.Fits ys → length xs ≤ length ys → flat_map F.spell xs ++ rest ≡ flat_map F.spell ys ++ s
    → (zs : List X) × (ys ≡ xs ++ zs) × AllByRecursion F.Fits zs × (rest ≡ flat_map F.spell zs ++ s)
rows_go_on F free [] rest ys s fits_xs fits_ys fewer same = (ys, refl, fits_ys, same)
rows_go_on F free (x ∷ xs) rest [] s fits_xs fits_ys fewer same = absurd (omega arith)
rows_go_on F free (x ∷ xs) rest (y ∷ ys) s fits_xs fits_ys fewer same =
    let left = append_assoc (F.spell x) (flat_map F.spell xs) rest in
    let right = append_assoc (F.spell y) (flat_map F.spell ys) s in
    let one = free.one (F.spell x ++ (flat_map F.spell xs ++ rest)) x y (flat_map F.spell xs ++ rest) (flat_map F.spell ys ++ s)
    (record { fits = fits_xs.0; parts = refl }) (record { fits = fits_ys.0; parts = sym left ∙ same ∙ right }) in
    let more = rows_go_on F free xs rest ys s fits_xs.1 fits_ys.1 (omega arith) one.1 in
    (more.0, (λ i. sym one.0 i ∷ more.1 i), more.2, more.3)

pub none_longer : {X : Type 0} (xs zs ys : List X) → ys ≡ xs ++ zs → length ys ≡ length xs → zs ≡ []
none_longer [] zs ys is same = nil_of zs (sym (ap length is) ∙ same)
  where
    nil_of : {X : Type 0} (zs : List X) → length zs ≡ 0 → zs ≡ []
    nil_of [] e = refl
    nil_of (z ∷ zs) e = absurd (omega arith)
none_longer (x ∷ xs) zs [] is same = absurd (omega arith)
none_longer (x ∷ xs) zs (y ∷ ys) is same = none_longer xs zs ys (cc) (omega arith)

append_nil : {X : Type 0} (xs : List X) → xs ++ [] ≡ xs
append_nil [] = refl
append_nil (x ∷ xs) = ap (λ ys. x ∷ ys) (append_nil xs)

-- a whole row that was read is the row at the beginning of the bytes
pub rows_end : {X : Type 0} (F : Format X) → IsPrefixFree F → (xs : List X) (rest : List ℕ) (ys : List X) (s : List ℕ)
    → AllByRecursion F.Fits xs → AllByRecursion F.Fits ys → length xs ≡ length ys → flat_map F.spell xs ++ rest ≡ flat_map F.spell ys ++ s
    → (xs ≡ ys) × (rest ≡ s)
rows_end F free xs rest ys s fits_xs fits_ys as_many same =
    let more = rows_go_on F free xs rest ys s fits_xs fits_ys (omega arith) same in
    let none = none_longer xs more.0 ys more.1 (sym as_many) in
    (sym (more.1 ∙ ap (λ zs. xs ++ zs) none ∙ append_nil xs), more.3 ∙ ap (λ zs. flat_map F.spell zs ++ s) none)

pub rows_prefix_free : {X : Type 0} (F : Format X) (n : ℕ) → IsPrefixFree F → IsPrefixFree (rows F n)
rows_prefix_free F n free = record {
  one = λ bytes xs ys r s h k. rows_end F free xs r ys s h.fits.1 k.fits.1 (h.fits.0 ∙ sym k.fits.0) (sym h.parts ∙ k.parts);
}

-- the number of values, and then the row of them
pub counted_first : {X : Type 0} (N : Format ℕ) (F : Format X) (bytes : List ℕ) (xs : List X) (r : List ℕ) → Begins (counted N F) bytes xs r → Begins N bytes (length xs) (flat_map F.spell xs ++ r)
counted_first N F bytes xs r h = record { fits = h.fits.0; parts = h.parts ∙ append_assoc (N.spell (length xs)) (flat_map F.spell xs) r }

pub counted_rest : {X : Type 0} (N : Format ℕ) (F : Format X) → IsPrefixFree N → (bytes : List ℕ) (n : ℕ) (r : List ℕ) (xs : List X) (s : List ℕ)
    → Begins N bytes n r → Begins (counted N F) bytes xs s → Begins (rows F n) r xs s
counted_rest N F free bytes n r xs s h k =
    let same = free.one bytes n (length xs) r (flat_map F.spell xs ++ s) h (counted_first N F bytes xs s k) in
    record { fits = (sym same.0, k.fits.1); parts = same.1 }

pub counted_begins : {X : Type 0} (N : Format ℕ) (F : Format X) (bytes : List ℕ) (n : ℕ) (r : List ℕ) (xs : List X) (s : List ℕ)
    → Begins N bytes n r → Begins (rows F n) r xs s → Begins (counted N F) bytes xs s
counted_begins N F bytes n r xs s h k = record {
  fits = (subst N.Fits (sym k.fits.0) h.fits, k.fits.1);
  parts = h.parts ∙ ap (λ (t : List ℕ). N.spell n ++ t) k.parts ∙ sym (append_assoc (N.spell n) (flat_map F.spell xs) s) ∙ ap (λ m. (N.spell m ++ flat_map F.spell xs) ++ s) (sym k.fits.0);
}

pub counted_prefix_free : {X : Type 0} (N : Format ℕ) (F : Format X) → IsPrefixFree N → IsPrefixFree F → IsPrefixFree (counted N F)
counted_prefix_free N F number free = record {
  one = λ bytes xs ys r s h k.
      let first = counted_first N F bytes xs r h in
      let rest = counted_rest N F number bytes (length xs) (flat_map F.spell xs ++ r) ys s first k in
      rows_end F free xs r ys s h.fits.1 rest.fits.1 (sym rest.fits.0) rest.parts;
}
