-- No frame begins another.
use Rattle.std.specs.List.{flat_map}
use Rattle.std.proofs.Common.{◌≡◌, ◌≢◌, ℕ, List, [], ◌∷◌, ◌++◌, length, refl, sym, ap, ◌∙◌, arith}
use Rattle.mcode.specs.Program.{Frame, Rise, place_number}
use Rattle.mcode.specs.declared.kind.Kind.{Kind}
use Rattle.mcode.specs.declared.kind.Kind.TheVariants as kind
use Rattle.code_writer.specs.Spelling.{u16_bytes, kind_bytes, any_kind_bytes}
use Rattle.code_writer.specs.File.{HoldsSize}
use Rattle.code_writer.specs.Format.{Format, Begins, both, counted, such}
use Rattle.code_writer.specs.Formats.{u8_format, u16_format, kind_format, any_kind_format, place_format, places_format, slots_format, frame_rest_format, frame_format}
use Rattle.code_writer.proofs.FormatLemmas.{IsPrefixFree, both_prefix_free, such_prefix_free, counted_prefix_free}
use Rattle.code_writer.proofs.NumberLemmas.{u8_free, u16_free}
use Rattle.code_writer.proofs.InstructionLemmas.{head_is, tail_is}

-- ---- kinds

abbrev pub kind_tag : Kind → ℕ
kind_tag kind.Any = 0
kind_tag kind.Int = 1
kind_tag kind.Bool = 2
kind_tag kind.Cons = 3
kind_tag kind.Map = 4
kind_tag (kind.Tuple n) = 5

abbrev pub kind_rest : Kind → List ℕ
kind_rest (kind.Tuple n) = u16_bytes n
kind_rest k = []

pub kind_spelled : (k : Kind) → k ≢ kind.Any → kind_bytes k ≡ kind_tag k ∷ kind_rest k
kind_spelled kind.Any some = absurd (some refl)
kind_spelled kind.Int some = refl
kind_spelled k some = refl

pub record KindOpened (b : ℕ) (r : List ℕ) (k : Kind) (s : List ℕ) : Type 0 where
  pub tag_is : kind_tag k ≡ b
  pub rest_is : r ≡ kind_rest k ++ s
  pub size : HoldsSize k
  pub some : k ≢ kind.Any

pub kind_opened : (bytes : List ℕ) (b : ℕ) (r : List ℕ) (k : Kind) (s : List ℕ) → bytes ≡ b ∷ r → Begins kind_format bytes k s → KindOpened b r k s
kind_opened bytes b r k s is h =
    let same = sym is ∙ h.parts ∙ ap (λ (bs : List ℕ). bs ++ s) (kind_spelled k h.fits.1) in
    record {
      tag_is = sym (head_is b (kind_tag k) r (kind_rest k ++ s) same);
      rest_is = tail_is b (kind_tag k) r (kind_rest k ++ s) same;
      size = h.fits.0;
      some = h.fits.1;
    }

kinds_one : (k l : Kind) (t r s : List ℕ) → KindOpened (kind_tag k) t k r → KindOpened (kind_tag k) t l s → (k ≡ l) × (r ≡ s)
kinds_one (kind.Tuple n) (kind.Tuple m) t r s h g =
    let same = u16_free.one t n m r s (record { fits = h.size; parts = h.rest_is }) (record { fits = g.size; parts = g.rest_is }) in
    (ap kind.Tuple same.0, same.1)
kinds_one kind.Any kind.Any t r s h g = absurd (h.some refl)
kinds_one kind.Int kind.Int t r s h g = (refl, sym h.rest_is ∙ g.rest_is)
kinds_one kind.Bool kind.Bool t r s h g = (refl, sym h.rest_is ∙ g.rest_is)
kinds_one kind.Cons kind.Cons t r s h g = (refl, sym h.rest_is ∙ g.rest_is)
kinds_one kind.Map kind.Map t r s h g = (refl, sym h.rest_is ∙ g.rest_is)
kinds_one k l t r s h g = absurd (omega (arith, g.tag_is))

pub kind_free : IsPrefixFree kind_format
kind_free = record {
  one = λ bytes k l r s h g.
      let is = h.parts ∙ ap (λ (bs : List ℕ). bs ++ r) (kind_spelled k h.fits.1) in
      kinds_one k l (kind_rest k ++ r) r s (kind_opened bytes (kind_tag k) (kind_rest k ++ r) k r is h) (kind_opened bytes (kind_tag k) (kind_rest k ++ r) l s is g);
}

-- ---- kinds that may be Any

any_spelled : (k : Kind) → any_kind_bytes k ≡ kind_tag k ∷ kind_rest k
any_spelled kind.Any = refl
any_spelled k = refl

pub record AnyOpened (b : ℕ) (r : List ℕ) (k : Kind) (s : List ℕ) : Type 0 where
  pub tag_is : kind_tag k ≡ b
  pub rest_is : r ≡ kind_rest k ++ s
  pub size : HoldsSize k

pub any_opened : (bytes : List ℕ) (b : ℕ) (r : List ℕ) (k : Kind) (s : List ℕ) → bytes ≡ b ∷ r → Begins any_kind_format bytes k s → AnyOpened b r k s
any_opened bytes b r k s is h =
    let same = sym is ∙ h.parts ∙ ap (λ (bs : List ℕ). bs ++ s) (any_spelled k) in
    record {
      tag_is = sym (head_is b (kind_tag k) r (kind_rest k ++ s) same);
      rest_is = tail_is b (kind_tag k) r (kind_rest k ++ s) same;
      size = h.fits;
    }

any_one : (k l : Kind) (t r s : List ℕ) → AnyOpened (kind_tag k) t k r → AnyOpened (kind_tag k) t l s → (k ≡ l) × (r ≡ s)
any_one (kind.Tuple n) (kind.Tuple m) t r s h g =
    let same = u16_free.one t n m r s (record { fits = h.size; parts = h.rest_is }) (record { fits = g.size; parts = g.rest_is }) in
    (ap kind.Tuple same.0, same.1)
any_one kind.Any kind.Any t r s h g = (refl, sym h.rest_is ∙ g.rest_is)
any_one kind.Int kind.Int t r s h g = (refl, sym h.rest_is ∙ g.rest_is)
any_one kind.Bool kind.Bool t r s h g = (refl, sym h.rest_is ∙ g.rest_is)
any_one kind.Cons kind.Cons t r s h g = (refl, sym h.rest_is ∙ g.rest_is)
any_one kind.Map kind.Map t r s h g = (refl, sym h.rest_is ∙ g.rest_is)
any_one k l t r s h g = absurd (omega (arith, g.tag_is))

pub any_kind_free : IsPrefixFree any_kind_format
any_kind_free = record {
  one = λ bytes k l r s h g.
      let is = h.parts ∙ ap (λ (bs : List ℕ). bs ++ r) (any_spelled k) in
      any_one k l (kind_rest k ++ r) r s (any_opened bytes (kind_tag k) (kind_rest k ++ r) k r is h) (any_opened bytes (kind_tag k) (kind_rest k ++ r) l s is g);
}

-- ---- places

pub place_free : IsPrefixFree place_format
place_free = both_prefix_free u16_format kind_format u16_free kind_free

-- ---- slots

pub flat_bytes : (xs : List ℕ) → flat_map (λ n. n ∷ []) xs ≡ xs
flat_bytes [] = refl
flat_bytes (x ∷ xs) = ap (λ ys. x ∷ ys) (flat_bytes xs)

abbrev pub RisingSlots : List ℕ → Type 0
RisingSlots vs = Rise (λ slot. slot) vs

abbrev pub slot_rows : Format (List ℕ)
slot_rows = such (counted u16_format u8_format) RisingSlots

pub slots_to : (bytes vs s : List ℕ) → Begins slot_rows bytes vs s → Begins slots_format bytes vs s
slots_to bytes vs s h = record { fits = h.fits; parts = h.parts ∙ ap (λ (t : List ℕ). (u16_bytes (length vs) ++ t) ++ s) (flat_bytes vs) }

pub slots_from : (bytes vs s : List ℕ) → Begins slots_format bytes vs s → Begins slot_rows bytes vs s
slots_from bytes vs s h = record { fits = h.fits; parts = h.parts ∙ ap (λ (t : List ℕ). (u16_bytes (length vs) ++ t) ++ s) (sym (flat_bytes vs)) }

pub slots_free : IsPrefixFree slots_format
slots_free = record {
  one = λ bytes vs ws r s h k. (such_prefix_free (counted u16_format u8_format) RisingSlots (counted_prefix_free u16_format u8_format u16_free u8_free)).one bytes vs ws r s (slots_from bytes vs r h) (slots_from bytes ws s k);
}

pub places_free : IsPrefixFree places_format
places_free = such_prefix_free (counted u16_format place_format) (Rise place_number) (counted_prefix_free u16_format place_format u16_free place_free)

-- ---- frames

pub frame_rest_free : IsPrefixFree frame_rest_format
frame_rest_free = both_prefix_free u16_format (both places_format slots_format) u16_free (both_prefix_free places_format slots_format places_free slots_free)

abbrev pub frame_parts : Frame → ℕ × (ℕ × (List (ℕ × Kind) × List ℕ))
frame_parts f = (f.pc, (f.depth, (f.places, f.slots)))

abbrev parts_format : Format (ℕ × (ℕ × (List (ℕ × Kind) × List ℕ)))
parts_format = both u16_format frame_rest_format

pub frame_to : (bytes : List ℕ) (f : Frame) (s : List ℕ) → Begins parts_format bytes (frame_parts f) s → Begins frame_format bytes f s
frame_to bytes f s h = record { fits = h.fits; parts = h.parts }

pub frame_from : (bytes : List ℕ) (f : Frame) (s : List ℕ) → Begins frame_format bytes f s → Begins parts_format bytes (frame_parts f) s
frame_from bytes f s h = record { fits = h.fits; parts = h.parts }

pub frame_free : IsPrefixFree frame_format
frame_free = record {
  one = λ bytes f g r s h k.
      let same = (both_prefix_free u16_format frame_rest_format u16_free frame_rest_free).one bytes (frame_parts f) (frame_parts g) r s (frame_from bytes f r h) (frame_from bytes g s k) in
      (ap (λ (p : ℕ × (ℕ × (List (ℕ × Kind) × List ℕ))). record { pc = p.0; depth = p.1.0; places = p.1.1.0; slots = p.1.1.1 }) same.0, same.1);
}
