-- Patterns that spell a term.
use Rattle.std.proofs.Common.{◌≡◌, ◌↔◌, ℕ, Option, Some, None, option_map, List, [], ◌∷◌, ◌++◌, refl, sym, ◌∙◌, ap, subst}
use Rattle.term_core.specs.Datum.{Datum, Items}
use Rattle.term_core.specs.Datum.Datum.{tuple, cons}
use Rattle.term_core.specs.Datum.Items.{no_items, item}
use Rattle.mspec_syntax.specs.Pattern.{Pattern, Patterns, pattern_variables, patterns_variables, own_cell, own_item, own_term, own_terms}
use Rattle.mspec_syntax.specs.Pattern.Pattern.{variable, anything, literal, tuple_of, cell_of, map_of}
use Rattle.mspec_syntax.specs.Pattern.Patterns.{no_patterns, pattern}
use Rattle.mspec_syntax.specs.Rising.{rising}
use Rattle.mspec_match.specs.Match.{Substitution, domain, lookup, Fits, AllFit, Matches}

tuple-parts : (found : Option Items) (d : Datum) → option_map tuple found ≡ Some d → (ds : Items) × (found ≡ Some ds) × (tuple ds ≡ d)
tuple-parts None d is = absurd (cc)
tuple-parts (Some ds) d is = (ds, refl, cc)

cell-parts : (a b : Option Datum) (d : Datum) → own_cell a b ≡ Some d → (head : Datum) × (tail : Datum) × (a ≡ Some head) × (b ≡ Some tail) × (cons head tail ≡ d)
cell-parts None None d is = absurd (cc)
cell-parts None (Some y) d is = absurd (cc)
cell-parts (Some x) None d is = absurd (cc)
cell-parts (Some x) (Some y) d is = (x, y, refl, refl, cc)

item-parts : (a : Option Datum) (b : Option Items) (ds : Items) → own_item a b ≡ Some ds → (e : Datum) × (es : Items) × (a ≡ Some e) × (b ≡ Some es) × (item e es ≡ ds)
item-parts None None d is = absurd (cc)
item-parts None (Some y) d is = absurd (cc)
item-parts (Some x) None d is = absurd (cc)
item-parts (Some x) (Some y) d is = (x, y, refl, refl, cc)

both-none : (xs ys : List ℕ) → xs ≡ [] → ys ≡ [] → xs ++ ys ≡ []
both-none [] ys h k = k
both-none (x ∷ xs) ys h k = absurd (cc)

mutual
  pub own-variables : (p : Pattern) (d : Datum) → own_term p ≡ Some d → pattern_variables p ≡ []
  own-variables (variable n) d is = absurd (cc)
  own-variables anything d is = absurd (cc)
  own-variables (literal e) d is = refl
  own-variables (tuple_of ps) d is = let parts = tuple-parts (own_terms ps) d is in owns-variables ps parts.0 parts.1
  own-variables (cell_of p q) d is =
      let parts = cell-parts (own_term p) (own_term q) d is in
      both-none (pattern_variables p) (pattern_variables q) (own-variables p parts.0 parts.2) (own-variables q parts.1 parts.3)
  own-variables (map_of fs) d is = absurd (cc)

  owns-variables : (ps : Patterns) (ds : Items) → own_terms ps ≡ Some ds → patterns_variables ps ≡ []
  owns-variables no_patterns ds is = refl
  owns-variables (pattern p ps) ds is =
      let parts = item-parts (own_term p) (own_terms ps) ds is in
      both-none (pattern_variables p) (patterns_variables ps) (own-variables p parts.0 parts.2) (owns-variables ps parts.1 parts.3)

mutual
  pub own-fits : (p : Pattern) (d : Datum) (f : ℕ → Option Datum) → own_term p ≡ Some d → Fits p f d
  own-fits (variable n) d f is = absurd (cc)
  own-fits anything d f is = absurd (cc)
  own-fits (literal e) d f is = cc
  own-fits (tuple_of ps) d f is =
      let parts = tuple-parts (own_terms ps) d is in
      let P : Datum → Type 0 = λ x. Fits (tuple_of ps) f x in
      subst P parts.2 (owns-fit ps parts.0 f parts.1)
  own-fits (cell_of p q) d f is =
      let parts = cell-parts (own_term p) (own_term q) d is in
      let P : Datum → Type 0 = λ x. Fits (cell_of p q) f x in
      subst P parts.4 (own-fits p parts.0 f parts.2, own-fits q parts.1 f parts.3)
  own-fits (map_of fs) d f is = absurd (cc)

  owns-fit : (ps : Patterns) (ds : Items) (f : ℕ → Option Datum) → own_terms ps ≡ Some ds → AllFit ps f ds
  owns-fit no_patterns ds f is =
      let same : no_items ≡ ds = cc in
      let P : Items → Type 0 = λ x. AllFit no_patterns f x in
      subst P same tt
  owns-fit (pattern p ps) ds f is =
      let parts = item-parts (own_term p) (own_terms ps) ds is in
      let P : Items → Type 0 = λ x. AllFit (pattern p ps) f x in
      subst P parts.4 (own-fits p parts.0 f parts.2, owns-fit ps parts.1 f parts.3)

mutual
  pub fits-own : (p : Pattern) (d : Datum) (f : ℕ → Option Datum) (t : Datum) → own_term p ≡ Some d → Fits p f t → t ≡ d
  fits-own (variable n) d f t is h = absurd (cc)
  fits-own anything d f t is h = absurd (cc)
  fits-own (literal e) d f t is h = cc
  fits-own (tuple_of ps) d f (tuple ds) is h =
      let parts = tuple-parts (own_terms ps) d is in ap tuple (fit-own ps parts.0 f ds parts.1 h) ∙ parts.2
  fits-own (tuple_of ps) d f t is h = absurd h
  fits-own (cell_of p q) d f (cons head tail) is h =
      let parts = cell-parts (own_term p) (own_term q) d is in
      let first = fits-own p parts.0 f head parts.2 h.0 in
      let rest = fits-own q parts.1 f tail parts.3 h.1 in
      ap (λ x. cons x tail) first ∙ ap (cons parts.0) rest ∙ parts.4
  fits-own (cell_of p q) d f t is h = absurd h
  fits-own (map_of fs) d f t is h = absurd (cc)

  fit-own : (ps : Patterns) (es : Items) (f : ℕ → Option Datum) (ds : Items) → own_terms ps ≡ Some es → AllFit ps f ds → ds ≡ es
  fit-own no_patterns es f no_items is h = cc
  fit-own no_patterns es f (item d ds) is h = absurd h
  fit-own (pattern p ps) es f no_items is h = absurd h
  fit-own (pattern p ps) es f (item d ds) is h =
      let parts = item-parts (own_term p) (own_terms ps) es is in
      let first = fits-own p parts.0 f d parts.2 h.0 in
      let rest = fit-own ps parts.1 f ds parts.3 h.1 in
      ap (λ x. item x ds) first ∙ ap (item parts.0) rest ∙ parts.4

no_domain : (s : Substitution) → domain s ≡ [] → s ≡ []
no_domain [] e = refl
no_domain (x ∷ s) e = absurd (cc)

-- a pattern that spells a term matches that term alone
pub own-matches : (p : Pattern) (d : Datum) (s : Substitution) (t : Datum) → own_term p ≡ Some d → Matches p s t ↔ ((s ≡ []) × (t ≡ d))
own-matches p d s t is =
    let none = ap rising (own-variables p d is) in (
      λ m. (no_domain s (m.domain ∙ none), fits-own p d (lookup s) t is m.fits),
      λ h.
          let P : Datum → Type 0 = λ x. Fits p (lookup s) x in
          record { domain = ap domain h.0 ∙ sym none; fits = subst P (sym h.1) (own-fits p d (lookup s) is) },
    )
