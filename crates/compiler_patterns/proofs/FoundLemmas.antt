-- The term that a pattern spells, if it spells one.
use Rattle.std.proofs.Common.{◌≡◌, ℕ, ◌<◌, Option, Some, None, List, map, length, get_or, refl, sym, ◌∙◌, ap}
use Rattle.std.specs.Prelude.{Bool, true, false, ◌&&◌}
use Rattle.std.specs.Option.{is_some}
use Rattle.term_core.specs.Datum.{Datum, items_of, cells}
use Rattle.term_core.specs.Datum.Datum.{tuple}
use Rattle.term_core.specs.Limits.{within_limits}
use Rattle.mspec_syntax.specs.Pattern.{Pattern, patterns_of, cells_of, own_term}
use Rattle.mspec_syntax.specs.Pattern.Pattern.{tuple_of}
use Rattle.mspec_syntax.specs.Sound.{IsSoundPattern}
use Rattle.compiler_patterns.specs.Spelled.{spells, all_spell}
use Rattle.compiler_patterns.proofs.SpelledLemmas.{tuple-spells, cells-spell, spells-at, tuple-made, list-made, own-made}

none-of : (o : Option Datum) → is_some o ≡ false → None ≡ o
none-of None h = refl
none-of (Some d) h = absurd (let q : true ≡ false = h in cc)

pub no-none : (o : Option Datum) → is_some o ≡ true → None ≡ o → ⊥
no-none None h none = absurd (let q : false ≡ true = h in cc)
no-none (Some d) h none = absurd (cc)

by_test : (b : Bool) (P : Type 0) → (b ≡ true → P) → (b ≡ false → P) → P
by_test true P f g = f refl
by_test false P f g = g refl

-- if an element spells no term, not all elements do
pub none-spelled : (ps : List Pattern) (i : ℕ) (p : Pattern) → i < length ps → p ≡ get_or ps i p → None ≡ own_term p → all_spell ps ≡ false
none-spelled ps i p h is none =
    by_test (all_spell ps) (all_spell ps ≡ false)
    (λ all. absurd (let q : false ≡ true = ap is_some none ∙ spells-at ps i p h is all in cc))
    (λ some. some)

pub no-tuple : (ps : List Pattern) → all_spell ps ≡ false → None ≡ own_term (tuple_of (patterns_of ps))
no-tuple ps h = none-of (own_term (tuple_of (patterns_of ps))) (tuple-spells ps ∙ h)

pub no-list : (ps : List Pattern) (t : Pattern) → all_spell ps ≡ false → None ≡ own_term (cells_of ps t)
no-list ps t h = none-of (own_term (cells_of ps t)) (cells-spell ps t ∙ ap (λ b. b && spells t) h)

and-false : (a : Bool) → (a && false) ≡ false
and-false true = refl
and-false false = refl

pub no-tail : (ps : List Pattern) (t : Pattern) → None ≡ own_term t → None ≡ own_term (cells_of ps t)
no-tail ps t none =
    none-of (own_term (cells_of ps t)) (cells-spell ps t ∙ ap (λ b. all_spell ps && b) (sym (ap is_some none)) ∙ and-false (all_spell ps))

-- the tuple made from the terms that a sound pattern's elements spell is the term that the pattern spells
pub tuple-found : (ps : List Pattern) (ds : List Datum) (made : Option Datum) → IsSoundPattern (tuple_of (patterns_of ps)) → map own_term ps ≡ map Some ds → made ≡ within_limits (tuple (items_of ds)) → made ≡ own_term (tuple_of (patterns_of ps))
tuple-found ps ds made s h e =
    let own = tuple-made ps ds h in own-made (tuple_of (patterns_of ps)) (tuple (items_of ds)) made s own e ∙ sym own

pub list-found : (ps : List Pattern) (t : Pattern) (ds : List Datum) (d : Datum) (made : Option Datum) → IsSoundPattern (cells_of ps t) → map own_term ps ≡ map Some ds → Some d ≡ own_term t → made ≡ within_limits (cells ds d) → made ≡ own_term (cells_of ps t)
list-found ps t ds d made s h end e =
    let own = list-made ps t ds d h (sym end) in own-made (cells_of ps t) (cells ds d) made s own e ∙ sym own
