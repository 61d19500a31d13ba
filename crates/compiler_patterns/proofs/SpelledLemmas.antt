-- The terms that patterns spell.
use Rattle.std.proofs.Common.{◌≡◌, Bool, true, false, ◌&&◌, ℕ, zero, suc, ◌+◌, ◌<◌, ◌≤◌, Option, Some, None, option_map, List, [], ◌∷◌, ◌++◌, map, length, get_or, take, drop, ◌-◌, refl, sym, ◌∙◌, ap, subst, arith, drop-cons, add-one}
use Rattle.std.specs.Prelude.{IfSome}
use Rattle.std.specs.Option.{is_some}
use Rattle.std.proofs.Math.Bool.{and_assoc}
use Rattle.std.proofs.lemmas.List.{append_assoc, map-append, take_all, length-drop}
use Rattle.term_core.specs.Datum.{Datum, Items, items_of, cells}
use Rattle.term_core.specs.Datum.Datum.{tuple}
use Rattle.term_core.specs.Limits.{IsTerm, within_limits}
use Rattle.term_build.proofs.MadeLemmas.{made-within_limits}
use Rattle.mspec_syntax.specs.Pattern.{Pattern, patterns_of, cells_of, own_term, own_terms, own_cell, own_item}
use Rattle.mspec_syntax.specs.Pattern.Pattern.{variable, anything, literal, tuple_of, cell_of, map_of}
use Rattle.mspec_syntax.specs.Sound.{IsSoundPattern, AreSoundPatterns}
use Rattle.compiler_patterns.specs.Spelled.{spells, all_spell}

pub and-left : (a b : Bool) → (a && b) ≡ true → a ≡ true
and-left true b h = refl
and-left false b h = h

pub and-right : (a b : Bool) → (a && b) ≡ true → b ≡ true
and-right true b h = h
and-right false b h = absurd (let q : false ≡ true = h in cc)

-- taking the length of the rest from the rest is the rest
pub rest-slice : {X : Type 0} (i : ℕ) (xs : List X) → take (length xs - i) (drop i xs) ≡ drop i xs
rest-slice i xs = take_all (length xs - i) (drop i xs) (omega (arith, length-drop i xs))

-- what is left of a list begins with its first element
pub split_at : {X : Type 0} (xs : List X) (i : ℕ) (x : X) → i < length xs → x ≡ get_or xs i x → drop i xs ≡ x ∷ drop (i + 1) xs
split_at xs i x h e = drop-cons xs i x h ∙ ap (λ y. y ∷ drop (suc i) xs) (sym e) ∙ ap (λ j. x ∷ drop j xs) (sym (add-one i))

pub some-cell : (a b : Option Datum) → is_some (own_cell a b) ≡ (is_some a && is_some b)
some-cell (Some a) (Some b) = refl
some-cell (Some a) None = refl
some-cell None (Some b) = refl
some-cell None None = refl

pub some-item : (a : Option Datum) (b : Option Items) → is_some (own_item a b) ≡ (is_some a && is_some b)
some-item (Some a) (Some b) = refl
some-item (Some a) None = refl
some-item None (Some b) = refl
some-item None None = refl

pub some-map : (o : Option Items) → is_some (option_map tuple o) ≡ is_some o
some-map (Some ds) = refl
some-map None = refl

items-spell : (ps : List Pattern) → is_some (own_terms (patterns_of ps)) ≡ all_spell ps
items-spell [] = refl
items-spell (p ∷ ps) =
    some-item (own_term p) (own_terms (patterns_of ps)) ∙ ap (λ b. spells p && b) (items-spell ps)

-- a tuple pattern spells a term if and only if all its elements do
pub tuple-spells : (ps : List Pattern) → spells (tuple_of (patterns_of ps)) ≡ all_spell ps
tuple-spells ps = some-map (own_terms (patterns_of ps)) ∙ items-spell ps

-- a list pattern spells a term if and only if all its elements and its tail do
pub cells-spell : (ps : List Pattern) (t : Pattern) → spells (cells_of ps t) ≡ (all_spell ps && spells t)
cells-spell [] t = refl
cells-spell (p ∷ ps) t =
    some-cell (own_term p) (own_term (cells_of ps t))
    ∙ ap (λ b. spells p && b) (cells-spell ps t)
    ∙ sym (and_assoc (spells p) (all_spell ps) (spells t))

spells-get : (ps : List Pattern) (i : ℕ) (p : Pattern) → i < length ps → all_spell ps ≡ true → spells (get_or ps i p) ≡ true
spells-get [] i p h all = absurd (omega arith)
spells-get (x ∷ ps) zero p h all = and-left (spells x) (all_spell ps) all
spells-get (x ∷ ps) (suc i) p h all = spells-get ps i p (omega arith) (and-right (spells x) (all_spell ps) all)

pub spells-at : (ps : List Pattern) (i : ℕ) (p : Pattern) → i < length ps → p ≡ get_or ps i p → all_spell ps ≡ true → spells p ≡ true
spells-at ps i p h is all = ap spells is ∙ spells-get ps i p h all

sound-get : (ps : List Pattern) (i : ℕ) (p : Pattern) → i < length ps → AreSoundPatterns (patterns_of ps) → IsSoundPattern (get_or ps i p)
sound-get [] i p h s = absurd (omega arith)
sound-get (x ∷ ps) zero p h s = s.0
sound-get (x ∷ ps) (suc i) p h s = sound-get ps i p (omega arith) s.1

pub sound-at : (ps : List Pattern) (i : ℕ) (p : Pattern) → i < length ps → p ≡ get_or ps i p → AreSoundPatterns (patterns_of ps) → IsSoundPattern p
sound-at ps i p h is s = subst IsSoundPattern (sym is) (sound-get ps i p h s)

-- the elements and the tail of a sound list are sound
pub sound-cells : (ps : List Pattern) (t : Pattern) → IsSoundPattern (cells_of ps t) → AreSoundPatterns (patterns_of ps) × IsSoundPattern t
sound-cells [] t s = (tt, s)
sound-cells (p ∷ ps) t s = let rest = sound-cells ps t s.2 in ((s.1, rest.0), rest.1)

some-term : (o : Option Datum) (d : Datum) → o ≡ Some d → IfSome o IsTerm → IsTerm d
some-term o d is h = let P : Option Datum → Type 0 = λ x. IfSome x IsTerm in subst P is h

-- what a sound pattern spells is a term within the limits
pub spelled-term : (p : Pattern) (d : Datum) → IsSoundPattern p → own_term p ≡ Some d → IsTerm d
spelled-term (variable n) d s is = absurd (cc)
spelled-term anything d s is = absurd (cc)
spelled-term (literal e) d s is = let same : e ≡ d = cc in subst IsTerm same s
spelled-term (tuple_of ps) d s is = some-term (own_term (tuple_of ps)) d is s.0
spelled-term (cell_of p q) d s is = some-term (own_term (cell_of p q)) d is s.0
spelled-term (map_of fs) d s is = absurd (cc)

items-made : (ps : List Pattern) (ds : List Datum) → map own_term ps ≡ map Some ds → own_terms (patterns_of ps) ≡ Some (items_of ds)
items-made [] [] h = refl
items-made [] (d ∷ ds) h = absurd (cc)
items-made (p ∷ ps) [] h = absurd (cc)
items-made (p ∷ ps) (d ∷ ds) h =
    let first : own_term p ≡ Some d = cc in
    let rest : map own_term ps ≡ map Some ds = cc in
    ap (λ o. own_item o (own_terms (patterns_of ps))) first ∙ ap (λ o. own_item (Some d) o) (items-made ps ds rest)

-- a tuple pattern spells the tuple of the terms that its elements spell
pub tuple-made : (ps : List Pattern) (ds : List Datum) → map own_term ps ≡ map Some ds → own_term (tuple_of (patterns_of ps)) ≡ Some (tuple (items_of ds))
tuple-made ps ds h = ap (option_map tuple) (items-made ps ds h)

-- a list pattern spells the list of the terms that its elements spell, with the tail's term as its tail
pub list-made : (ps : List Pattern) (t : Pattern) (ds : List Datum) (d : Datum) → map own_term ps ≡ map Some ds → own_term t ≡ Some d → own_term (cells_of ps t) ≡ Some (cells ds d)
list-made [] t [] d h e = e
list-made [] t (x ∷ ds) d h e = absurd (cc)
list-made (p ∷ ps) t [] d h e = absurd (cc)
list-made (p ∷ ps) t (x ∷ ds) d h e =
    let first : own_term p ≡ Some x = cc in
    let rest : map own_term ps ≡ map Some ds = cc in
    ap (λ o. own_cell o (own_term (cells_of ps t))) first
    ∙ ap (λ o. own_cell (Some x) o) (list-made ps t ds d rest e)

-- a term that a sound pattern spells can be made
pub own-made : (p : Pattern) (d : Datum) (made : Option Datum) → IsSoundPattern p → own_term p ≡ Some d → made ≡ within_limits d → made ≡ Some d
own-made p d made s is e = e ∙ sym (made-within_limits d d refl (spelled-term p d s is))

-- the terms after one more pattern
pub terms-more : (ps : List Pattern) (i : ℕ) (p : Pattern) (ds ds' : List Datum) (d : Datum) → i < length ps → p ≡ get_or ps i p → own_term p ≡ Some d → ds' ≡ ds ++ d ∷ [] → map Some ds ++ map own_term (drop i ps) ≡ map own_term ps → map Some ds' ++ map own_term (drop (i + 1) ps) ≡ map own_term ps
terms-more ps i p ds ds' d h is own more front =
    ap (λ l. map Some l ++ map own_term (drop (i + 1) ps)) more
    ∙ ap (λ l. l ++ map own_term (drop (i + 1) ps)) (map-append Some ds (d ∷ []))
    ∙ append_assoc (map Some ds) (Some d ∷ []) (map own_term (drop (i + 1) ps))
    ∙ ap (λ o. map Some ds ++ o ∷ map own_term (drop (i + 1) ps)) (sym own)
    ∙ ap (λ l. map Some ds ++ map own_term l) (sym (split_at ps i p h is))
    ∙ front

-- what holds of a pattern holds of it as it is made, and the other way round
pub back : {X : Type 0} (make : List X → Pattern) (Q : Pattern → Type 0) (xs ps : List X) (p : Pattern) → make ps ≡ p → xs ≡ ps → Q p → Q (make xs)
back make Q xs ps p is same h = subst Q (sym (ap make same ∙ is)) h

-- a list whose elements spell terms spells one if and only if its tail does
pub tail-decides : (ps xs : List Pattern) (t p : Pattern) (first last : Bool) → cells_of ps t ≡ p → xs ≡ ps → first ≡ all_spell xs → first ≡ true → last ≡ spells t → last ≡ spells p
tail-decides ps xs t p first last is same f h l =
    let all : all_spell ps ≡ true = sym (ap all_spell same) ∙ sym f ∙ h in
    l ∙ sym (ap (λ b. b && spells t) all) ∙ sym (cells-spell ps t) ∙ ap spells is

pub elements-decide : (ps xs : List Pattern) (t p : Pattern) (first : Bool) → cells_of ps t ≡ p → xs ≡ ps → first ≡ all_spell xs → first ≡ false → first ≡ spells p
elements-decide ps xs t p first is same f h =
    let none : all_spell ps ≡ false = sym (ap all_spell same) ∙ sym f ∙ h in
    h ∙ sym (ap (λ b. b && spells t) none) ∙ sym (cells-spell ps t) ∙ ap spells is
