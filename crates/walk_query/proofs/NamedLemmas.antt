-- Which keys a specification names.
use Rattle.std.proofs.Common.{◌≡◌, ◌↔◌, ℕ, zero, suc, Option, Some, None, List, [], ◌∷◌, refl, sym, ◌∙◌, ap, subst, inl, inr}
use Rattle.std.specs.Prelude.{Bool, true, false, ◌||◌}
use Rattle.std.specs.Option.{option_and_then}
use Rattle.std.specs.List.{IsDistinct, list_any}
use Rattle.std.proofs.lemmas.Cmp.{eq_by_cmp_equiv}
use Rattle.std.proofs.lemmas.List.Folds.{list_any-append}
use Rattle.std.proofs.lemmas.Map.Keys.{IsDistinct-push}
use Rattle.term_core.specs.Datum.{Datum, Items}
use Rattle.term_core.specs.Datum.Datum.{tuple}
use Rattle.term_core.specs.Datum.Items.{no_items, item}
use Rattle.term_core.specs.OrderLaws.{datum_cmp_total, datum_cmp-same}
use Rattle.term_operand.specs.Order.{is_same}
use Rattle.prims.specs.Tuples.{item_at}
use Rattle.mcode.specs.Machine.{field_of}
use Rattle.mspec_syntax.specs.Pattern.{Pattern, Patterns}
use Rattle.mspec_syntax.specs.Pattern.Pattern.{variable, anything, literal, tuple_of, cell_of, map_of}
use Rattle.mspec_syntax.specs.Pattern.Patterns.{no_patterns, pattern}
use Rattle.mspec_syntax.specs.Specification.{Clause, Specification}
use Rattle.mspec_match.specs.Match.{lookup, Fits, AllFit}
use Rattle.mspec_match.proofs.OwnLemmas.{fits-own}
use Rattle.mspec_meaning.specs.Meaning.{IsApplicable, Means}
use Rattle.walk_query.specs.Named.{spelled_at, key_named, with_key, named_from, named_by}

by_test : (b : Bool) (P : Type 0) → (b ≡ true → P) → (b ≡ false → P) → P
by_test true P f g = f refl
by_test false P f g = g refl

or-right : (a b : Bool) → b ≡ true → (a || b) ≡ true
or-right true b h = refl
or-right false b h = h

or-left : (a b : Bool) → a ≡ true → (a || b) ≡ true
or-left true b h = refl
or-left false b h = absurd (cc)

-- a key is one of itself and the others
key-there : (ks : List Datum) (k : Datum) → list_any (is_same k) (with_key ks k) ≡ true
key-there ks k =
    by_test (list_any (is_same k) ks) (list_any (is_same k) (with_key ks k) ≡ true)
    (λ there. rw there there)
    (λ new. rw new (list_any-append (is_same k) ks (k ∷ []) ∙ or-right (list_any (is_same k) ks) _ (rw (datum_cmp-same {a = k} {b = k} refl) refl)))

-- adding a key keeps those that were there
keys-stay : (ks : List Datum) (k j : Datum) → list_any (is_same j) ks ≡ true → list_any (is_same j) (with_key ks k) ≡ true
keys-stay ks k j h =
    by_test (list_any (is_same k) ks) (list_any (is_same j) (with_key ks k) ≡ true)
    (λ there. rw there h)
    (λ new. rw new (list_any-append (is_same j) ks (k ∷ []) ∙ or-left (list_any (is_same j) ks) _ h))

keys-apart : (ks : List Datum) (k : Datum) → IsDistinct is_same ks → IsDistinct is_same (with_key ks k)
keys-apart ks k d =
    by_test (list_any (is_same k) ks) (IsDistinct is_same (with_key ks k))
    (λ there. rw there d)
    (λ new. rw new (IsDistinct-push (eq_by_cmp_equiv datum_cmp_total) ks k d new))

-- the first clause names a key, and the other clauses name the keys after it
named-first : (found : Option Datum) (others : Datum → Option (List Datum)) (ks : List Datum) → option_and_then others found ≡ Some ks → (k : Datum) × (found ≡ Some k) × (others k ≡ Some ks)
named-first None others ks is = absurd (cc)
named-first (Some k) others ks is = (k, refl, is)

named-stay : (keypos : ℕ) (cs : Specification) (before ks : List Datum) (j : Datum) → named_from keypos before cs ≡ Some ks → list_any (is_same j) before ≡ true → list_any (is_same j) ks ≡ true
named-stay keypos [] before ks j is h = let same : before ≡ ks = cc in subst (λ l. list_any (is_same j) l ≡ true) same h
named-stay keypos (c ∷ cs) before ks j is h =
    let first = named-first (key_named keypos c.head) (λ k. named_from keypos (with_key before k) cs) ks is in
    named-stay keypos cs (with_key before first.0) ks j first.2 (keys-stay before first.0 j h)

named-apart : (keypos : ℕ) (cs : Specification) (before ks : List Datum) → named_from keypos before cs ≡ Some ks → IsDistinct is_same before → IsDistinct is_same ks
named-apart keypos [] before ks is h = let same : before ≡ ks = cc in subst (IsDistinct is_same) same h
named-apart keypos (c ∷ cs) before ks is h =
    let first = named-first (key_named keypos c.head) (λ k. named_from keypos (with_key before k) cs) ks is in
    named-apart keypos cs (with_key before first.0) ks first.2 (keys-apart before first.0 h)

pub named-differ : (keypos : ℕ) (spec : Specification) (ks : List Datum) → named_by keypos spec ≡ Some ks → IsDistinct is_same ks
unfolding IsDistinct
named-differ keypos spec ks is = named-apart keypos spec [] ks is tt

-- an element that fits a pattern that spells a term is that term
spelled-fits : (ps : Patterns) (n : ℕ) (f : ℕ → Option Datum) (ds : Items) (j k : Datum) → spelled_at ps n ≡ Some j → item_at ds n ≡ Some k → AllFit ps f ds → k ≡ j
spelled-fits no_patterns n f ds j k is there fits = absurd (cc)
spelled-fits (pattern p ps) n f no_items j k is there fits = absurd fits
spelled-fits (pattern p ps) zero f (item d ds) j k is there fits =
    let same : d ≡ k = cc in sym same ∙ fits-own p j f d is fits.0
spelled-fits (pattern p ps) (suc n) f (item d ds) j k is there fits = spelled-fits ps n f ds j k is there fits.1

-- an object that a head matches has the key that the head names
key-fits : (keypos : ℕ) (p : Pattern) (f : ℕ → Option Datum) (o j k : Datum) → key_named keypos p ≡ Some j → field_of keypos o ≡ Some k → Fits p f o → k ≡ j
key-fits keypos (variable n) f o j k is there fits = absurd (cc)
key-fits keypos anything f o j k is there fits = absurd (cc)
key-fits keypos (literal d) f o j k is there fits = absurd (cc)
key-fits zero (tuple_of ps) f o j k is there fits = absurd (cc)
key-fits (suc n) (tuple_of ps) f (tuple ds) j k is there fits = spelled-fits ps n f ds j k is there fits
key-fits (suc n) (tuple_of ps) f o j k is there fits = absurd fits
key-fits keypos (cell_of p q) f o j k is there fits = absurd (cc)
key-fits keypos (map_of fs) f o j k is there fits = absurd (cc)

-- a clause that names a key applies to no object with another
no-other : (keypos : ℕ) (c : Clause) (o j k : Datum) → key_named keypos c.head ≡ Some j → field_of keypos o ≡ Some k → (k ≡ j → ⊥) → ¬ IsApplicable c o
no-other keypos c o j k is there apart =
    λ a. apart (key-fits keypos c.head (lookup a.substitution) o j k is there a.applies.head.fits)

meant-from : (keypos : ℕ) (cs : Specification) (before ks : List Datum) (o k : Datum) (answer : Option Datum) → named_from keypos before cs ≡ Some ks → field_of keypos o ≡ Some k → list_any (is_same k) ks ≡ false → Means cs o answer ↔ (answer ≡ None)
meant-from keypos [] before ks o k answer is there none = (λ h. h, λ h. h)
meant-from keypos (c ∷ cs) before ks o k answer is there none =
    let first = named-first (key_named keypos c.head) (λ j. named_from keypos (with_key before j) cs) ks is in
    let among = named-stay keypos cs (with_key before first.0) ks first.0 first.2 (key-there before first.0) in
    let apart : k ≡ first.0 → ⊥ = λ same. absurd (let q : true ≡ false = sym among ∙ ap (λ j. list_any (is_same j) ks) (sym same) ∙ none in cc) in
    let never = no-other keypos c o first.0 k first.1 there apart in
    let others = meant-from keypos cs (with_key before first.0) ks o k answer first.2 there none in
    (by never others.0, λ h. inr (never, others.1 h))
  where
    by : ¬ IsApplicable c o → (Means cs o answer → answer ≡ None) → Means (c ∷ cs) o answer → answer ≡ None
    by never others (inl (s, applies, is)) = absurd (never (record { substitution = s; applies = applies }))
    by never others (inr (other, means)) = others means

pub unnamed-means : (keypos : ℕ) (spec : Specification) (ks : List Datum) (o k : Datum) (answer : Option Datum) → named_by keypos spec ≡ Some ks → field_of keypos o ≡ Some k → list_any (is_same k) ks ≡ false → Means spec o answer ↔ (answer ≡ None)
unnamed-means keypos spec ks o k answer is there none = meant-from keypos spec [] ks o k answer is there none
