-- The keys that heads name, one after the other.
use Rattle.std.proofs.Common.{◌≡◌, ◌∙◌, ◌++◌, ℕ, zero, suc, ◌-◌, ◌<◌, ◌≤◌, Option, Some, None, Bor, List, [], ◌∷◌, length, refl, sym, ap, subst, arith}
use Rattle.std.specs.Prelude.{Bool, true, false, ◌||◌, cond, MatchOption}
use Rattle.std.specs.HashSet.{HashSet, Updates, contains_by}
use Rattle.std.specs.List.{HoldsAt, list_any}
use Rattle.std.proofs.lemmas.Cmp.{eq_by_cmp_equiv}
use Rattle.std.proofs.lemmas.List.Folds.{list_any-append}
use Rattle.term_core.specs.Datum.{Datum}
use Rattle.term_core.specs.OrderLaws.{datum_cmp_total}
use Rattle.term_operand.specs.Order.{is_same}
use Rattle.mspec_syntax.specs.Pattern.{Pattern, patterns_of, cells_of, own_term}
use Rattle.mspec_syntax.specs.Sound.{IsSoundPattern, AreSoundPatterns}
use Rattle.walk_query.specs.Named.{HasKeys, spelled_at, key_among, key_named}

-- the result of reading an element: it is there, or the list is too short
abbrev pub IsFound : Option (Bor Pattern) → List Pattern → ℕ → Type 0
IsFound o ps n = MatchOption o (length ps ≤ n) (λ x. (n < length ps) × HoldsAt (λ y. x.now ≡ y) ps n)

spelled-here : (x : Bor Pattern) (ps : List Pattern) (n : ℕ) → IsFound (Some x) ps n → own_term x.now ≡ spelled_at (patterns_of ps) n
spelled-here x [] n found = absurd (omega (arith, found.0))
spelled-here x (p ∷ ps) zero found = ap own_term (found.1 p)
spelled-here x (p ∷ ps) (suc n) found = spelled-here x ps n (omega (arith, found.0), found.1)

spelled-past : (ps : List Pattern) (n : ℕ) → length ps ≤ n → None ≡ spelled_at (patterns_of ps) n
spelled-past [] n past = refl
spelled-past (p ∷ ps) zero past = absurd (omega arith)
spelled-past (p ∷ ps) (suc n) past = spelled-past ps n (omega arith)

pub sound-here : (x : Bor Pattern) (ps : List Pattern) (n : ℕ) → IsFound (Some x) ps n → AreSoundPatterns (patterns_of ps) → IsSoundPattern x.now
sound-here x [] n found s = absurd (omega (arith, found.0))
sound-here x (p ∷ ps) zero found s = subst IsSoundPattern (sym (found.1 p)) s.0
sound-here x (p ∷ ps) (suc n) found s = sound-here x ps n (omega (arith, found.0), found.1) s.1

-- the key of a head is the element at the key's position, which is counted from 1
pub key-here : (x : Bor Pattern) (ps : List Pattern) (keypos n : ℕ) → n ≡ keypos - 1 → (keypos ≡ 0 → ⊥) → IsFound (Some x) ps n → own_term x.now ≡ key_among keypos (patterns_of ps)
key-here x ps zero n is some found = absurd (some refl)
key-here x ps (suc m) n is some found =
    let same : n ≡ m = omega (arith, is) in
    spelled-here x ps m (subst (IsFound (Some x) ps) same found)

pub key-past : (ps : List Pattern) (keypos n : ℕ) → n ≡ keypos - 1 → (keypos ≡ 0 → ⊥) → length ps ≤ n → None ≡ key_among keypos (patterns_of ps)
key-past ps zero n is some past = absurd (some refl)
key-past ps (suc m) n is some past = spelled-past ps m (omega (arith, is, past))

-- a list pattern names no key
pub no-key : (ps : List Pattern) (t p : Pattern) (keypos : ℕ) → cells_of ps t ≡ p → 0 < length ps → None ≡ key_named keypos p
no-key [] t p keypos is some = absurd (omega arith)
no-key (x ∷ ps) t p keypos is some = ap (key_named keypos) is

-- ---- a set of the keys so far

or_behind : (b c : Bool) → cond b true c ≡ (c || (b || false))
or_behind true true = refl
or_behind true false = refl
or_behind false true = refl
or_behind false false = refl

-- a set with one more key has the keys of the list with that key appended
pub key_put : {S : Type 0} (old new : HashSet Datum S) (ks more : List Datum) (k : Datum) → HasKeys old ks → Updates is_same old new k true → more ≡ ks ++ k ∷ [] → HasKeys new more
key_put old new ks more k has updates is q =
    updates.0 q ∙ ap (λ b. cond b true (contains_by (is_same q) old)) ((eq_by_cmp_equiv datum_cmp_total).symm k q) ∙ ap (cond (is_same q k) true) (has q) ∙ or_behind (is_same q k) (list_any (is_same q) ks) ∙ sym (list_any-append (is_same q) ks (k ∷ [])) ∙ sym (ap (list_any (is_same q)) is)
