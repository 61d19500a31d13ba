-- The variables of the clauses of a specification are among those of the specification.
use Rattle.std.proofs.Common.{◌≡◌, ◌∙◌, ℕ, ◌||◌, ◌==◌, Bool, true, false, inl, inr, List, [], ◌∷◌, ◌++◌, refl, sym, ap}
use Rattle.std.specs.Prelude.{All}
use Rattle.std.proofs.lemmas.Bool.{cases_eq, ne_eqb}
use Rattle.std.proofs.lemmas.List.Elements.{All-nil, All-cons}
use Rattle.std.proofs.lemmas.List.Folds.{list_any-append}
use Rattle.mspec_syntax.specs.Grammar.{is_among}
use Rattle.mspec_syntax.specs.Pattern.{pattern_variables}
use Rattle.mspec_syntax.specs.Specification.{Clause, Specification, clause_variables, heads_variables, specification_variables}
use Rattle.mspec_syntax.proofs.RisingLemmas.{among-rising}
use Rattle.compiler_clauses.specs.Writable.{AreAmong}

-- ---- numbers in two lists, and in a list of one

pub among_joined : (xs ys : List ℕ) (n : ℕ) → is_among (xs ++ ys) n ≡ (is_among xs n || is_among ys n)
among_joined xs ys n = list_any-append (λ m. m == n) xs ys

pub among_left : (xs ys : List ℕ) → AreAmong xs (xs ++ ys)
among_left xs ys n h = among_joined xs ys n ∙ ap (λ b. b || is_among ys n) h

pub among_right : (xs ys : List ℕ) → AreAmong ys (xs ++ ys)
among_right xs ys n h = among_joined xs ys n ∙ or_true (is_among xs n) (is_among ys n) h
  where
    or_true : (a b : Bool) → b ≡ true → (a || b) ≡ true
    or_true true b h = refl
    or_true false b h = h

pub one_among : (n m : ℕ) → is_among (n ∷ []) m ≡ true → n ≡ m
one_among n m h =
    elim (cases_eq n m) [
      | inl e ↦ e
      | inr differ ↦ absurd (let q = sym (ap (λ b. b || false) (ne_eqb n m differ)) ∙ h in cc)
    ]

-- a number of a list that isn't its first is in the rest
pub among_later : (v n : ℕ) (vs : List ℕ) → (v ≡ n → ⊥) → is_among (v ∷ vs) n ≡ true → is_among vs n ≡ true
among_later v n vs differ among = sym (ap (λ b. b || is_among vs n) (ne_eqb v n differ)) ∙ among

-- ---- clauses

-- the variables of a head, unsorted, are among those of the specification
pub head_inside : (vs : List ℕ) (c : Clause) → AreAmong (clause_variables c) vs → AreAmong (pattern_variables c.head) vs
head_inside vs c inside n h = inside n (among-rising (pattern_variables c.head) n ∙ h)

heads_inside : (vs : List ℕ) (cs : Specification) → AreAmong (heads_variables cs) vs → All (λ c. AreAmong (clause_variables c) vs) cs
heads_inside vs [] inside = All-nil (λ c. AreAmong (clause_variables c) vs)
heads_inside vs (c ∷ cs) inside =
    let head = pattern_variables c.head in
    All-cons (λ d. AreAmong (clause_variables d) vs) c cs
    (λ n h. inside n (among_left head (heads_variables cs) n (sym (among-rising head n) ∙ h)))
    (heads_inside vs cs (λ n h. inside n (among_right head (heads_variables cs) n h)))

-- each clause's variables are among those of the specification
pub variables_inside : (spec : Specification) → All (λ c. AreAmong (clause_variables c) (specification_variables spec)) spec
variables_inside spec =
    heads_inside (specification_variables spec) spec (λ n h. among-rising (heads_variables spec) n ∙ h)
