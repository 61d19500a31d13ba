-- Conditions one by one, and clauses one by one.
use Rattle.std.proofs.Common.{◌≡◌, ℕ, suc, ◌+◌, ◌-◌, ◌<◌, slice_get, ◌≤◌, inl, inr, Option, Some, None, List, [], ◌∷◌, length, get_or, drop, refl, sym, ◌∙◌, ap, subst, arith}
use Rattle.std.proofs.lemmas.List.{drop_all}
use Rattle.term_core.specs.Datum.{Datum}
use Rattle.mspec_syntax.specs.Expression.{Expression}
use Rattle.mspec_syntax.specs.Specification.{Clause, Specification}
use Rattle.mspec_match.specs.Match.{Substitution, Matches}
use Rattle.mspec_match.specs.Slots.{NeverMatches}
use Rattle.mspec_match.proofs.MatchLemmas.{one-match}
use Rattle.mspec_meaning.proofs.KnownLemmas.{split_at}
use Rattle.mspec_meaning.specs.Meaning.{value_of, true_term, AllHold, Means, IsApplicable, Applies, body_value}
use Rattle.mspec_syntax.specs.declared.mode.Mode.TheVariants.{Condition, Body}

-- the remaining conditions decide for all
pub record HoldFront (es : List Expression) (i : ℕ) (s : Substitution) (o : Datum) : Type 0 where
  pub to : AllHold (drop i es) s o → AllHold es s o
  pub from : AllHold es s o → AllHold (drop i es) s o

pub HoldFront-more : (es : List Expression) (i : ℕ) (e : Expression) (s : Substitution) (o : Datum) → i < length es → e ≡ get_or es i e → value_of Condition e s o ≡ Some true_term → HoldFront es i s o → HoldFront es (i + 1) s o
HoldFront-more es i e s o h is holds front =
    let split : drop i es ≡ e ∷ drop (i + 1) es = split_at es i e h is in
    let P : List Expression → Type 0 = λ l. AllHold l s o in
    record {
      to = λ k. front.to (subst P (sym split) (holds, k));
      from = λ k. (subst P split (front.from k)).1;
    }

pub HoldFront-all : (es : List Expression) (i : ℕ) (s : Substitution) (o : Datum) → length es ≤ i → HoldFront es i s o → AllHold es s o
HoldFront-all es i s o end front =
    let P : List Expression → Type 0 = λ l. AllHold l s o in
    front.to (subst P (sym (drop_all i es end)) tt)

-- one condition that does not hold is enough
pub HoldFront-never : (es : List Expression) (i : ℕ) (e : Expression) (s : Substitution) (o : Datum) → i < length es → e ≡ get_or es i e → (value_of Condition e s o ≡ Some true_term → ⊥) → HoldFront es i s o → AllHold es s o → ⊥
HoldFront-never es i e s o h is fails front k =
    let split : drop i es ≡ e ∷ drop (i + 1) es = split_at es i e h is in
    let P : List Expression → Type 0 = λ l. AllHold l s o in
    fails (subst P split (front.from k)).0

-- the last expression gives the body's value
pub body_value-last : (es : List Expression) (s : Substitution) (o : Datum) (e : Expression) → slice_get es (length es - 1) ≡ Some e → body_value es s o ≡ value_of Body e s o
body_value-last [] s o e h = absurd (cc)
body_value-last (x ∷ []) s o e h = let same : x ≡ e = cc in ap (λ y. value_of Body y s o) same
body_value-last (x ∷ y ∷ es) s o e h =
    let count : length (x ∷ y ∷ es) - 1 ≡ suc (length (y ∷ es) - 1) = omega arith in
    let next = rw count at h in
    body_value-last (y ∷ es) s o e next

-- after a clause that does not apply, the remaining clauses decide
pub Means-skip : (cs : Specification) (i : ℕ) (c : Clause) (o : Datum) (answer : Option Datum) → i < length cs → c ≡ get_or cs i c → ¬ IsApplicable c o → Means (drop (i + 1) cs) o answer → Means (drop i cs) o answer
Means-skip cs i c o answer h is never rest =
    let P : Specification → Type 0 = λ l. Means l o answer in
    subst P (sym (split_at cs i c h is)) (inr (never, rest))

pub Means-here : (cs : Specification) (i : ℕ) (c : Clause) (o : Datum) (answer : Option Datum) (s : Substitution) → i < length cs → c ≡ get_or cs i c → Applies c s o → answer ≡ body_value c.body s o → Means (drop i cs) o answer
Means-here cs i c o answer s h is applies value =
    let P : Specification → Type 0 = λ l. Means l o answer in
    subst P (sym (split_at cs i c h is)) (inl (s, applies, value))

pub Means-end : (cs : Specification) (i : ℕ) (o : Datum) → length cs ≤ i → Means (drop i cs) o None
Means-end cs i o end = let P : Specification → Type 0 = λ l. Means l o None in subst P (sym (drop_all i cs end)) refl

-- a clause applies with the values of its slots, or not at all
pub clause-applies : (c : Clause) (s t : Substitution) (o p : Datum) (es : List Expression) → t ≡ s → p ≡ o → es ≡ c.conditions → Matches c.head s o → AllHold es t p → Applies c s o
clause-applies c s t o p es bound object conditions match hold =
    let P : Substitution → Type 0 = λ r. AllHold es r p in
    let Q : Datum → Type 0 = λ d. AllHold es s d in
    let R : List Expression → Type 0 = λ l. AllHold l s o in
    record { head = match; conditions = subst R conditions (subst Q object (subst P bound hold)) }

pub clause-fails : (c : Clause) (s t : Substitution) (o p : Datum) (es : List Expression) → t ≡ s → p ≡ o → es ≡ c.conditions → Matches c.head s o → (AllHold es t p → ⊥) → ¬ IsApplicable c o
clause-fails c s t o p es bound object conditions match fails = λ a.
    let one : a.substitution ≡ s = one-match c.head o a.substitution s a.applies.head match in
    let P : Substitution → Type 0 = λ r. AllHold c.conditions r o in
    let Q : Datum → Type 0 = λ d. AllHold c.conditions t d in
    let R : List Expression → Type 0 = λ l. AllHold l t p in
    fails (subst R (sym conditions) (subst Q (sym object) (subst P (one ∙ sym bound) a.applies.conditions)))

pub clause-unmatched : (c : Clause) (o : Datum) → NeverMatches c.head o → ¬ IsApplicable c o
clause-unmatched c o never = λ a. never a.substitution a.applies.head

pub first-answers : (c : Clause) (cs : Specification) (o : Datum) (answer : Option Datum) → IsApplicable c o → Means (c ∷ cs) o answer → Means (c ∷ []) o answer
first-answers c cs o answer a (inl h) = inl h
first-answers c cs o answer a (inr h) = absurd (h.0 a)

pub first-alone : (c : Clause) (cs : Specification) (o : Datum) (answer : Option Datum) → IsApplicable c o → Means (c ∷ []) o answer → Means (c ∷ cs) o answer
first-alone c cs o answer a (inl h) = inl h
first-alone c cs o answer a (inr h) = absurd (h.0 a)

pub others-answer : (c : Clause) (cs : Specification) (o : Datum) (answer : Option Datum) → ¬ IsApplicable c o → Means (c ∷ cs) o answer → Means cs o answer
others-answer c cs o answer never (inl h) = absurd (never (record { substitution = h.0; applies = h.1 }))
others-answer c cs o answer never (inr h) = h.1
