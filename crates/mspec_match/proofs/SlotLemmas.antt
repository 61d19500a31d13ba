-- Slots and claims on substitutions.
use Rattle.std.proofs.Common.{◌≡◌, ℕ, zero, suc, Bool, true, false, MatchBool, inl, inr, Option, Some, None, List, [], ◌∷◌, ◌++◌, map, length, get_or, slice_get, slice_set, refl, sym, ◌∙◌, ap, arith}
use Rattle.std.proofs.lemmas.Bool.{cases_eq, eq-eqb, ne_eqb}
use Rattle.term_core.specs.Datum.{Datum}
use Rattle.mspec_syntax.specs.Rising.{rising}
use Rattle.mspec_syntax.proofs.RisingLemmas.{Rises, Rises-tail, Rises-below, Rises-itself}
use Rattle.mspec_match.specs.Slots.{assigned, Binds, Answers, AreFree}

module _ {X : Type 0} (f : X → Option Datum) where
  -- the value of the variable at a place is that of the slot there
  pub assigned-get : (vs : List ℕ) (slots : List X) (i n : ℕ) (x : X) → Rises vs → slice_get vs i ≡ Some n → length slots ≡ length vs → assigned vs (map f slots) n ≡ f (get_or slots i x)
  assigned-get [] slots i n x h e same = absurd (cc)
  assigned-get (v ∷ vs) [] i n x h e same = absurd (omega arith)
  assigned-get (v ∷ vs) (y ∷ slots) zero n x h e same =
      let first : v ≡ n = cc in rw (eq-eqb v n first) refl
  assigned-get (v ∷ vs) (y ∷ slots) (suc i) n x h e same =
      let below = Rises-below v vs i n h e in
      rw (ne_eqb v n (λ z. absurd (omega arith))) (assigned-get vs slots i n x (Rises-tail v vs h) e (omega arith))

  assigned-set : (vs : List ℕ) (slots : List X) (i n : ℕ) (x : X) → Rises vs → slice_get vs i ≡ Some n → length slots ≡ length vs → assigned vs (map f (slice_set slots i x)) n ≡ f x
  assigned-set [] slots i n x h e same = absurd (cc)
  assigned-set (v ∷ vs) [] i n x h e same = absurd (omega arith)
  assigned-set (v ∷ vs) (y ∷ slots) zero n x h e same =
      let first : v ≡ n = cc in rw (eq-eqb v n first) refl
  assigned-set (v ∷ vs) (y ∷ slots) (suc i) n x h e same =
      let below = Rises-below v vs i n h e in
      rw (ne_eqb v n (λ z. absurd (omega arith))) (assigned-set vs slots i n x (Rises-tail v vs h) e (omega arith))

  assigned-other : (vs : List ℕ) (slots : List X) (i n m : ℕ) (x : X) → slice_get vs i ≡ Some n → (m ≡ n → ⊥) → assigned vs (map f (slice_set slots i x)) m ≡ assigned vs (map f slots) m
  assigned-other [] slots i n m x e differ = refl
  assigned-other (v ∷ vs) [] zero n m x e differ = refl
  assigned-other (v ∷ vs) [] (suc i) n m x e differ = refl
  assigned-other (v ∷ vs) (y ∷ slots) zero n m x e differ =
      let first : v ≡ n = cc in rw (ne_eqb v m (λ z. differ (sym z ∙ first))) refl
  assigned-other (v ∷ vs) (y ∷ slots) (suc i) n m x e differ =
      elim (cases_eq v m) [
        | inl z ↦ rw (eq-eqb v m z) refl
        | inr z ↦ rw (ne_eqb v m z) (assigned-other vs slots i n m x e differ)
      ]

  -- binding a free variable
  pub free-Binds : (vs : List ℕ) (slots : List X) (i n : ℕ) (x y : X) (d : Datum) → vs ≡ rising vs → slice_get vs i ≡ Some n → length slots ≡ length vs → f (get_or slots i y) ≡ None → f x ≡ Some d → Binds vs (map f slots) (map f (slice_set slots i x)) (λ s. s n ≡ Some d)
  free-Binds vs slots i n x y d kept e same free is =
      let order = Rises-itself vs kept in
      let before = assigned-get vs slots i n y order e same ∙ free in
      let after = assigned-set vs slots i n x order e same ∙ is in
      record {
        grown = λ m v known.
            elim (cases_eq m n) [
              | inl z ↦ absurd (let none = ap (assigned vs (map f slots)) (sym z) in let q = sym before ∙ none ∙ known in cc)
              | inr z ↦ assigned-other vs slots i n m x e z ∙ known
            ];
        holds = after;
        least = λ s over extends claim m v known.
            elim (cases_eq m n) [
              | inl z ↦
                  let q = sym after ∙ ap (assigned vs (map f (slice_set slots i x))) (sym z) ∙ known in
                  ap s z ∙ claim ∙ q
              | inr z ↦ extends m v (sym (assigned-other vs slots i n m x e z) ∙ known)
            ];
      }

  -- comparing with a variable that is bound
  pub bound-Answers : (r : Bool) (vs : List ℕ) (slots : List X) (i n : ℕ) (y : X) (c d : Datum) → vs ≡ rising vs → slice_get vs i ≡ Some n → length slots ≡ length vs → f (get_or slots i y) ≡ Some c → MatchBool r (c ≡ d) (c ≡ d → ⊥) → Answers r vs (map f slots) (map f slots) (λ s. s n ≡ Some d)
  bound-Answers true vs slots i n y c d kept e same is equal =
      let before = assigned-get vs slots i n y (Rises-itself vs kept) e same ∙ is in
      record { grown = λ m v known. known; holds = before ∙ ap Some equal; least = λ s over extends claim. extends }
  bound-Answers false vs slots i n y c d kept e same is differ =
      let before = assigned-get vs slots i n y (Rises-itself vs kept) e same ∙ is in
      λ s over extends claim.
      let known = sym (extends n c before) ∙ claim in
      let equal : c ≡ d = cc in differ equal

pub AreFree-push : {X : Type 0} (f : X → Option Datum) (xs : List X) (x : X) → f x ≡ None → AreFree (map f xs) → AreFree (map f (xs ++ x ∷ []))
AreFree-push f [] x e h = (e, tt)
AreFree-push f (y ∷ xs) x e h = (h.0, AreFree-push f xs x e h.1)
