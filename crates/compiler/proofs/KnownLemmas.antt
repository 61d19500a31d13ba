-- Slots of variables that are known.
use Rattle.std.proofs.Common.{◌≡◌, ◌==◌, ℕ, zero, suc, ◌<◌, cond, Bool, true, false, ◌||◌, List, [], ◌∷◌, ◌++◌, length, map, set, inl, inr, refl, sym, ◌∙◌, ap, subst, arith, Option, Some, None}
use Rattle.std.proofs.lemmas.Bool.{cases_eq, eq-eqb, ne_eqb, or_cases}
use Rattle.std.proofs.lemmas.List.{length-set}
use Rattle.term_core.specs.Datum.{Datum}
use Rattle.mcode.specs.Machine.{Bindings, binding}
use Rattle.mspec_syntax.proofs.RankLemmas.{rank-below}
use Rattle.mspec_syntax.specs.Grammar.{is_among}
use Rattle.mspec_syntax.specs.Rising.{rank_of}
use Rattle.mspec_match.specs.Slots.{assigned, Binds}
use Rattle.mspec_match.proofs.MatchLemmas.{among-append}
use Rattle.compiler_clauses.proofs.VariableLemmas.{one_among, among_later}
use Rattle.compiler.specs.Known.{Names, seen_at, own_slots, AreKept}

-- ---- slots

bound_same : (slots : Bindings) (i : ℕ) (d : Datum) → i < length slots → binding (set slots i (Some d)) i ≡ Some d
bound_same [] i d h = absurd (omega arith)
bound_same (x ∷ slots) zero d h = refl
bound_same (x ∷ slots) (suc i) d h = bound_same slots i d (omega arith)

bound_other : (slots : Bindings) (i j : ℕ) (d : Datum) → (i ≡ j → ⊥) → binding (set slots i (Some d)) j ≡ binding slots j
bound_other [] i j d h = refl
bound_other (x ∷ slots) zero zero d h = absurd (h refl)
bound_other (x ∷ slots) zero (suc j) d h = refl
bound_other (x ∷ slots) (suc i) zero d h = refl
bound_other (x ∷ slots) (suc i) (suc j) d h = bound_other slots i j d (λ e. h (ap suc e))

-- ---- ranks

pub rank_apart : (vs : List ℕ) (n m : ℕ) → is_among vs n ≡ true → is_among vs m ≡ true → (n ≡ m → ⊥) → rank_of vs n ≡ rank_of vs m → ⊥
rank_apart [] n m h k differ e = absurd (cc)
rank_apart (v ∷ vs) n m h k differ e =
    elim (cases_eq v n) [
      | inl z ↦
          elim (cases_eq v m) [
            | inl y ↦ differ (sym z ∙ y)
            | inr y ↦
                let first : cond (v == n) zero (suc (rank_of vs n)) ≡ zero = rw (eq-eqb v n z) refl in
                let second : cond (v == m) zero (suc (rank_of vs m)) ≡ suc (rank_of vs m) = rw (ne_eqb v m y) refl in
                absurd (let q = sym first ∙ e ∙ second in cc)
          ]
      | inr z ↦
          elim (cases_eq v m) [
            | inl y ↦
                let first : cond (v == n) zero (suc (rank_of vs n)) ≡ suc (rank_of vs n) = rw (ne_eqb v n z) refl in
                let second : cond (v == m) zero (suc (rank_of vs m)) ≡ zero = rw (eq-eqb v m y) refl in
                absurd (let q = sym first ∙ e ∙ second in cc)
            | inr y ↦
                let first : cond (v == n) zero (suc (rank_of vs n)) ≡ suc (rank_of vs n) = rw (ne_eqb v n z) refl in
                let second : cond (v == m) zero (suc (rank_of vs m)) ≡ suc (rank_of vs m) = rw (ne_eqb v m y) refl in
                let q = sym first ∙ e ∙ second in
                rank_apart vs n m (among_later v n vs z h) (among_later v m vs y k) differ (cc)
          ]
    ]

-- ---- what is assigned

pub assigned_own : (g : ℕ → Option Datum) (vs : List ℕ) (n : ℕ) → is_among vs n ≡ true → assigned vs (map g vs) n ≡ g n
assigned_own g [] n h = absurd (cc)
assigned_own g (v ∷ vs) n h =
    elim (cases_eq v n) [
      | inl z ↦ rw (eq-eqb v n z) (ap g z)
      | inr z ↦ rw (ne_eqb v n z) (assigned_own g vs n (among_later v n vs z h))
    ]

assigned_none : (g : ℕ → Option Datum) (vs : List ℕ) (n : ℕ) → is_among vs n ≡ false → assigned vs (map g vs) n ≡ None
assigned_none g [] n h = refl
assigned_none g (v ∷ vs) n h =
    elim (cases_eq v n) [
      | inl z ↦ absurd (let q = sym (ap (λ b. b || is_among vs n) (eq-eqb v n z)) ∙ h in cc)
      | inr z ↦ rw (ne_eqb v n z) (assigned_none g vs n (sym (ap (λ b. b || is_among vs n) (ne_eqb v n z)) ∙ h))
    ]

-- what is assigned is the value of a variable of the clause
pub assigned_some : (g : ℕ → Option Datum) (vs : List ℕ) (n : ℕ) (d : Datum) → assigned vs (map g vs) n ≡ Some d → (is_among vs n ≡ true) × (g n ≡ Some d)
assigned_some g vs n d h = by (is_among vs n) refl
  where
    by : (b : Bool) → is_among vs n ≡ b → (is_among vs n ≡ true) × (g n ≡ Some d)
    by true e = (e, sym (assigned_own g vs n e) ∙ h)
    by false e = absurd (let q = sym (assigned_none g vs n e) ∙ h in cc)

known_some : (b : Bool) (x : Option Datum) (d : Datum) → cond b x None ≡ Some d → (b ≡ true) × (x ≡ Some d)
known_some true x d h = (refl, h)
known_some false x d h = absurd (cc)

module _ (names : Names) (inside : (n : ℕ) → is_among names.own n ≡ true → is_among names.all n ≡ true) where
  -- a variable that wasn't known is bound
  pub bind_new : (slots : Bindings) (known : List ℕ) (n : ℕ) (d : Datum) → is_among names.own n ≡ true → is_among known n ≡ false → AreKept names slots known → Binds names.own (own_slots names slots known) (own_slots names (set slots (rank_of names.all n) (Some d)) (known ++ n ∷ [])) (λ s. s n ≡ Some d)
  bind_new slots known n d own new kept =
      let i = rank_of names.all n in
      let now = set slots i (Some d) in
      let within : i < length slots = omega (arith, rank-below names.all n (inside n own), kept.count) in
      let same : seen_at names now (known ++ n ∷ []) n ≡ Some d =
      rw (among-append known (n ∷ []) n) (rw new (rw (eq-eqb n n refl) (bound_same slots i d within))) in
      let other : (m : ℕ) → is_among names.own m ≡ true → (n ≡ m → ⊥) → seen_at names now (known ++ n ∷ []) m ≡ seen_at names slots known m =
      λ m own' differ.
      let apart = rank_apart names.all n m (inside n own) (inside m own') differ in
      let still : is_among (known ++ n ∷ []) m ≡ is_among known m = among-append known (n ∷ []) m ∙ ap (λ b. is_among known m || (b || false)) (ne_eqb n m differ) ∙ or_false (is_among known m) in
      rw still (ap (λ x. cond (is_among known m) x None) (bound_other slots i (rank_of names.all m) d apart)) in
      record {
        grown = λ m x h.
            let was = assigned_some (seen_at names slots known) names.own m x h in
            let told = known_some (is_among known m) _ x was.1 in
            let differ : n ≡ m → ⊥ = λ e. absurd (let q = sym new ∙ ap (is_among known) e ∙ told.0 in cc) in
            assigned_own (seen_at names now (known ++ n ∷ [])) names.own m was.0 ∙ other m was.0 differ ∙ was.1;
        holds = assigned_own (seen_at names now (known ++ n ∷ [])) names.own n own ∙ same;
        least = λ s over extends claim m x h.
            let is = assigned_some (seen_at names now (known ++ n ∷ [])) names.own m x h in
            elim (cases_eq n m) [
              | inl z ↦
                  let value : Some d ≡ Some x = sym same ∙ ap (seen_at names now (known ++ n ∷ [])) z ∙ is.1 in
                  sym (ap s z) ∙ claim ∙ value
              | inr z ↦ extends m x (assigned_own (seen_at names slots known) names.own m is.0 ∙ sym (other m is.0 z) ∙ is.1)
            ];
      }
    where
      or_false : (b : Bool) → (b || (false || false)) ≡ b
      or_false true = refl
      or_false false = refl

  pub kept_new : (slots : Bindings) (known : List ℕ) (n : ℕ) (d : Datum) → is_among names.own n ≡ true → is_among known n ≡ false → ((m : ℕ) → is_among known m ≡ true → is_among names.own m ≡ true) → AreKept names slots known → AreKept names (set slots (rank_of names.all n) (Some d)) (known ++ n ∷ [])
  kept_new slots known n d own new all kept =
      let i = rank_of names.all n in
      let within : i < length slots = omega (arith, rank-below names.all n (inside n own), kept.count) in
      record {
        count = length-set slots i (Some d) ∙ kept.count;
        held = λ m h.
            elim (or_cases (is_among known m) (is_among (n ∷ []) m) (sym (among-append known (n ∷ []) m) ∙ h)) [
              | inl z ↦
                  let was = kept.held m z in
                  let differ : n ≡ m → ⊥ = λ e. absurd (let q = sym new ∙ ap (is_among known) e ∙ z in cc) in
                  let apart = rank_apart names.all n m (inside n own) (inside m (all m z)) differ in
                  (was.0, bound_other slots i (rank_of names.all m) d apart ∙ was.1)
              | inr z ↦
                  let same = one_among n m z in
                  (d, subst (λ k. binding (set slots i (Some d)) (rank_of names.all k) ≡ Some d) same (bound_same slots i d within))
            ];
      }
