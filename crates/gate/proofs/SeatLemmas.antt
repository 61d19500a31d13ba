-- What stays true of the views of a gate when one changes or is added.
use Rattle.std.proofs.Common.{◌≡◌, ◌≢◌, ℕ, zero, suc, ◌⊎◌, inl, inr, ◌++◌, List, [], ◌∷◌, length, set, refl, ap, sym, subst, ◌∙◌, ⊎_elim}
use mathlib.Core.Option.{some, some-ne-none, some-injective}
use lib.ListN.{get_elem?}
use Rattle.atomic_table.proofs.Lists.{at_set, at_longer, set_else}
use Rattle.part_core.specs.declared.settings.Settings.{Settings}
use Rattle.part_core.specs.Acts.{History}
use Rattle.gate.specs.declared.view.View.{View}
use Rattle.gate.specs.Rule.{Has, Holds, Fits, AreFit, AreApart, NobodyHolds, OneHolds}

-- ---- lists

pub set_there : {A : Type 0} (l : List A) (i : ℕ) (a b : A) → get_elem? l i ≡ some a → get_elem? (set l i b) i ≡ some b
set_there [] i a b e = absurd (some-ne-none a (sym e))
set_there (x ∷ xs) zero a b e = refl
set_there (x ∷ xs) (suc i) a b e = set_there xs i a b e

pub at_end : {A : Type 0} (l : List A) (a b : A) (j : ℕ) → get_elem? (l ++ a ∷ []) j ≡ some b
    → (get_elem? l j ≡ some b) ⊎ ((j ≡ length l) × (a ≡ b))
at_end [] a b zero e = inr (refl, some-injective a b e)
at_end [] a b (suc j) e = absurd (some-ne-none b (sym e))
at_end (x ∷ xs) a b zero e = inl e
at_end (x ∷ xs) a b (suc j) e = ⊎_elim (λ (h : get_elem? xs j ≡ some b). inl h) (λ (h : (j ≡ length xs) × (a ≡ b)). inr (ap suc h.0, h.1)) (at_end xs a b j e)

-- ---- one view changes

-- one view is replaced by another
module _ (views : List View) (id : ℕ) (v w : View) (at : get_elem? views id ≡ some v) where
  pub fit_set : (o : Settings) (log : History) → ((i : ℕ) (u : View) → i ≢ id → get_elem? views i ≡ some u → Fits o log u) → Fits o log w
      → AreFit o log (set views id w)
  fit_set o log others mine i u e = ⊎_elim
      (λ (h : (i ≡ id) × (w ≡ u)). subst (Fits o log) h.1 mine)
      (λ (h : (i ≢ id) × (get_elem? views i ≡ some u)). others i u h.0 h.1)
      (at_set views id i w u e)

  pub apart_set : AreApart views → ((n : ℕ) → Has w.role n → Has v.role n) → AreApart (set views id w)
  apart_set apart numbers i j a b n ea eb ha hb =
      let from : (k : ℕ) (u : View) → get_elem? (set views id w) k ≡ some u → Has u.role n → (u' : View) × (get_elem? views k ≡ some u') × Has u'.role n =
      λ k u e has. ⊎_elim
      (λ (h : (k ≡ id) × (w ≡ u)). (v, subst (λ (m : ℕ). get_elem? views m ≡ some v) (sym h.0) at, numbers n (subst (λ (x : View). Has x.role n) (sym h.1) has)))
      (λ (h : (k ≢ id) × (get_elem? views k ≡ some u)). (u, h.1, has))
      (at_set views id k w u e) in
      let x = from i a ea ha in
      let y = from j b eb hb in
      apart i j x.0 y.0 n x.1 y.1 x.2 y.2

  pub nobody_set : ¬ (Holds w.role) → ((i : ℕ) (u : View) → i ≢ id → get_elem? views i ≡ some u → ¬ (Holds u.role)) → NobodyHolds (set views id w)
  nobody_set mine others i u e holds = ⊎_elim
      (λ (h : (i ≡ id) × (w ≡ u)). mine (subst (λ (x : View). Holds x.role) (sym h.1) holds))
      (λ (h : (i ≢ id) × (get_elem? views i ≡ some u)). others i u h.0 h.1 holds)
      (at_set views id i w u e)

  -- a session that takes the part out is the only one that holds it
  pub one_set : (log : History) → NobodyHolds views → Holds w.role → w.seen ≡ log → OneHolds log (set views id w)
  one_set log nobody holds seen = record {
    seat = id;
    view = w;
    there = set_there views id v w at;
    holds = holds;
    seen = seen;
    only = λ i u e h. ⊎_elim
        (λ (x : (i ≡ id) × (w ≡ u)). x.0)
        (λ (x : (i ≢ id) × (get_elem? views i ≡ some u)). absurd (nobody i u x.1 h))
        (at_set views id i w u e);
  }

  -- the change of another view leaves the one that holds the part
  pub one_kept : (log : History) → OneHolds log views → ¬ (Holds v.role) → ¬ (Holds w.role) → OneHolds log (set views id w)
  one_kept log one before now =
      let apart : one.seat ≢ id = λ same. before (subst (λ (x : View). Holds x.role) (some-injective one.view v (sym one.there ∙ ap (get_elem? views) same ∙ at)) one.holds) in
      record {
        seat = one.seat;
        view = one.view;
        there = set_else views id one.seat w apart ∙ one.there;
        holds = one.holds;
        seen = one.seen;
        only = λ i u e h. ⊎_elim
            (λ (x : (i ≡ id) × (w ≡ u)). absurd (now (subst (λ (y : View). Holds y.role) (sym x.1) h)))
            (λ (x : (i ≢ id) × (get_elem? views i ≡ some u)). one.only i u x.1 h)
            (at_set views id i w u e);
      }

-- ---- one view is added

module _ (views : List View) (w : View) where
  pub fit_more : (o : Settings) (log : History) → AreFit o log views → Fits o log w → AreFit o log (views ++ w ∷ [])
  fit_more o log others mine i u e = ⊎_elim
      (λ (h : get_elem? views i ≡ some u). others i u h)
      (λ (h : (i ≡ length views) × (w ≡ u)). subst (Fits o log) h.1 mine)
      (at_end views w u i e)

  pub apart_more : AreApart views → ((i : ℕ) (u : View) (n : ℕ) → get_elem? views i ≡ some u → Has u.role n → ¬ (Has w.role n))
      → AreApart (views ++ w ∷ [])
  apart_more apart new i j a b n ea eb ha hb = ⊎_elim
      (λ (x : get_elem? views i ≡ some a). ⊎_elim
      (λ (y : get_elem? views j ≡ some b). apart i j a b n x y ha hb)
      (λ (y : (j ≡ length views) × (w ≡ b)). absurd (new i a n x ha (subst (λ (z : View). Has z.role n) (sym y.1) hb)))
      (at_end views w b j eb))
      (λ (x : (i ≡ length views) × (w ≡ a)). ⊎_elim
      (λ (y : get_elem? views j ≡ some b). absurd (new j b n y hb (subst (λ (z : View). Has z.role n) (sym x.1) ha)))
      (λ (y : (j ≡ length views) × (w ≡ b)). x.0 ∙ sym y.0)
      (at_end views w b j eb))
      (at_end views w a i ea)

  pub nobody_more : NobodyHolds views → ¬ (Holds w.role) → NobodyHolds (views ++ w ∷ [])
  nobody_more nobody mine i u e holds = ⊎_elim
      (λ (h : get_elem? views i ≡ some u). nobody i u h holds)
      (λ (h : (i ≡ length views) × (w ≡ u)). mine (subst (λ (z : View). Holds z.role) (sym h.1) holds))
      (at_end views w u i e)

  pub one_more : (log : History) → OneHolds log views → ¬ (Holds w.role) → OneHolds log (views ++ w ∷ [])
  one_more log one mine = record {
    seat = one.seat;
    view = one.view;
    there = at_longer views (w ∷ []) one.seat one.view one.there;
    holds = one.holds;
    seen = one.seen;
    only = λ i u e h. ⊎_elim
        (λ (x : get_elem? views i ≡ some u). one.only i u x h)
        (λ (x : (i ≡ length views) × (w ≡ u)). absurd (mine (subst (λ (z : View). Holds z.role) (sym x.1) h)))
        (at_end views w u i e);
  }
