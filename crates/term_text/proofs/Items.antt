-- Items separated by commas.
use Rattle.std.proofs.Common.{ℕ, suc, ◌≤◌, ◌<◌, Bool, true, false, List, [], ◌∷◌, length, arith}
use Rattle.std.specs.Prelude.{IfOk, ◌==◌}
use Rattle.std.proofs.lemmas.Bool.{eqb-true}
use Rattle.term_text.specs.Character.{comma}
use Rattle.term_text.specs.Tokens.{Gap, Comment}
use Rattle.term_text.specs.Tokens.Gap.{no_gap, white, comment}
use Rattle.term_text.specs.Tokens.Comment.{ended, passed}
use Rattle.term_text.specs.TokenReading.{Read, after_gap, steps, all_steps}
use Rattle.term_text.specs.Reading.{comma_in, after_comma, separated}
use Rattle.term_text.proofs.Steps.{bind_holds, holds_at, weaker, Hands, steps_hold, Shrinks}
use Rattle.term_text.proofs.Tokens.{Behind, gap_holds, if_is}
use Rattle.term_text.proofs.Tokens.Behind.{something, nothing}

pub gap_within : (text rest : List ℕ) → Behind text rest → 0 < length rest → Gap text rest
gap_within text rest (something g) h = g
gap_within text rest (nothing g l) h = absurd (omega arith)

-- the gap before what follows
pub gap_some : (text : List ℕ) → 0 < length (after_gap false text) → Gap text (after_gap false text)
gap_some text h = gap_within text (after_gap false text) (gap_holds text) h

mutual
  pub gap_shorter : {text rest : List ℕ} → Gap text rest → length rest ≤ length text
  gap_shorter no_gap = omega arith
  gap_shorter (white h g) = omega (arith, gap_shorter g)
  gap_shorter (comment k) = omega (arith, comment_shorter k)

  pub comment_shorter : {text rest : List ℕ} → Comment text rest → length rest ≤ length text
  comment_shorter (ended g) = omega (arith, gap_shorter g)
  comment_shorter (passed n k) = omega (arith, comment_shorter k)

behind_shorter : (text rest : List ℕ) → Behind text rest → length rest ≤ length text
behind_shorter text rest (something g) = gap_shorter g
behind_shorter text rest (nothing g l) = omega arith

pub after_gap_shorter : (text : List ℕ) → length (after_gap false text) ≤ length text
after_gap_shorter text = behind_shorter text (after_gap false text) (gap_holds text)

-- what follows an item
pub data AfterItem (text : List ℕ) : Bool → List ℕ → Type 0 where
  more_come : {u rest : List ℕ} → Gap text (comma ∷ u) → Behind u rest → AfterItem text true rest
  no_more_come : {rest : List ℕ} → Behind text rest → AfterItem text false rest

after_item_in : (text g : List ℕ) → Behind text g → AfterItem text (comma_in g).0 (comma_in g).1
after_item_in text [] b = no_more_come b
after_item_in text (c ∷ cs) b =
    if_is (λ (p : Bool × List ℕ). AfterItem text p.0 p.1) (c == comma) _ _
    (λ e. more_come (rw (eqb-true c comma e) at (gap_within text (c ∷ cs) b (omega arith))) (gap_holds cs))
    (λ e. no_more_come b)

pub after_item : (text : List ℕ) → AfterItem text (after_comma text).0 (after_comma text).1
after_item text = after_item_in text (after_gap false text) (gap_holds text)

after_item_shorter : (text : List ℕ) (b : Bool) (rest : List ℕ) → AfterItem text b rest → length rest ≤ length text
after_item_shorter text b rest (more_come {u} g k) = omega (arith, gap_shorter g, behind_shorter u rest k)
after_item_shorter text b rest (no_more_come k) = behind_shorter text rest k

-- items separated by commas: what was made before, the text, what is made after, and the remaining text
pub data Items {S : Type 0} (Item : S → List ℕ → S → List ℕ → Type 0) : S → List ℕ → S → List ℕ → Type 0 where
  one : {s u : S} {text t rest : List ℕ} → Item s text u t → Gap t rest → Items Item s text u rest
  more : {s u v : S} {text t w x rest : List ℕ} → Item s text u t → Gap t (comma ∷ w) → Gap w x → Items Item u x v rest → Items Item s text v rest

module _ {S : Type 0} (Item : S → List ℕ → S → List ℕ → Type 0) (item : S → List ℕ → Read S) (holds : (s : S) (text : List ℕ) → IfOk (item s text) (λ x. Item s text x.0 x.1)) (begun : (s : S) (text : List ℕ) (u : S) (rest : List ℕ) → Item s text u rest → length rest < length text) where
  -- an item was found if something follows
  record Found (s : S) (text : List ℕ) (u : S) (rest : List ℕ) : Type 0 where
    some : 0 < length text
    items : 0 < length rest → Items Item s text u rest

  item_hands : (s u : S) (text t : List ℕ) → Item s text u t → (b : Bool) (rest : List ℕ) → AfterItem t b rest → Hands (separated item) Found s text (b, u, rest)
  item_hands s u text t i true rest (more_come {u = w} g k) = λ v end f. record { some = let lt = begun s text u t i in omega arith; items = λ h. more i g (gap_within w rest k f.some) (f.items h) }
  item_hands s u text t i false rest (no_more_come k) = record { some = let lt = begun s text u t i in omega arith; items = λ h. one i (gap_within t rest k h) }

  found : (n : ℕ) (s : S) (text : List ℕ) → IfOk (steps (separated item) n s text) (λ x. Found s text x.0 x.1)
  found n s text = steps_hold (separated item) Found (λ s text. bind_holds (λ (x : S × List ℕ). Item s text x.0 x.1) (Hands (separated item) Found s text) (item s text) _ (holds s text) (λ x i. item_hands s x.0 text x.1 i (after_comma x.1).0 (after_comma x.1).1 (after_item x.1))) n s text

  pub separated_holds : (s : S) (text : List ℕ) → IfOk (all_steps (separated item) s text) (λ x. 0 < length x.1 → Items Item s text x.0 x.1)
  separated_holds s text = weaker (λ (x : S × List ℕ). Found s text x.0 x.1) _ (all_steps (separated item) s text) (λ x f. f.items) (found (suc (length text)) s text)

  item_shrinks : (s : S) (text : List ℕ) → IfOk (separated item s text) (λ t. length t.2 < length text)
  item_shrinks s text = bind_holds (λ (x : S × List ℕ). Item s text x.0 x.1) (λ (t : Bool × S × List ℕ). length t.2 < length text) (item s text) _ (holds s text) (λ x i. let lt = begun s text x.0 x.1 i in let le = after_item_shorter x.1 _ _ (after_item x.1) in omega arith)

  pub separated_shrinks : Shrinks (separated item)
  separated_shrinks = record { shorter = λ s text t e goes. holds_at (λ (t : Bool × S × List ℕ). length t.2 < length text) (separated item s text) t (item_shrinks s text) e }
