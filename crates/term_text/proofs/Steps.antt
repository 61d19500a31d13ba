-- Reading in steps.
use Rattle.std.proofs.Common.{◌≡◌, ℕ, zero, suc, ◌<◌, Bool, true, false, cond, List, length, Result, Ok, Err, refl, sym, ◌∙◌, arith}
use Rattle.std.specs.Prelude.{IfOk}
use Rattle.term_text.specs.declared.stop.Stop.{Stop}
use Rattle.term_text.specs.declared.stop.Stop.TheVariants as stops
use Rattle.term_text.specs.TokenReading.{Fault, Read, ◌>>=◌, Fails, Step, steps, all_steps}

-- a step that did not fail, followed by another
pub bind_holds : {A B : Type 0} (P : A → Type 0) (Q : B → Type 0) (r : Result A Fault) (f : A → Result B Fault) → IfOk r P → ((x : A) → P x → IfOk (f x) Q) → IfOk (r >>= f) Q
bind_holds P Q (Ok x) f h k = k x h
bind_holds P Q (Err e) f h k = tt

pub if_holds : {A : Type 0} (P : A → Type 0) (b : Bool) (r t : Result A Fault) → (b ≡ true → IfOk r P) → (b ≡ false → IfOk t P) → IfOk (cond b r t) P
if_holds P true r t h k = h refl
if_holds P false r t h k = k refl

-- what holds for each value that is read, given the equation that says so
pub holds_from : {A : Type 0} (P : A → Type 0) (r : Result A Fault) → ((x : A) → r ≡ Ok x → P x) → IfOk r P
holds_from P (Ok x) h = h x refl
holds_from P (Err e) h = tt

pub holds_at : {A : Type 0} (P : A → Type 0) (r : Result A Fault) (x : A) → IfOk r P → r ≡ Ok x → P x
holds_at P (Ok y) x h e = let same : y ≡ x = cc in rw (← same) h
holds_at P (Err d) x h e = absurd cc

pub weaker : {A : Type 0} (P Q : A → Type 0) (r : Result A Fault) → ((x : A) → P x → Q x) → IfOk r P → IfOk r Q
weaker P Q (Ok x) k h = k x h
weaker P Q (Err e) k h = tt

bind_same : {A B : Type 0} (r : Result A Fault) (f g : A → Result B Fault) → ((x : A) → r ≡ Ok x → f x ≡ g x) → (r >>= f) ≡ (r >>= g)
bind_same (Ok x) f g h = h x refl
bind_same (Err e) f g h = refl

if_same : {A : Type 0} (b : Bool) (x y z : A) → (b ≡ true → x ≡ y) → cond b x z ≡ cond b y z
if_same true x y z h = h refl
if_same false x y z h = refl

-- each step but the last leaves less of the text
pub record Shrinks {S : Type 0} (step : Step S) : Type 0 where
  pub shorter : (s : S) (text : List ℕ) (t : Bool × S × List ℕ) → step s text ≡ Ok t → t.0 ≡ true → length t.2 < length text

enough : {S : Type 0} (step : Step S) → Shrinks step → (m n : ℕ) (s : S) (text : List ℕ) → length text < m → length text < n → steps step m s text ≡ steps step n s text
unfolding steps
enough step h zero n s text l k = absurd (omega arith)
enough step h (suc m) zero s text l k = absurd (omega arith)
enough step h (suc m) (suc n) s text l k =
    bind_same (step s text) _ _
    (λ t e. if_same t.0 _ _ _ (λ goes. let lt = h.shorter s text t e goes in enough step h m n t.1 t.2 (omega arith) (omega arith)))

-- all steps are the first step and the others
pub all_steps_is : {S : Type 0} (step : Step S) → Shrinks step → (s : S) (text : List ℕ) → all_steps step s text ≡ (step s text >>= λ t. cond t.0 (all_steps step t.1 t.2) (Ok (t.1, t.2)))
unfolding steps
all_steps_is step h s text =
    bind_same (step s text) _ _
    (λ t e. if_same t.0 _ _ _ (λ goes. let lt = h.shorter s text t e goes in enough step h (length text) (suc (length t.2)) t.1 t.2 lt (omega arith)))

pub goes_on : {S : Type 0} (step : Step S) → Shrinks step → (s u : S) (text t : List ℕ) (total : Read S) → step s text ≡ Ok (true, u, t) → all_steps step s text ≡ total → all_steps step u t ≡ total
goes_on step h s u text t total e so_far =
    let one : all_steps step s text ≡ all_steps step u t = all_steps_is step h s text ∙ rw e refl in
    sym one ∙ so_far

pub is_done : {S : Type 0} (step : Step S) → Shrinks step → (s u : S) (text t : List ℕ) (total : Read S) → step s text ≡ Ok (false, u, t) → all_steps step s text ≡ total → total ≡ Ok (u, t)
is_done step h s u text t total e so_far =
    let one : all_steps step s text ≡ Ok (u, t) = all_steps_is step h s text ∙ rw e refl in
    sym so_far ∙ one

pub ends : {S : Type 0} (step : Step S) → Shrinks step → (e : Stop) (s : S) (text : List ℕ) (total : Read S) → Fails e (step s text) → all_steps step s text ≡ total → Fails e total
ends step h stops.Memory s text total f so_far = tt
ends step h (stops.At cause left) s text total f so_far =
    let one : all_steps step s text ≡ Err (cause, left) = all_steps_is step h s text ∙ rw f refl in
    sym so_far ∙ one

-- What each step preserves holds at the end.
module _ {S : Type 0} (step : Step S) (R : S → List ℕ → S → List ℕ → Type 0) where
  abbrev pub Hands : S → List ℕ → Bool × S × List ℕ → Type 0
  Hands s text t = elim t.0 [ true ↦ (u : S) (rest : List ℕ) → R t.1 t.2 u rest → R s text u rest | false ↦ R s text t.1 t.2 ]

  handed : (n : ℕ) (s : S) (text : List ℕ) (again : (u : S) (rest : List ℕ) → IfOk (steps step n u rest) (λ x. R u rest x.0 x.1)) (t : Bool × S × List ℕ) → Hands s text t → IfOk (cond t.0 (steps step n t.1 t.2) (Ok (t.1, t.2))) (λ x. R s text x.0 x.1)
  handed n s text again (true, u, rest) h = weaker (λ x. R u rest x.0 x.1) (λ x. R s text x.0 x.1) (steps step n u rest) (λ x. h x.0 x.1) (again u rest)
  handed n s text again (false, u, rest) h = h

  pub steps_hold : ((s : S) (text : List ℕ) → IfOk (step s text) (Hands s text)) → (n : ℕ) (s : S) (text : List ℕ) → IfOk (steps step n s text) (λ x. R s text x.0 x.1)
  unfolding steps
  steps_hold each zero s text = tt
  steps_hold each (suc n) s text = bind_holds (Hands s text) (λ x. R s text x.0 x.1) (step s text) _ (each s text) (λ t h. handed n s text (λ u rest. steps_hold each n u rest) t h)
