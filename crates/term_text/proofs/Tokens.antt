-- What the readers of tokens give is what the text spells, and vice versa.
use Rattle.std.proofs.Common.{◌≡◌, ◌≢◌, ℕ, suc, ◌+◌, ◌≤◌, ◌<◌, inl, inr, Bool, true, false, cond, List, [], ◌∷◌, ◌++◌, length, Option, Some, None, Ok, refl, sym, ◌∙◌, arith, append_assoc}
use Rattle.std.specs.Prelude.{IfOk, ◌==◌}
use Rattle.std.proofs.lemmas.Bool.{eqb-true, eqb-false, eq-eqb, ne_eqb, le-leb, cases_eq}
use Rattle.std.proofs.lemmas.List.{append-nil, length-append}
use Rattle.std.specs.List.{AllByRecursion}
use Rattle.term_text.specs.Character.{backslash, escaped}
use Rattle.term_text.specs.declared.token.Marks.{Marks}
use Rattle.term_text.specs.Tokens.{Quoted, Gap, Comment}
use Rattle.term_text.specs.Tokens.Quoted.{closed, plain, escape}
use Rattle.term_text.specs.Character.{line_feed, percent, is_white_space}
use Rattle.term_text.specs.Tokens.{IsLastComment}
use Rattle.term_text.specs.Tokens.Gap.{no_gap, white, comment}
use Rattle.term_text.specs.Tokens.Comment.{ended, passed}
use Rattle.term_text.specs.declared.stop.Stop.{Stop}
use Rattle.term_text.specs.declared.stop.Stop.TheVariants as stops
use Rattle.term_text.specs.TokenReading.{number_run, Fails}
use Rattle.term_text.specs.TokenReading.{◌>>=◌, after_gap, character_at, marked, is_allowed, next_quoted, pushed, quoted_step, quoted_at, steps, all_steps}
use Rattle.term_text.proofs.Steps.{bind_holds, if_holds, holds_at, Hands, steps_hold, Shrinks, all_steps_is}

pub data IsCharacter (g : Bool) (c : ℕ) : List ℕ → ℕ → List ℕ → Type 0 where
  as_it_is : {text : List ℕ} → c ≢ backslash → is_allowed g c ≡ true → IsCharacter g c text c text
  as_escape : {e x : ℕ} {rest : List ℕ} → c ≡ backslash → escaped e ≡ Some x → IsCharacter g c (e ∷ rest) x rest

escape_holds : (g : Bool) (c e : ℕ) (rest start : List ℕ) (o : Option ℕ) → c ≡ backslash → escaped e ≡ o → IfOk (Rattle.term_text.specs.TokenReading.escape_as o start rest) (λ x. IsCharacter g c (e ∷ rest) x.0 x.1)
escape_holds g c e rest start None b h = tt
escape_holds g c e rest start (Some x) b h = as_escape b h

pub character_holds : (g : Bool) (c : ℕ) (text : List ℕ) → IfOk (character_at g (c ∷ text)) (λ x. IsCharacter g c text x.0 x.1)
unfolding character_at
character_holds g c [] = if_holds _ (c == backslash) _ _ (λ e. tt) (λ e. if_holds _ (is_allowed g c) _ _ (λ l. as_it_is (eqb-false c backslash e) l) (λ l. tt))
character_holds g c (e ∷ rest) =
    if_holds _ (c == backslash) _ _ (λ b. escape_holds g c e rest (c ∷ e ∷ rest) (escaped e) (eqb-true c backslash b) refl)
    (λ b. if_holds _ (is_allowed g c) _ _ (λ l. as_it_is (eqb-false c backslash b) l) (λ l. tt))

escaped_small : (e x : ℕ) → escaped e ≡ Some x → x ≤ 92
escaped_small e x h = grind arith

pub escaped_allowed : (g : Bool) (e x : ℕ) → escaped e ≡ Some x → is_allowed g x ≡ true
escaped_allowed false e x h = refl
escaped_allowed true e x h = le-leb x 255 (omega (arith, escaped_small e x h))

character_shorter : (g : Bool) (c : ℕ) (text : List ℕ) (x : ℕ) (rest : List ℕ) → IsCharacter g c text x rest → length rest < suc (length text)
character_shorter g c text x rest (as_it_is n l) = omega arith
character_shorter g c text x rest (as_escape b h) = omega arith

-- the characters so far, followed by those up to the closing mark
pub record Reads (m : Marks) (cs text ds rest : List ℕ) : Type 0 where
  pub more : List ℕ
  pub joined : ds ≡ cs ++ more
  pub quoted : Quoted m.mark text more rest
  pub below : AllByRecursion (λ c. is_allowed m.only_bytes c ≡ true) more
  pub within : length cs ≤ m.room → length ds ≤ m.room

one_more : (m : Marks) → (c : ℕ) (cs text : List ℕ) (x : ℕ) (t : List ℕ) → c ≢ m.mark → length cs ≢ m.room → IsCharacter m.only_bytes c text x t → (ds rest : List ℕ) → Reads m (cs ++ x ∷ []) t ds rest → Reads m cs (c ∷ text) ds rest
one_more m c cs text x t ne room (as_it_is n l) ds rest r = record {
  more = c ∷ r.more;
  joined = r.joined ∙ append_assoc cs (c ∷ []) r.more;
  quoted = plain ne n r.quoted;
  below = (l, r.below);
  within = λ h. r.within (omega (arith, length-append cs (c ∷ [])));
}
one_more m c cs text x t ne room (as_escape {e} b h) ds rest r = record {
  more = x ∷ r.more;
  joined = r.joined ∙ append_assoc cs (x ∷ []) r.more;
  quoted = rw b (escape h r.quoted);
  below = (escaped_allowed m.only_bytes e x h, r.below);
  within = λ k. r.within (omega (arith, length-append cs (x ∷ [])));
}

step_holds : (m : Marks) → (cs text : List ℕ) → IfOk (quoted_step m cs text) (Hands (quoted_step m) (Reads m) cs text)
unfolding quoted_step next_quoted
step_holds m cs [] = tt
step_holds m cs (c ∷ text) =
    bind_holds (λ (x : Option ℕ × List ℕ). Hands (quoted_step m) (Reads m) cs (c ∷ text) (pushed cs x.0 x.1)) _ _ _
    (if_holds _ (c == m.mark) _ _
    (λ e. record { more = []; joined = sym (append-nil cs); quoted = rw (eqb-true c m.mark e) closed; below = tt; within = λ h. h })
    (λ e. if_holds _ (length cs == m.room) _ _ (λ _. tt)
    (λ r. bind_holds (λ (x : ℕ × List ℕ). IsCharacter m.only_bytes c text x.0 x.1) _ (character_at m.only_bytes (c ∷ text)) _ (character_holds m.only_bytes c text)
    (λ x h. λ ds rest. one_more m c cs text x.0 x.1 (eqb-false c m.mark e) (eqb-false (length cs) m.room r) h ds rest))))
    (λ x h. h)

shorter_holds : (m : Marks) (cs text : List ℕ) → IfOk (quoted_step m cs text) (λ t. t.0 ≡ true → length t.2 < length text)
unfolding quoted_step next_quoted
shorter_holds m cs [] = tt
shorter_holds m cs (c ∷ text) =
    bind_holds (λ (x : Option ℕ × List ℕ). (pushed cs x.0 x.1).0 ≡ true → length (pushed cs x.0 x.1).2 < suc (length text)) _ _ _
    (if_holds _ (c == m.mark) _ _
    (λ e. λ no. absurd cc)
    (λ e. if_holds _ (length cs == m.room) _ _ (λ _. tt)
    (λ r. bind_holds (λ (x : ℕ × List ℕ). IsCharacter m.only_bytes c text x.0 x.1) _ (character_at m.only_bytes (c ∷ text)) _ (character_holds m.only_bytes c text)
    (λ x h. λ goes. character_shorter m.only_bytes c text x.0 x.1 h))))
    (λ x h. h)

pub quoted_shrinks : (m : Marks) → Shrinks (quoted_step m)
quoted_shrinks m = record { shorter = λ s text t e. holds_at (λ (t : Bool × List ℕ × List ℕ). t.0 ≡ true → length t.2 < length text) (quoted_step m s text) t (shorter_holds m s text) e }

pub quoted_step_fails : (e : Stop) (m : Marks) (cs text : List ℕ) (count : ℕ) → count ≡ length cs → Fails e (next_quoted m count text) → Fails e (quoted_step m cs text)
unfolding quoted_step
quoted_step_fails stops.Memory m cs text count h f = tt
quoted_step_fails (stops.At cause left) m cs text count h f = rw (← h, f) refl

pub quoted_step_is : (m : Marks) (cs text : List ℕ) (count : ℕ) (next : Option ℕ) (rest : List ℕ) → count ≡ length cs → next_quoted m count text ≡ Ok (next, rest) → quoted_step m cs text ≡ Ok (pushed cs next rest)
unfolding quoted_step
quoted_step_is m cs text count next rest h e = rw (← h, e) refl

-- what is read as quoted characters is what the text spells
pub quoted_holds : (m : Marks) → (text : List ℕ) → IfOk (quoted_at m text) (λ x. Reads m [] text x.0 x.1)
quoted_holds m text = steps_hold (quoted_step m) (Reads m) (λ s text. step_holds m s text) (suc (length text)) [] text

pub quoted_allowed : (m : Marks) (text cs rest : List ℕ) → quoted_at m text ≡ Ok (cs, rest) → AllByRecursion (λ c. is_allowed m.only_bytes c ≡ true) cs
quoted_allowed m text cs rest e =
    let r = holds_at (λ (x : List ℕ × List ℕ). Reads m [] text x.0 x.1) (quoted_at m text) (cs, rest) (quoted_holds m text) e in
    rw r.joined r.below

pub quoted_again : (m : Marks) → m.mark ≢ backslash → {text es rest : List ℕ} → Quoted m.mark text es rest → (cs : List ℕ) → length cs + length es ≤ m.room → AllByRecursion (λ c. is_allowed m.only_bytes c ≡ true) es → all_steps (quoted_step m) cs text ≡ Ok (cs ++ es, rest)
unfolding quoted_step next_quoted character_at
quoted_again m ne (closed {rest}) cs room below = all_steps_is (quoted_step m) (quoted_shrinks m) cs (m.mark ∷ rest) ∙ rw (eq-eqb m.mark m.mark refl) (simp append-nil)
quoted_again m ne (plain {c} {text} {rest} {cs = es} n b q) cs room below =
    let full : (length cs == m.room) ≡ false = ne_eqb (length cs) m.room (λ e. omega arith) in
    let again = quoted_again m ne q (cs ++ c ∷ []) (omega (arith, length-append cs (c ∷ []))) below.1 in
    all_steps_is (quoted_step m) (quoted_shrinks m) cs (c ∷ text) ∙ rw (ne_eqb c m.mark n, full, ne_eqb c backslash b, below.0) (again ∙ simp append_assoc)
quoted_again m ne (escape {e} {c} {text} {rest} {cs = es} h q) cs room below =
    let full : (length cs == m.room) ≡ false = ne_eqb (length cs) m.room (λ e. omega arith) in
    let again = quoted_again m ne q (cs ++ c ∷ []) (omega (arith, length-append cs (c ∷ []))) below.1 in
    all_steps_is (quoted_step m) (quoted_shrinks m) cs (backslash ∷ e ∷ text) ∙ rw (ne_eqb backslash m.mark (λ k. ne (sym k)), full, h) (again ∙ simp append_assoc)

-- ---- white space and comments

mutual
  pub gap_again : {text rest : List ℕ} → Gap text rest → after_gap false text ≡ after_gap false rest
  gap_again no_gap = refl
  gap_again (white {c} h g) = let p : (c == percent) ≡ false = ne_eqb c percent (λ e. grind arith) in rw (p, h) (gap_again g)
  gap_again (comment k) = comment_again k

  pub comment_again : {text rest : List ℕ} → Comment text rest → after_gap true text ≡ after_gap false rest
  comment_again (ended g) = gap_again g
  comment_again (passed {c} n k) = rw (ne_eqb c line_feed n) (comment_again k)

-- what follows the gap at the beginning, or the last comment
pub data Behind : List ℕ → List ℕ → Type 0 where
  something : {text rest : List ℕ} → Gap text rest → Behind text rest
  nothing : {text rest : List ℕ} → Gap text rest → IsLastComment rest → Behind text []

pub data BehindComment : List ℕ → List ℕ → Type 0 where
  after_comment : {text rest : List ℕ} → Comment text rest → BehindComment text rest
  no_more : {text rest : List ℕ} → Comment text rest → IsLastComment rest → BehindComment text []
  unended : {text : List ℕ} → AllByRecursion (λ x. x ≢ line_feed) text → BehindComment text []

behind_white : (c : ℕ) (text rest : List ℕ) → is_white_space c ≡ true → Behind text rest → Behind (c ∷ text) rest
behind_white c text rest h (something g) = something (white h g)
behind_white c text rest h (nothing g l) = nothing (white h g) l

behind_percent : (c : ℕ) (text rest : List ℕ) → c ≡ percent → BehindComment text rest → Behind (c ∷ text) rest
behind_percent c text rest h (after_comment k) = rw h (something (comment k))
behind_percent c text rest h (no_more k l) = rw h (nothing (comment k) l)
behind_percent c text rest h (unended a) = nothing no_gap (h, a)

behind_ended : (c : ℕ) (text rest : List ℕ) → c ≡ line_feed → Behind text rest → BehindComment (c ∷ text) rest
behind_ended c text rest h (something g) = rw h (after_comment (ended g))
behind_ended c text rest h (nothing g l) = rw h (no_more (ended g) l)

behind_passed : (c : ℕ) (text rest : List ℕ) → c ≢ line_feed → BehindComment text rest → BehindComment (c ∷ text) rest
behind_passed c text rest h (after_comment k) = after_comment (passed h k)
behind_passed c text rest h (no_more k l) = no_more (passed h k) l
behind_passed c text rest h (unended a) = unended (h, a)

pub if_is : {A : Type 0} (P : A → Type 0) (b : Bool) (x y : A) → (b ≡ true → P x) → (b ≡ false → P y) → P (cond b x y)
if_is P true x y h k = h refl
if_is P false x y h k = k refl

mutual
  pub gap_holds : (text : List ℕ) → Behind text (after_gap false text)
  gap_holds [] = something no_gap
  gap_holds (c ∷ text) =
      if_is (Behind (c ∷ text)) (c == percent) _ _ (λ e. behind_percent c text _ (eqb-true c percent e) (comment_holds text))
      (λ _. if_is (Behind (c ∷ text)) (is_white_space c) _ _ (λ w. behind_white c text _ w (gap_holds text)) (λ _. something no_gap))

  comment_holds : (text : List ℕ) → BehindComment text (after_gap true text)
  comment_holds [] = unended tt
  comment_holds (c ∷ text) = elim (cases_eq c line_feed) [
    | inl e ↦ rw (eq-eqb c line_feed e) (behind_ended c text _ e (gap_holds text))
    | inr n ↦ rw (ne_eqb c line_feed n) (behind_passed c text _ n (comment_holds text))
  ]
