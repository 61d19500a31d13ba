-- Quoted characters that stand for themselves.
use Rattle.std.proofs.Common.{◌≡◌, ◌≢◌, ℕ, ◌≤◌, ◌<◌, inl, inr, Bool, true, false, List, [], ◌∷◌, ◌++◌, length, take, drop, not, Option, Some, None, Ok, refl, ap, ◌∙◌, arith}
use Rattle.std.specs.Prelude.{◌==◌, ◌&&◌, nat_lt}
use Rattle.std.specs.List.{AllByRecursion, prefix_len}
use Rattle.std.specs.Str.{IsUtf8, IsCharBoundary, chars}
use Rattle.std.proofs.lemmas.Bool.{and_parts, cases_Bool, eq-eqb, eqb-true, le-leb, ltb-true}
use Rattle.std.proofs.lemmas.List.Folds.{length-prefix_len}
use Rattle.term_text.specs.Character.{backslash, double_quote, greater}
use Rattle.term_text.specs.declared.token.Marks.{Marks}
use Rattle.term_text.specs.Tokens.{Quoted}
use Rattle.term_text.specs.Tokens.Quoted.{closed, plain}
use Rattle.term_text.specs.TokenReading.{after_both, behind, is_allowed, is_plain, quoted_at}
use Rattle.term_text.specs.Reading.{byte_marks, bytes_at, segment_at, segments_at, separated}
use Rattle.term_text.proofs.ByteWords.{cut_front, own_front, front_spelled}
use Rattle.term_text.proofs.Words.{run_holds}
use Rattle.term_text.proofs.Tokens.{quoted_again}
use Rattle.term_text.proofs.Steps.{is_done}
use Rattle.term_text.proofs.Sound.{segment_shrinks}

plain_small : (mark c : ℕ) → is_plain mark c ≡ true → c < 128
plain_small mark c h = ltb-true c 128 (and_parts (nat_lt c 128) _ h).0

differs : (a b : ℕ) → not (a == b) ≡ true → a ≢ b
differs a b h e = let no : not true ≡ true = rw (eq-eqb a b e) at h in cc

run_spelled : (mark : ℕ) (cs rest : List ℕ) → AllByRecursion (λ c. is_plain mark c ≡ true) cs → Quoted mark (cs ++ mark ∷ rest) cs rest
run_spelled mark [] rest all = closed
run_spelled mark (c ∷ cs) rest all =
    let others = (and_parts (nat_lt c 128) _ all.0).1 in
    let both = and_parts (not (c == mark)) (not (c == backslash)) others in
    plain (differs c mark both.0) (differs c backslash both.1) (run_spelled mark cs rest all.1)

small_allowed : (g : Bool) (c : ℕ) → c < 128 → is_allowed g c ≡ true
small_allowed true c h = le-leb c 255 (omega arith)
small_allowed false c h = refl

run_allowed : (g : Bool) (mark : ℕ) (cs : List ℕ) → AllByRecursion (λ c. is_plain mark c ≡ true) cs → AllByRecursion (λ c. is_allowed g c ≡ true) cs
run_allowed g mark [] all = tt
run_allowed g mark (c ∷ cs) all = (small_allowed g c (plain_small mark c all.0), run_allowed g mark cs all.1)

given : List ℕ → Option (List ℕ)
given rest = Some rest

behind_is : (c : ℕ) (text rest : List ℕ) → Some rest ≡ behind c text → text ≡ c ∷ rest
behind_is c [] rest e = absurd cc
behind_is c (x ∷ text) rest e = elim (cases_Bool (x == c)) [
  | inl here ↦
      let same : Some rest ≡ Some text = rw here at e in
      let left : rest ≡ text = cc in
      rw (eqb-true x c here, left) refl
  | inr other ↦ absurd (let none = rw other at e in cc)
]

-- a text may be cut after the characters that stand for themselves
pub cut_run : (mark : ℕ) (text : List ℕ) (n : ℕ) → IsUtf8 text → n ≡ prefix_len (is_plain mark) text → IsCharBoundary text n
cut_run mark text n u e = cut_front (is_plain mark) (plain_small mark) text n n u e (omega arith)

pub run_chars : (mark : ℕ) (text : List ℕ) (n : ℕ) → n ≡ prefix_len (is_plain mark) text → chars (take n text) ≡ take n text
run_chars mark text n e = own_front (is_plain mark) (plain_small mark) text n (omega arith)

run_here : (m : Marks) (text rest : List ℕ) → m.mark ≢ backslash → IsUtf8 text → prefix_len (is_plain m.mark) text ≤ m.room
    → Some rest ≡ behind m.mark (chars (drop (prefix_len (is_plain m.mark) text) text)) → quoted_at m (chars text) ≡ Ok (take (prefix_len (is_plain m.mark) text) text, rest)
run_here m text rest ne u few e =
    let n : ℕ = prefix_len (is_plain m.mark) text in
    let all = (run_holds (is_plain m.mark) text).each in
    let count : length (take n text) ≡ n = length-prefix_len (is_plain m.mark) text in
    let whole : chars text ≡ take n text ++ m.mark ∷ rest =
    front_spelled (is_plain m.mark) (plain_small m.mark) text n u (omega arith) ∙ ap (λ (t : List ℕ). take n text ++ t) (behind_is m.mark (chars (drop n text)) rest e) in
    ap (quoted_at m) whole ∙ quoted_again m ne (run_spelled m.mark (take n text) rest all) [] (omega arith) (run_allowed m.only_bytes m.mark (take n text) all)

-- characters that stand for themselves, and the closing mark
pub run_is : (m : Marks) (text : List ℕ) (n : ℕ) (rest : List ℕ) → m.mark ≢ backslash → IsUtf8 text → n ≡ prefix_len (is_plain m.mark) text → n ≤ m.room → Some rest ≡ behind m.mark (chars (drop n text)) → quoted_at m (chars text) ≡ Ok (take n text, rest)
run_is m text n rest ne u e few is = rw e (run_here m text rest ne u (rw e at few) (rw e at is))

-- ---- a binary of one such string

both_is : (text rest : List ℕ) → Some rest ≡ after_both greater greater text → text ≡ greater ∷ greater ∷ rest
both_is [] rest e = absurd cc
both_is (x ∷ []) rest e = absurd cc
both_is (x ∷ y ∷ ys) rest e = elim (cases_Bool (x == greater && y == greater)) [
  | inl here ↦
      let same : Some rest ≡ Some ys = rw here at e in
      let left : rest ≡ ys = cc in
      let both = and_parts (x == greater) (y == greater) here in
      rw (eqb-true x greater both.0, eqb-true y greater both.1, left) refl
  | inr other ↦ absurd (let none = rw other at e in cc)
]

pub one_string : (text t u rest run : List ℕ) → Some t ≡ behind double_quote text → quoted_at (byte_marks 0) t ≡ Ok (run, u) → Some rest ≡ after_both greater greater u → bytes_at None text ≡ Ok (run, rest)
unfolding segment_at
one_string text t u rest run b q a =
    let begun : text ≡ double_quote ∷ t = behind_is double_quote text t b in
    let ends : u ≡ greater ∷ greater ∷ rest = both_is u rest a in
    let step : separated segment_at [] (double_quote ∷ t) ≡ Ok (false, run, u) = rw (q, ends) refl in
    let all : segments_at [] (double_quote ∷ t) ≡ Ok (run, u) = is_done (separated segment_at) segment_shrinks [] run (double_quote ∷ t) u _ step refl in
    rw (begun, all, ends) refl
