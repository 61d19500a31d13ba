-- Lists of which each element passes a test.
use Rattle.std.proofs.Common.{◌≡◌, ℕ, ◌<◌, Bool, List, [], ◌∷◌, ◌++◌, length, take, drop, set, get_or, Option, refl, sym, subst, arith}
use Rattle.std.specs.Prelude.{IsTrue, IfSome, All}
use Rattle.std.specs.Option.{option_to_list}
use Rattle.std.proofs.lemmas.Bool.{and_parts, and_from}
use Rattle.std.proofs.lemmas.List.Elements.{All-nil, All-cons, All-head, All-tail, All-push, All-pop, All-take, All-drop, All-set, All-get_or}
use Rattle.term_operand.specs.Value.{all}

module _ {X : Type 0} (test : X → Bool) where
  abbrev Passes : X → Type 0
  Passes x = IsTrue (test x)

  all_pass : (xs : List X) → IsTrue (all test xs) → All Passes xs
  all_pass [] is = All-nil Passes
  all_pass (x ∷ xs) is =
      let parts = and_parts (test x) (all test xs) is in
      All-cons Passes x xs parts.0 (all_pass xs parts.1)

  passing : (xs : List X) → All Passes xs → IsTrue (all test xs)
  passing [] each = refl
  passing (x ∷ xs) each =
      and_from (test x) (all test xs) (All-head Passes x xs each) (passing xs (All-tail Passes x xs each))

  pub all-push : (xs : List X) (x : X) → IsTrue (all test xs) → IsTrue (test x) → IsTrue (all test (xs ++ x ∷ []))
  all-push xs x is of_x = passing (xs ++ x ∷ []) (All-push Passes xs x (all_pass xs is) of_x)

  pub all-pop : (xs ys : List X) (r : Option X) → xs ≡ ys ++ option_to_list r → IsTrue (all test xs) → IsTrue (all test ys) × IfSome r Passes
  all-pop xs ys r are is =
      let parts = All-pop Passes xs ys r are (all_pass xs is) in
      (passing ys parts.0, parts.1)

  pub all-take : (n : ℕ) (xs : List X) → IsTrue (all test xs) → IsTrue (all test (take n xs))
  all-take n xs is = passing (take n xs) (All-take Passes n xs (all_pass xs is))

  pub all-drop : (n : ℕ) (xs : List X) → IsTrue (all test xs) → IsTrue (all test (drop n xs))
  all-drop n xs is = passing (drop n xs) (All-drop Passes n xs (all_pass xs is))

  pub all-set : (xs : List X) (i : ℕ) (x : X) → IsTrue (all test xs) → IsTrue (test x) → IsTrue (all test (set xs i x))
  all-set xs i x is of_x = passing (set xs i x) (All-set Passes xs i x of_x (all_pass xs is))

  pub all-get_or : (xs : List X) (i : ℕ) (d : X) → i < length xs → IsTrue (all test xs) → IsTrue (test (get_or xs i d))
  all-get_or xs i d inside is = All-get_or Passes xs i d inside (all_pass xs is)

  -- the two elements of a list of two pass the test that all its elements pass
  pub two_pass : (xs : List X) (x y : X) → length xs ≡ 2 → x ≡ get_or xs 0 x → y ≡ get_or xs 1 y → IsTrue (all test xs) → IsTrue (test x) × IsTrue (test y)
  two_pass xs x y two first second is =
      (subst (λ z. IsTrue (test z)) (sym first) (all-get_or xs 0 x (omega (arith, two)) is), subst (λ z. IsTrue (test z)) (sym second) (all-get_or xs 1 y (omega (arith, two)) is))
