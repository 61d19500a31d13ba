-- Arguments that go from one stack to another.
use Rattle.std.proofs.Common.{◌≡◌, ℕ, ◌+◌, ◌-◌, ◌<◌, ◌≤◌, List, [], ◌∷◌, ◌++◌, length, take, drop, set, reverse, sym, ap, ◌∙◌, arith}
use Rattle.std.proofs.lemmas.List.{drop-set-lt, length-set, reverse-reverse}
use Rattle.term_core.specs.Datum.{Datum}
use Rattle.machine_stack.specs.Stack.{stack_at}
use Rattle.machine_stack.proofs.StackLemmas.{stack_push, stack_taken, stack_left, taken_more}

module _ (terms : List Datum) (count handed : ℕ) (d : Datum) (some : handed < count) (within : count ≤ length terms) where
  abbrev after : List Datum
  after = set terms (count - handed - 1) d

  as_many : length after ≡ length terms
  as_many = length-set terms (count - handed - 1) d

  -- those above stay
  above : take handed (stack_at after count) ≡ take handed (stack_at terms count)
  above =
      let n = count - handed in
      let new = stack_taken after count handed (omega (arith, some)) (omega (arith, as_many, within)) in
      let old = stack_taken terms count handed (omega (arith, some)) within in
      let same : drop n after ≡ drop n terms = drop-set-lt n terms (n - 1) d (omega (arith, some)) in
      sym (reverse-reverse (take handed (stack_at after count)))
      ∙ ap reverse (sym new ∙ ap (take (count - n)) same ∙ old)
      ∙ reverse-reverse (take handed (stack_at terms count))

  -- the value that is put below the top `count` values is the next from the top
  pub handed_more : take (handed + 1) (stack_at after count) ≡ take handed (stack_at terms count) ++ d ∷ []
  handed_more =
      let k = count - handed - 1 in
      let next : count - handed ≡ k + 1 = omega (arith, some) in
      let top : drop handed (stack_at after count) ≡ d ∷ stack_at terms k =
      sym (stack_left after count handed (omega (arith, some)) (omega (arith, as_many, within))) ∙ ap (stack_at after) next ∙ stack_push terms k d (omega (arith, some, within)) in
      (taken_more (stack_at after count) handed d (stack_at terms k) top).0 ∙ ap (λ ds. ds ++ d ∷ []) above
