-- Runs of a list, with a value for each run.
use Rattle.std.proofs.Common.{◌≡◌, List, [], ◌∷◌, ◌++◌, Bor, map, refl, ap, sym, subst, ◌∙◌, Result, Ok, Err, IfOk}
use Rattle.std.specs.List.{AllZip, flat_map}
use Rattle.std.specs.Prelude.{MatchResult}
use Rattle.std.proofs.lemmas.List.{map-append}
use Rattle.parallel_list.specs.Runs.{AreOfRuns}

module _ {X Y V : Type 0} (values : V → List Y) (f : X → Y) where
  all_joined : (runs : List (Bor (List X))) (vs : List V) → AllZip (λ (run : Bor (List X)) v. values v ≡ map f run.now) runs vs
      → flat_map values vs ≡ map f (flat_map (λ l. l) (map (λ (run : Bor (List X)). run.now) runs))
  all_joined [] [] each = refl
  all_joined [] (v ∷ vs) each = absurd each
  all_joined (run ∷ runs) [] each = absurd each
  all_joined (run ∷ runs) (v ∷ vs) each =
      ap (λ l. l ++ flat_map values vs) each.0 ∙ ap (λ l. map f run.now ++ l) (all_joined runs vs each.1)
      ∙ sym (map-append f run.now (flat_map (λ l. l) (map (λ (r : Bor (List X)). r.now) runs)))

  -- the lists that were made from the runs of a list, joined
  pub joined : (items : List X) (made : List V) → AreOfRuns (λ run v. values v ≡ map f run.now) items made
      → flat_map values made ≡ map f items
  joined items made h = all_joined h.0 made h.2 ∙ ap (map f) h.1

module _ {X V E : Type 0} (P : X → Result V E → Type 0) where
  all_ok : (runs : List X) (vs : List V) → AllZip P runs (map Ok vs) → AllZip (λ run v. P run (Ok v)) runs vs
  all_ok [] [] each = tt
  all_ok [] (v ∷ vs) each = absurd each
  all_ok (run ∷ runs) [] each = absurd each
  all_ok (run ∷ runs) (v ∷ vs) each = (each.0, all_ok runs vs each.1)

  -- the values into which a chain over runs was collected, if each run has its result
  pub collected : {W : Type 0} (values : W → List V) (runs : List X) (answered : List (Result V E)) (all : Result W E)
      (F : E → Type 0) → AllZip P runs answered
      → MatchResult all (λ w. (vs : List V) × (answered ≡ map Ok vs) × (values w ≡ vs)) F
      → IfOk all (λ w. AllZip (λ run v. P run (Ok v)) runs (values w))
  collected values runs answered (Ok w) F each h =
      subst (λ vs. AllZip (λ run v. P run (Ok v)) runs vs) (sym h.2)
      (all_ok runs h.0 (subst (λ l. AllZip P runs l) h.1 each))
  collected values runs answered (Err e) F each h = tt
