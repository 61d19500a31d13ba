-- Commands that were taken up.
use Rattle.std.proofs.Common.{◌≡◌, ◌⊎◌, ℕ, ◌+◌, ◌<◌, ◌≤◌, List, inl, inr, take, length, sym, subst, arith}
use Rattle.std.proofs.lemmas.List.{length-take}
use Rattle.term_core.specs.Datum.{Datum}
use Rattle.part_core.specs.declared.part.Part.{Ghosts}
use Rattle.tool_script.specs.declared.script.Script as script_type
use Rattle.tool_script.specs.Scripts.{AreTaken}

module _ {S O A : Type 0} {s : Ghosts S A} {o : Ghosts O A} where
  -- one more command is taken up
  pub taken_more : (old mid new : script_type.Script S O A s o) (n : ℕ) → AreTaken old mid n → AreTaken mid new 1 → AreTaken old new (n + 1)
  taken_more old mid new n (inl is) (inl one) = inl (omega (arith, is, one))
  taken_more old mid new n (inl is) (inr most) = inr most
  taken_more old mid new n (inr most) (inl one) = inr (omega (arith, most, one))
  taken_more old mid new n (inr most) (inr still) = inr still

  -- the command after the first of these terms is taken up last
  pub taken_front : (old mid new : script_type.Script S O A s o) (terms : List Datum) (i : ℕ) → i < length terms → AreTaken old mid i → AreTaken mid new 1 → AreTaken old new (length (take i terms) + 1)
  taken_front old mid new terms i there taken last =
      let size : length (take i terms) ≡ i = omega (arith, there, length-take i terms) in
      subst (λ n. AreTaken old new (n + 1)) (sym size) (taken_more old mid new i taken last)
