-- What holds at each label and of each target of lines.
use Rattle.std.specs.Prelude.{ℕ, suc, ◌+◌, IfSome, List, [], ◌∷◌, length}
use Rattle.compiler_assembly.specs.Assembled.{resolved}
use Rattle.compiler_assembly.specs.Assembling.{target_named}
use Rattle.compiler_assembly.specs.Line.{SourceLabel, SourceLine, Block}

-- at each label of lines, P holds of the slots, of the number of the instruction after the line, and of the label
abbrev pub AllLabels : (List ℕ → ℕ → SourceLabel → Type 0) → List ℕ → ℕ → List SourceLine → Type 0
AllLabels P slots pc [] = Unit {0}
AllLabels P slots pc (l ∷ ls) =
    IfSome l.label (P slots (suc pc)) × AllLabels P slots (suc pc) ls

-- at each label of blocks, one after the other, P holds of the slots, of the number of the instruction after the line,
-- and of the label
abbrev pub AllBlockLabels : (List ℕ → ℕ → SourceLabel → Type 0) → ℕ → List Block → Type 0
AllBlockLabels P pc [] = Unit {0}
AllBlockLabels P pc (b ∷ bs) =
    AllLabels P b.slots pc b.lines × AllBlockLabels P (pc + length b.lines) bs

-- P holds of the number to which each line leads that may jump
abbrev pub AllTargets : (ℕ → Type 0) → ℕ → ℕ → List SourceLine → Type 0
AllTargets P behind pc [] = Unit {0}
AllTargets P behind pc (l ∷ ls) =
    IfSome (target_named l.op) (λ t. P (resolved behind pc t)) × AllTargets P behind (suc pc) ls

-- P holds of the number to which each line of blocks, one after the other, leads that may jump
abbrev pub AllBlockTargets : (ℕ → Type 0) → ℕ → List Block → Type 0
AllBlockTargets P pc [] = Unit {0}
AllBlockTargets P pc (b ∷ bs) =
    let behind = pc + length b.lines in
    AllTargets P behind pc b.lines × AllBlockTargets P behind bs
