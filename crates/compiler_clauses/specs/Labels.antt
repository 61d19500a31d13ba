-- The labels of the code of specifications.
use Rattle.std.specs.Prelude.{ℕ, ◌≡◌, ◌<◌, ◌≤◌, IfSome, List, [], ◌∷◌, length, All}
use Rattle.mcode.specs.Program.{Rise, place_number}
use Rattle.mcode.specs.declared.kind.Kind.{Kind}
use Rattle.mcode.specs.declared.kind.Kind.TheVariants as kind
use Rattle.compiler_assembly.specs.Line.{SourceLabel, SourceLine}
use Rattle.compiler_assembly.specs.declared.line.Label.TheVariants.{Inside, Clean}

-- places below `depth` that are integers, in ascending order
pub record AreIntegerPlaces (integers : List (ℕ × Kind)) (depth : ℕ) : Type 0 where
  pub each : All (λ place. (place_number place < depth) × (place.1 ≡ kind.Int)) integers
  pub rise : Rise place_number integers
  pub count : length integers ≤ depth

-- a label with at most `most` places, of which it says that some are integers
abbrev pub IsGoodLabel : ℕ → SourceLabel → Type 0
IsGoodLabel most (Inside depth integers) = (depth ≤ most) × AreIntegerPlaces integers depth
IsGoodLabel most Clean = Unit {0}

-- each label of these lines is a good one
abbrev pub AreGoodLabels : ℕ → List SourceLine → Type 0
AreGoodLabels most [] = Unit {0}
AreGoodLabels most (l ∷ ls) = IfSome l.label (IsGoodLabel most) × AreGoodLabels most ls
