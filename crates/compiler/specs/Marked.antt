-- States in which the lines of patterns begin.
use Rattle.std.specs.Prelude.{ℕ, ◌≡◌, true, Bool, IsTrue, List, length}
use Rattle.mcode.specs.Program.{Program}
use Rattle.mcode.specs.declared.kind.Kind.{Kind}
use Rattle.mspec_syntax.specs.Grammar.{is_among}
use Rattle.mspec_syntax.specs.Rising.{rank_of}
use Rattle.verifier_types.specs.Shape.{Shape, is_bound}
use Rattle.compiler_assembly.specs.Line.{SourceLine}
use Rattle.compiler.specs.Flow.{Flows}

-- the slots of these variables are bound
pub record AreMarked (p : Program) (vs : List ℕ) (bs : List Bool) (known : List ℕ) : Type 0 where
  pub count : length bs ≡ p.slots
  pub held : (n : ℕ) → is_among known n ≡ true → IsTrue (is_bound bs (rank_of vs n))

-- lines that are typed from a state on; after them these places are left and the slots of these variables are bound
pub record BindsTo (p : Program) (most : ℕ) (vs : List ℕ) (pc : ℕ) (ls : List SourceLine) (s : Shape)
    (ks : List Kind) (known : List ℕ) : Type 0 where
  pub bound : List Bool
  pub flows : Flows p most pc s (length ls) (record { kinds = ks; bound = bound })
  pub marked : AreMarked p vs bound known
