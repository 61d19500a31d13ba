-- Symbolic code as mathematical objects.
use Rattle.std.specs.Prelude.{ℕ, ◌+◌, Some, None, List, [], ◌∷◌, length}
use Rattle.term_core.specs.Datum.{Datum}
use Rattle.mcode.specs.declared.kind.Kind.{Kind}
use Rattle.compiler_assembly.specs.declared.line.Label.{Label}
use Rattle.compiler_assembly.specs.declared.line.Label.TheVariants.{Inside}
use Rattle.compiler_assembly.specs.declared.line.Line.{Line}
use Rattle.compiler_assembly.specs.declared.op.Op.{Op}

-- an instruction that names its constant, which is a term
abbrev pub SourceOp : Type 0
SourceOp = Op Datum

-- the label of an instruction, with the places that are integers
abbrev pub SourceLabel : Type 0
SourceLabel = Label (List (ℕ × Kind))

-- an instruction with the label after it
abbrev pub SourceLine : Type 0
SourceLine = Line Datum (List (ℕ × Kind))

-- an instruction without a label after it
abbrev pub plain : SourceOp → SourceLine
plain o = record { op = o; label = None }

-- an instruction with a label after it, to which jumps lead: the stack has `depth` places, of which these are integers
abbrev pub before_label : SourceOp → ℕ → List (ℕ × Kind) → SourceLine
before_label o depth integers = record { op = o; label = Some (Inside depth integers) }

-- lines that fail together, and the slots that are bound at the labels inside them
pub record Block : Type 0 where
  pub slots : List ℕ
  pub lines : List SourceLine

-- the total number of lines of blocks
abbrev pub line_total : List Block → ℕ
line_total [] = 0
line_total (b ∷ bs) = length b.lines + line_total bs
