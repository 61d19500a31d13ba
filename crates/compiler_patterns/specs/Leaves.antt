-- The code of the leaves of patterns: what is matched is on the top of the stack, and is popped; if it doesn't match,
-- the clause fails.
use Rattle.std.specs.Prelude.{ℕ, if◌then◌else◌, List, [], ◌∷◌}
use Rattle.term_core.specs.Datum.{Datum}
use Rattle.mspec_syntax.specs.Grammar.{is_among}
use Rattle.mspec_syntax.specs.Rising.{rank_of}
use Rattle.compiler_assembly.specs.Line.{SourceLine, plain}
use Rattle.compiler_assembly.specs.declared.op.Op.TheVariants as op
use Rattle.compiler_assembly.specs.declared.op.Target.TheVariants.{Failing}

-- the lines of a term: the top must be the same
abbrev pub same_lines : Datum → List SourceLine
same_lines d = plain (op.Const d) ∷ plain (op.Equal Failing) ∷ []

-- the lines of a variable: it is bound to the top, or, if it is bound already, its value must be the same as the top
abbrev pub variable_lines : List ℕ → List ℕ → ℕ → List SourceLine
variable_lines vs known n =
    if is_among known n then plain (op.Get (rank_of vs n)) ∷ plain (op.Equal Failing) ∷ []
    else plain (op.Bind (rank_of vs n)) ∷ []
