-- The code of clauses and specifications.
use Rattle.std.specs.Prelude.{ℕ, Some, List, [], ◌∷◌, ◌++◌, length, map}
use Rattle.mcode.specs.Program.{Program}
use Rattle.mspec_syntax.specs.Expression.{Expression}
use Rattle.mspec_syntax.specs.Mode.Position.{by_itself}
use Rattle.mspec_syntax.specs.Rising.{rank_of}
use Rattle.mspec_syntax.specs.Specification.{Clause, Specification, clause_variables, specification_variables}
use Rattle.mspec_syntax.specs.declared.mode.Mode.{Mode}
use Rattle.mspec_syntax.specs.declared.mode.Mode.TheVariants.{Condition, Body}
use Rattle.compiler_assembly.specs.Assembled.{assembled}
use Rattle.compiler_assembly.specs.Line.{SourceLine, Block, plain}
use Rattle.compiler_assembly.specs.declared.line.Label.TheVariants.{Clean}
use Rattle.compiler_assembly.specs.declared.op.Op.TheVariants as op
use Rattle.compiler_assembly.specs.declared.op.Target.TheVariants.{Failing}
use Rattle.compiler_expressions.specs.Expressions.{Site, lines_at}
use Rattle.compiler_patterns.specs.Patterns.{head_lines}

-- the lines of the conditions, each of which must be true
abbrev pub condition_lines : Site → List Expression → List SourceLine
condition_lines site [] = []
condition_lines site (e ∷ es) =
    lines_at site 0 [] e by_itself
    ++ plain (op.Bool Failing)
    ∷ plain (op.Branch Failing)
    ∷ condition_lines site es

-- The lines of the last expression of a body, which is the answer; the others have no lines. The next clause or the end
-- begins after them.
abbrev pub body_lines : Site → List Expression → List SourceLine
body_lines site [] = []
body_lines site (e ∷ []) =
    lines_at site 0 [] e by_itself ++ record { op = op.Answer; label = Some Clean } ∷ []
body_lines site (e ∷ f ∷ es) = body_lines site (f ∷ es)

-- the context of the conditions of a clause, or of its body
abbrev pub site_of : List ℕ → Clause → Mode → Site
site_of vs c mode = record { slots = vs; bound = clause_variables c; mode = mode }

-- the block of a clause, all of whose labels say that the variables of its head are bound
abbrev pub clause_block : List ℕ → Clause → Block
clause_block vs c =
    record {
      slots =
          map (rank_of vs) (clause_variables c);
      lines = head_lines vs c.head
          ++ (condition_lines (site_of vs c Condition) c.conditions
          ++ body_lines (site_of vs c Body) c.body);
    }

-- the block of the end, if no clause answers
abbrev pub end_block : Block
end_block = record { slots = []; lines = plain op.NoAnswer ∷ [] }

-- the blocks of the clauses, one after the other, and of the end
abbrev pub blocks_of : List ℕ → Specification → List Block
blocks_of vs [] = end_block ∷ []
blocks_of vs (c ∷ cs) = clause_block vs c ∷ blocks_of vs cs

-- The code of a specification: its slots are the ranks of all its variables.
unfoldable pub code_of : Specification → Program
code_of spec =
    let vs = specification_variables spec in assembled (length vs) (blocks_of vs spec)
