-- Which expressions can be written: those whose numbers all fit into instructions.
use Rattle.std.specs.Prelude.{ℕ, ◌≡◌, true, ◌+◌, ◌≤◌, List, [], ◌∷◌, length}
use Rattle.term_core.specs.Limits.{IsTerm}
use Rattle.mcode.specs.Program.{most_slots}
use Rattle.mcode.specs.declared.kind.Kind.{Kind}
use Rattle.mspec_syntax.specs.Expression.{Expression, expression_size}
use Rattle.mspec_syntax.specs.Grammar.{is_among}
use Rattle.mspec_syntax.specs.Mode.Position.{by_itself}
use Rattle.compiler_assembly.specs.Line.{SourceOp, SourceLine}
use Rattle.compiler_assembly.specs.declared.op.Op.TheVariants as op
use Rattle.compiler_assembly.specs.declared.op.Target.{Target}
use Rattle.compiler_assembly.specs.declared.op.Target.TheVariants.{Failing, Ahead}
use Rattle.compiler_expressions.specs.Expressions.{Site, lines_at}

-- the greatest count, distance or depth
abbrev pub most_counted : ℕ
most_counted = 65535

-- the greatest number of a slot
abbrev pub most_slot : ℕ
most_slot = 255

-- the variables of the specification can be numbered, and those of the clause are among them
pub record IsSoundSite (site : Site) : Type 0 where
  pub count : length site.slots ≤ most_slots
  pub bound : (n : ℕ) → is_among site.bound n ≡ true → is_among site.slots n ≡ true

-- the target is no farther than an instruction can express
abbrev pub IsNear : Target → Type 0
IsNear Failing = Unit {0}
IsNear (Ahead n) = n ≤ most_counted

-- an instruction of an expression whose numbers fit, and whose list of keys, if it has one, is a term
abbrev pub IsWritable : SourceOp → Type 0
IsWritable (op.Get v) = v ≤ most_slot
IsWritable (op.Call f n t) = (n ≤ most_counted) × IsNear t
IsWritable (op.Int t) = IsNear t
IsWritable (op.Arith f t) = IsNear t
IsWritable (op.Bool t) = IsNear t
IsWritable (op.Branch t) = IsNear t
IsWritable (op.Jump t) = IsNear t
IsWritable (op.MakeTuple n t) = (n ≤ most_counted) × IsNear t
IsWritable (op.MakeCons t) = IsNear t
IsWritable (op.MakeMap d t) = IsTerm d × IsNear t
IsWritable o = Unit {0}

abbrev pub AreWritable : List SourceLine → Type 0
AreWritable [] = Unit {0}
AreWritable (l ∷ ls) = IsWritable l.op × AreWritable ls

-- An expression with `depth` places below its value: its lines are writable, and the places that it uses can be counted.
pub record CanBeWritten (site : Site) (depth : ℕ) (integers : List (ℕ × Kind)) (e : Expression) : Type 0 where
  pub room : depth + expression_size e ≤ most_counted
  pub lines : AreWritable (lines_at site depth integers e by_itself)
