-- The lines of answers, and how writing them ends early.
use Rattle.std.specs.Prelude.{ℕ, ◌≡◌, ◌++◌, Option, List, flat_map}
use Rattle.std.specs.Io.KnownBytes.{Appends}
use Rattle.term_core.specs.Datum.{Datum}
use Rattle.tool_io.specs.Lines.{line}
use Rattle.tool_io.specs.declared.fault.ToolFault.{ToolFault}
use Rattle.tool_io.specs.declared.fault.ToolFault.TheVariants as fault

-- the writer gains the lines of the first of the answers, maybe none
pub record WritesFront (answers : List Datum) (old new : Option (List ℕ)) : Type 0 where
  pub front : List Datum
  pub rest : List Datum
  pub whole : answers ≡ front ++ rest
  pub gained : Appends old new (flat_map line front)

-- writing ends early: out of memory, with the lines of the first answers written; or the writer failed, and its
-- contents are unspecified
abbrev pub StopsAnswers : List Datum → (old new : Option (List ℕ)) → ToolFault → Type 0
StopsAnswers answers old new fault.Memory = WritesFront answers old new
StopsAnswers answers old new fault.WriteFailed = Unit {0}
StopsAnswers answers old new f = ⊥
