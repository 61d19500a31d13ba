-- The file of a specification's code, and what is written about a file.
use Rattle.std.specs.Prelude.{ℕ, pos, ◌≡◌, ◌<◌, ◌⊎◌, Option, List, [], ◌∷◌, length}
use Rattle.std.specs.Io.KnownBytes.{Appends, Keeps}
use Rattle.term_core.specs.Datum.{Datum}
use Rattle.term_core.specs.Datum.Datum.{binary, integer, tuple}
use Rattle.term_core.specs.Datum.Items.{no_items, item}
use Rattle.mcode.specs.Program.{Program}
use Rattle.mcode.specs.Run.{HasRun}
use Rattle.mspec_syntax.specs.Specification.{Specification}
use Rattle.mspec_meaning.specs.Meaning.{Means}
use Rattle.compiler_clauses.specs.Clauses.{code_of}
use Rattle.code_writer.specs.File.{Spells}
use Rattle.budget.specs.Paths.{IsBudget}
use Rattle.verifier.specs.Typing.{IsTyped, IsDepth}
use Rattle.tool_io.specs.Lines.{line}
use Rattle.tool_io.specs.declared.fault.ToolFault.{ToolFault}
use Rattle.tool_io.specs.declared.fault.ToolFault.TheVariants as fault
use Rattle.tool_query.specs.Answers.{ok_term}
use Rattle.tool_query.specs.Query.{IsRead, IsLoaded, IsNoSpecification, IsUnloaded}

-- The bytes are the file of a specification's code. The code is typed, and each run of it ends with the answer that the
-- specification means.
pub record IsFileOf (s : Specification) (bytes : List ℕ) : Type 0 where
  pub spells : Spells bytes (code_of s)
  pub typed : IsTyped (code_of s)
  pub runs : (object : Datum) → (answer : Option Datum) × (n : ℕ) × Means s object answer
      × HasRun (code_of s) object n answer

-- the terms are one, and the writer gains the file of its specification, as a binary
pub record WritesFile (terms : List Datum) (old new : Option (List ℕ)) : Type 0 where
  pub first : Datum
  pub specification : Specification
  pub bytes : List ℕ
  pub alone : terms ≡ first ∷ []
  pub read : IsRead first specification
  pub file : IsFileOf specification bytes
  pub gained : Appends old new (line (binary bytes))

-- why no file was written, and that nothing was; if the writer failed, its contents are unspecified
abbrev pub StopsFile : List Datum → (old new : Option (List ℕ)) → ToolFault → Type 0
StopsFile terms old new fault.WriteFailed = Unit {0}
StopsFile terms old new fault.Memory = Keeps old new
StopsFile terms old new fault.BadInput = (1 < length terms) × Keeps old new
StopsFile terms old new f =
    (first : Datum) × (terms ≡ first ∷ []) × IsNoSpecification first f × Keeps old new

-- the verdict on a file: `{ok,Budget,Depth}`
abbrev pub verdict : ℕ → ℕ → Datum
verdict budget depth =
    tuple (item ok_term (item (integer (pos budget)) (item (integer (pos depth)) no_items)))

-- the terms are one code file, and the writer gains the budget and the depth of its code
pub record WritesVerdict (terms : List Datum) (old new : Option (List ℕ)) : Type 0 where
  pub bytes : List ℕ
  pub code : Program
  pub budget : ℕ
  pub depth : ℕ
  pub alone : terms ≡ binary bytes ∷ []
  pub loaded : IsLoaded bytes code
  pub budget_is : IsBudget code budget
  pub depth_is : IsDepth code depth
  pub gained : Appends old new (line (verdict budget depth))

-- a term that is not a binary
abbrev pub IsNoBinary : Datum → Type 0
IsNoBinary (binary bytes) = ⊥
IsNoBinary d = Unit {0}

-- terms that are not exactly one binary
abbrev pub IsNoFileTerm : List Datum → Type 0
IsNoFileTerm terms =
    (1 < length terms) ⊎ ((first : Datum) × (terms ≡ first ∷ []) × IsNoBinary first)

-- why no verdict was written, and that nothing was; if the writer failed, its contents are unspecified
abbrev pub StopsVerdict : List Datum → (old new : Option (List ℕ)) → ToolFault → Type 0
StopsVerdict terms old new fault.WriteFailed = Unit {0}
StopsVerdict terms old new fault.Memory = Keeps old new
StopsVerdict terms old new fault.BadInput = IsNoFileTerm terms × Keeps old new
StopsVerdict terms old new f =
    (bytes : List ℕ) × (terms ≡ binary bytes ∷ []) × IsUnloaded bytes f × Keeps old new
