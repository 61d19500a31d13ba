-- Which query the first term of an input is.
use Rattle.std.specs.Prelude.{ℕ, ◌≡◌, ◌≢◌, List, Option}
use Rattle.term_core.specs.Datum.{Datum}
use Rattle.term_core.specs.Datum.Datum.{binary}
use Rattle.mcode.specs.Answer.{answer_of}
use Rattle.mcode.specs.Program.{Program}
use Rattle.mspec_syntax.specs.Faults.{IsRefusal}
use Rattle.mspec_syntax.specs.Grammar.{IsSpecification}
use Rattle.mspec_syntax.specs.Specification.{Specification, IsWithinLimits}
use Rattle.mspec_syntax.specs.declared.fault.SpecFault.TheVariants as specification
use Rattle.mspec_meaning.specs.Meaning.{Means}
use Rattle.code_file.specs.Faults.{IsNoFile}
use Rattle.code_writer.specs.File.{Spells}
use Rattle.code_file.specs.declared.fault.FileFault.TheVariants as file
use Rattle.verifier.specs.Faults.{IsFirstFault}
use Rattle.verifier.specs.Typing.{IsTyped}
use Rattle.verifier_types.specs.declared.fault.Fault.TheVariants as code
use Rattle.tool_io.specs.declared.fault.ToolFault.{ToolFault}
use Rattle.tool_io.specs.declared.fault.ToolFault.TheVariants as fault

-- a query: a specification or code
pub data Query : Type 0 where
  meant : Specification → Query
  coded : Program → Query

-- the answer of a query on an object
abbrev pub Answers : Query → Datum → Option Datum → Type 0
Answers (Query.meant s) object answer = Means s object answer
Answers (Query.coded p) object answer = answer ≡ answer_of p object

-- a term is read as this specification, within its limits
abbrev pub IsRead : Datum → Specification → Type 0
IsRead d s = IsSpecification d s × IsWithinLimits s

-- the bytes are the file of this code, which is typed
abbrev pub IsLoaded : List ℕ → Program → Type 0
IsLoaded bytes p = Spells bytes p × IsTyped p

-- a binary is a query by the code of which it is the file, any other term by the specification that it is read as
abbrev pub IsQuery : Datum → Query → Type 0
IsQuery (binary bytes) q = (p : Program) × (q ≡ Query.coded p) × IsLoaded bytes p
IsQuery d q = (s : Specification) × (q ≡ Query.meant s) × IsRead d s

-- why a term is not read as a specification: its fault, or out of memory
abbrev pub IsNoSpecification : Datum → ToolFault → Type 0
IsNoSpecification d fault.Memory = Unit {0}
IsNoSpecification d (fault.Specification f) = (f ≢ specification.Memory) × IsRefusal f d
IsNoSpecification d f = ⊥

-- why bytes are not loaded as the file of typed code: a fault of the file or the code, or out of memory
abbrev pub IsUnloaded : List ℕ → ToolFault → Type 0
IsUnloaded bytes fault.Memory = Unit {0}
IsUnloaded bytes (fault.File f) = (f ≢ file.Memory) × IsNoFile bytes f
IsUnloaded bytes (fault.Code f b) =
    (f ≢ code.Memory) × ((p : Program) × Spells bytes p × IsFirstFault p b f)
IsUnloaded bytes f = ⊥

-- why a term is no query: its fault, or out of memory
abbrev pub IsNoQuery : Datum → ToolFault → Type 0
IsNoQuery (binary bytes) f = IsUnloaded bytes f
IsNoQuery d f = IsNoSpecification d f
