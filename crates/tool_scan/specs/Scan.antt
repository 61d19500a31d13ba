-- What a scan writes, and why it ends early.
use Rattle.std.specs.Prelude.{ℕ, ◌≡◌, ◌⊎◌, All, Option, List, ◌∷◌, flat_map}
use Rattle.std.specs.Io.KnownBytes.{Appends, Keeps}
use Rattle.term_core.specs.Datum.{Datum}
use Rattle.mspec_syntax.specs.Specification.{Specification}
use Rattle.tool_io.specs.Lines.{line}
use Rattle.tool_io.specs.declared.fault.ToolFault.{ToolFault}
use Rattle.tool_io.specs.declared.fault.ToolFault.TheVariants as fault
use Rattle.tool_query.specs.Query.{IsRead, IsNoSpecification}
use Rattle.tool_query.specs.Run.{Stops}
use Rattle.tool_scan.specs.Answers.{WritesFront}
use Rattle.tool_scan.specs.Asking.{AreAnswers}
use Rattle.tool_scan.specs.Options.{AreAllowed, HasNoObject, IsFit}
use Rattle.tool_scan.specs.declared.options.ScanOptions.{ScanOptions}

-- the terms are a specification and objects
pub record IsAsked (o : ScanOptions) (terms : List Datum) (s : Specification) (objects : List Datum) : Type 0 where
  pub first : Datum
  pub whole : terms ≡ first ∷ objects
  pub read : IsRead first s
  pub fit : All (IsFit o) objects

-- the terms are a specification and others, of which one is no object
pub record IsUnfit (o : ScanOptions) (terms : List Datum) : Type 0 where
  pub first : Datum
  pub objects : List Datum
  pub whole : terms ≡ first ∷ objects
  pub specification : Specification
  pub read : IsRead first specification
  pub unfit : HasNoObject o objects

-- the writer gains the lines of answers
pub record WritesScan (o : ScanOptions) (terms : List Datum) (old new : Option (List ℕ)) : Type 0 where
  pub specification : Specification
  pub objects : List Datum
  pub asked : IsAsked o terms specification objects
  pub answers : List Datum
  pub scanned : AreAnswers o specification objects answers
  pub gained : Appends old new (flat_map line answers)

-- the writer gains the lines of the first of the answers, maybe none
pub record WritesBeginning (o : ScanOptions) (terms : List Datum) (old new : Option (List ℕ)) : Type 0 where
  pub specification : Specification
  pub objects : List Datum
  pub asked : IsAsked o terms specification objects
  pub answers : List Datum
  pub scanned : AreAnswers o specification objects answers
  pub written : WritesFront answers old new

-- How a scan ends early because of its terms. Nothing is written, except that the lines of the first answers may be if
-- memory runs out over the lines. If the writer failed, its contents are unspecified.
abbrev pub StopsTerms : ScanOptions → List Datum → (old new : Option (List ℕ)) → ToolFault → Type 0
StopsTerms o terms old new fault.WriteFailed = Unit {0}
StopsTerms o terms old new fault.Memory = Keeps old new ⊎ WritesBeginning o terms old new
StopsTerms o terms old new fault.TooSmall = IsUnfit o terms × Keeps old new
StopsTerms o terms old new f =
    (first : Datum) × (objects : List Datum) × (terms ≡ first ∷ objects) × IsNoSpecification first f × Keeps old new

-- How a scan ends early: its options are outside their ranges, and nothing was read or written; or because of its
-- input.
abbrev pub StopsScan : ScanOptions → (known old new : Option (List ℕ)) → ToolFault → Type 0
StopsScan o known old new fault.BadOptions = ¬ (AreAllowed o) × Keeps old new
StopsScan o known old new f = Stops known old new f (λ terms. StopsTerms o terms old new f)
