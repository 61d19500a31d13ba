-- How a scan ends early.
use Rattle.std.proofs.Common.{◌≡◌, ℕ, Option, List, ◌∷◌, inl, inr}
use Rattle.term_core.specs.Datum.{Datum}
use Rattle.mspec_syntax.specs.Specification.{Specification}
use Rattle.tool_io.specs.declared.fault.ToolFault.{ToolFault}
use Rattle.tool_io.specs.declared.fault.ToolFault.TheVariants as fault
use Rattle.tool_query.specs.Query.{IsRead, IsNoSpecification}
use Rattle.tool_query.proofs.RunLemmas.{kept}
use Rattle.tool_scan.specs.Answers.{StopsAnswers}
use Rattle.tool_scan.specs.Asking.{AreAnswers}
use Rattle.tool_scan.specs.Options.{AreAllowed, HasNoObject}
use Rattle.tool_scan.specs.Scan.{IsAsked, StopsTerms, StopsScan}
use Rattle.tool_scan.specs.declared.options.ScanOptions.{ScanOptions}

-- the first term is no specification
pub no_specification : (o : ScanOptions) (terms : List Datum) (first : Datum) (objects : List Datum) (old : Option (List ℕ)) (f : ToolFault) → terms ≡ first ∷ objects → IsNoSpecification first f → StopsTerms o terms old old f
no_specification o terms first objects old fault.Memory is h = inl (kept old)
no_specification o terms first objects old fault.WriteFailed is h = tt
no_specification o terms first objects old fault.TooSmall is h = absurd h
no_specification o terms first objects old (fault.Text f) is h = (first, objects, is, h, kept old)
no_specification o terms first objects old fault.BadInput is h = (first, objects, is, h, kept old)
no_specification o terms first objects old (fault.Specification f) is h = (first, objects, is, h, kept old)
no_specification o terms first objects old (fault.File f) is h = (first, objects, is, h, kept old)
no_specification o terms first objects old (fault.Code f b) is h = (first, objects, is, h, kept old)
no_specification o terms first objects old fault.BadOptions is h = (first, objects, is, h, kept old)
no_specification o terms first objects old fault.ReadFailed is h = (first, objects, is, h, kept old)

-- a term after the first is no object
pub no_object : (o : ScanOptions) (terms : List Datum) (first : Datum) (objects : List Datum) (s : Specification) (old : Option (List ℕ)) (f : ToolFault) → terms ≡ first ∷ objects → IsRead first s → (f ≡ fault.TooSmall) × HasNoObject o objects → StopsTerms o terms old old f
no_object o terms first objects s old f is read h =
    rw h.0 (record { first = first; objects = objects; whole = is; specification = s; read = read; unfit = h.1 }, kept old)

-- memory ran out before any answer was written
pub no_answers : (o : ScanOptions) (terms : List Datum) (old : Option (List ℕ)) → StopsTerms o terms old old fault.Memory
no_answers o terms old = inl (kept old)

-- writing the answers ends early
pub answers_stopped : (o : ScanOptions) (terms : List Datum) (s : Specification) (objects answers : List Datum) (old new : Option (List ℕ)) (f : ToolFault) → IsAsked o terms s objects → AreAnswers o s objects answers → StopsAnswers answers old new f → StopsTerms o terms old new f
answers_stopped o terms s objects answers old new fault.Memory asked are h =
    inr (record { specification = s; objects = objects; asked = asked; answers = answers; scanned = are; written = h })
answers_stopped o terms s objects answers old new fault.WriteFailed asked are h = tt
answers_stopped o terms s objects answers old new fault.TooSmall asked are h = absurd h
answers_stopped o terms s objects answers old new (fault.Text f) asked are h = absurd h
answers_stopped o terms s objects answers old new fault.BadInput asked are h = absurd h
answers_stopped o terms s objects answers old new (fault.Specification f) asked are h = absurd h
answers_stopped o terms s objects answers old new (fault.File f) asked are h = absurd h
answers_stopped o terms s objects answers old new (fault.Code f b) asked are h = absurd h
answers_stopped o terms s objects answers old new fault.BadOptions asked are h = absurd h
answers_stopped o terms s objects answers old new fault.ReadFailed asked are h = absurd h

-- ---- early ends by the input

pub not_allowed : (o : ScanOptions) (known old : Option (List ℕ)) → ¬ (AreAllowed o) → StopsScan o known old old fault.BadOptions
not_allowed o known old other = (other, kept old)
