-- What `explain` writes, and how it ends early.
use Rattle.std.specs.Prelude.{ℕ, ◌≡◌, ◌<◌, ◌⊎◌, Option, None, List, [], ◌∷◌, ◌++◌, length}
use Rattle.std.specs.Io.KnownBytes.{Appends, Keeps}
use Rattle.term_core.specs.Datum.{Datum}
use Rattle.mcode.specs.Answer.{answer_of}
use Rattle.mcode.specs.Program.{Program}
use Rattle.mspec_syntax.specs.Specification.{Specification, specification_variables}
use Rattle.compiler_clauses.specs.Clauses.{code_of}
use Rattle.budget.specs.Paths.{IsBudget}
use Rattle.verifier.specs.Typing.{IsDepth}
use Rattle.walk_query.specs.Named.{named_by}
use Rattle.tool_io.specs.declared.fault.ToolFault.{ToolFault}
use Rattle.tool_io.specs.declared.fault.ToolFault.TheVariants as fault
use Rattle.tool_query.specs.Query.{Query, Answers, IsQuery, IsNoQuery}
use Rattle.tool_explain.specs.Plan.{plan_text, bounds_text}
use Rattle.tool_explain.specs.Listing.{listing}
use Rattle.tool_explain.specs.Passing.{GainsFront}

-- the code that is shown for a query: that of the specification, or that of the file
abbrev pub code_shown : Query → Program
code_shown (Query.meant s) = code_of s
code_shown (Query.coded p) = p

-- the variables of the code's slots, in ascending order; those of a file are unknown
abbrev pub variables_shown : Query → List ℕ
variables_shown (Query.meant s) = specification_variables s
variables_shown (Query.coded p) = []

-- the keys that a walk by the query looks up, if it does not visit all objects: those that the specification names;
-- those of a file are unknown
abbrev pub keys_shown : ℕ → Query → Option (List Datum)
keys_shown keypos (Query.meant s) = named_by keypos s
keys_shown keypos (Query.coded p) = None

-- the text of code: its bounds, and its listing
pub record CodeText (variables : List ℕ) (p : Program) (text : List ℕ) : Type 0 where
  pub budget : ℕ
  pub depth : ℕ
  pub budget_is : IsBudget p budget
  pub depth_is : IsDepth p depth
  pub text_is : text ≡ bounds_text budget depth ++ listing variables p

-- The text of a query: which objects a walk visits, the bounds of the code that answers the query, and the listing of
-- that code.
pub record QueryText (keypos : ℕ) (q : Query) (text : List ℕ) : Type 0 where
  pub code : List ℕ
  pub answers : (object : Datum) → Answers q object (answer_of (code_shown q) object)
  pub code_is : CodeText (variables_shown q) (code_shown q) code
  pub text_is : text ≡ plan_text keypos (keys_shown keypos q) ++ code

-- this is the explanation of the query that the term is
abbrev pub Explains : ℕ → Datum → List ℕ → Type 0
Explains keypos d text = (q : Query) × IsQuery d q × QueryText keypos q text

-- the terms are one, and the writer gains its explanation
pub record WritesExplanation (keypos : ℕ) (terms : List Datum) (old new : Option (List ℕ)) : Type 0 where
  pub first : Datum
  pub text : List ℕ
  pub alone : terms ≡ first ∷ []
  pub explains : Explains keypos first text
  pub gained : Appends old new text

-- how the explanation of a query ends early: out of memory, with nothing written or with a beginning of its text; if the
-- writer failed, its contents are unspecified
abbrev pub StopsQuery : ℕ → Query → (old new : Option (List ℕ)) → ToolFault → Type 0
StopsQuery keypos q old new fault.Memory =
    Keeps old new ⊎ ((text : List ℕ) × QueryText keypos q text × GainsFront text old new)
StopsQuery keypos q old new fault.WriteFailed = Unit {0}
StopsQuery keypos q old new f = ⊥

-- the writer gains the text of the query that a term is
abbrev pub WritesQuery : ℕ → Datum → (old new : Option (List ℕ)) → Type 0
WritesQuery keypos d old new = (text : List ℕ) × Explains keypos d text × Appends old new text

-- how the explanation of a term ends early: nothing is written, unless memory runs out while the text of its query is
-- written
abbrev pub StopsTerm : ℕ → Datum → (old new : Option (List ℕ)) → ToolFault → Type 0
StopsTerm keypos d old new f =
    (IsNoQuery d f × Keeps old new) ⊎ ((q : Query) × IsQuery d q × StopsQuery keypos q old new f)

-- How the command ends early. Nothing is written, except that a beginning of the text may be if memory runs out. If the
-- writer failed, its contents are unspecified.
abbrev pub StopsExplanation : ℕ → List Datum → (old new : Option (List ℕ)) → ToolFault → Type 0
StopsExplanation keypos terms old new fault.WriteFailed = Unit {0}
StopsExplanation keypos terms old new fault.Memory =
    Keeps old new
    ⊎ ((first : Datum) × (terms ≡ first ∷ []) × (text : List ℕ) × Explains keypos first text × GainsFront text old new)
StopsExplanation keypos terms old new fault.BadInput = (1 < length terms) × Keeps old new
StopsExplanation keypos terms old new f =
    (first : Datum) × (terms ≡ first ∷ []) × IsNoQuery first f × Keeps old new
