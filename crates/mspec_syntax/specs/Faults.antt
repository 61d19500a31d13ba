-- What is wrong with a term as a specification: its faults in reading order. An outer term's fault comes before those
-- inside it; these are in order from the left, and those of a map's pairs in ascending key order.
use Rattle.std.specs.Prelude.{ℕ, suc, ◌≡◌, ◌⊎◌, Bool, true, false, if◌then◌else◌, Option, Some, None, List, [], ◌∷◌, ◌++◌}
use Rattle.term_core.specs.Datum.{Datum, Items, Entries, item_count, proper_elements}
use Rattle.term_core.specs.Datum.Datum.{integer, atom, tuple, map, nil, cons, binary}
use Rattle.term_core.specs.Datum.Items.{no_items, item}
use Rattle.term_core.specs.Datum.Entries.{no_entries, entry}
use Rattle.term_core.specs.Limits.{IsTerm}
use Rattle.mspec_syntax.specs.Word.{word_of}
use Rattle.mspec_syntax.specs.Callee.{callee_of}
use Rattle.mspec_syntax.specs.Rising.{rising}
use Rattle.mspec_syntax.specs.Grammar.{is_hole, is_misnumbered, mentions, is_among, IsSpecification}
use Rattle.mspec_syntax.specs.Specification.{Specification, IsWithinLimits}
use Rattle.mspec_syntax.specs.declared.word.Callee.{Callee}
use Rattle.mspec_syntax.specs.declared.word.Callee.TheVariants as callee
use Rattle.mspec_syntax.specs.declared.word.Word.{Word}
use Rattle.mspec_syntax.specs.declared.word.Word.TheVariants as word
use Rattle.mspec_syntax.specs.declared.fault.SpecFault.{SpecFault}
use Rattle.mspec_syntax.specs.declared.fault.SpecFault.TheVariants.{Memory, NotAList, NotAClause, BadHead, BadConditions, BadBody, UnknownCall, Unbound, BadVariableName, BadExpression, VariableInMapKey, TooLarge}

-- one fault if a test says so, else none
abbrev pub fault_if : Bool → SpecFault → List SpecFault
fault_if true f = f ∷ []
fault_if false f = []

-- the faults of a map's key in the head of clause i
abbrev pub key_faults : ℕ → Datum → List SpecFault
key_faults i k =
    fault_if (mentions is_hole k) (VariableInMapKey i)
    ++ fault_if (mentions is_misnumbered k) (BadVariableName i)

abbrev mutual
  -- the faults of a term inside the head of clause i
  pub pattern_faults : ℕ → Datum → List SpecFault
  pattern_faults i (integer z) = []
  pattern_faults i (atom cs) = fault_if (is_misnumbered (word_of cs)) (BadVariableName i)
  pattern_faults i (tuple ds) = items_faults i ds
  pattern_faults i (map es) = entries_faults i es
  pattern_faults i nil = []
  pattern_faults i (cons head tail) = pattern_faults i head ++ pattern_faults i tail
  pattern_faults i (binary bs) = []

  pub items_faults : ℕ → Items → List SpecFault
  items_faults i no_items = []
  items_faults i (item d ds) = pattern_faults i d ++ items_faults i ds

  pub entries_faults : ℕ → Entries → List SpecFault
  entries_faults i no_entries = []
  entries_faults i (entry k v es) = key_faults i k ++ (pattern_faults i v ++ entries_faults i es)

abbrev pub word_variables : Word → List ℕ
word_variables (word.Variable n) = n ∷ []
word_variables w = []

abbrev mutual
  -- the variables that a head's term names, from the left, as often as they occur
  pub named_variables : Datum → List ℕ
  named_variables (integer z) = []
  named_variables (atom cs) = word_variables (word_of cs)
  named_variables (tuple ds) = items_variables ds
  named_variables (map es) = entries_variables es
  named_variables nil = []
  named_variables (cons head tail) = named_variables head ++ named_variables tail
  named_variables (binary bs) = []

  pub items_variables : Items → List ℕ
  items_variables no_items = []
  items_variables (item d ds) = named_variables d ++ items_variables ds

  pub entries_variables : Entries → List ℕ
  entries_variables no_entries = []
  entries_variables (entry k v es) = named_variables v ++ entries_variables es

-- the faults of a whole head of clause i: a head is a variable, '_' or a tuple
abbrev pub head_faults : ℕ → Datum → List SpecFault
head_faults i (atom cs) = fault_if (if is_hole (word_of cs) then false else true) (BadHead i)
head_faults i (tuple ds) = items_faults i ds
head_faults i d = BadHead i ∷ []

abbrev pub word_faults : ℕ → List ℕ → Word → List SpecFault
word_faults i variables (word.Variable n) =
    fault_if (if is_among variables n then false else true) (Unbound i n)
word_faults i variables word.Misnumbered = BadVariableName i ∷ []
word_faults i variables w = []

-- the faults of a call, given those of its arguments
abbrev pub call_faults : ℕ → Callee → List SpecFault → List SpecFault
call_faults i callee.Quote faults = []
call_faults i callee.Unknown faults = UnknownCall i ∷ []
call_faults i c faults = faults

abbrev mutual
  -- the faults of a term in a condition or the body of clause i, whose head names these variables
  pub expression_faults : ℕ → List ℕ → Datum → List SpecFault
  expression_faults i variables (integer z) = []
  expression_faults i variables (atom cs) = word_faults i variables (word_of cs)
  expression_faults i variables (tuple ds) = tuple_faults i variables ds
  expression_faults i variables (map es) = values_faults i variables es
  expression_faults i variables nil = []
  expression_faults i variables (cons head tail) =
      expression_faults i variables head ++ expression_faults i variables tail
  expression_faults i variables (binary bs) = []

  -- the faults of a tuple: it has to begin with an atom that calls something, or contain just one tuple
  pub tuple_faults : ℕ → List ℕ → Items → List SpecFault
  tuple_faults i variables (item (atom cs) ds) =
      call_faults i (callee_of cs (item_count ds)) (parts_faults i variables ds)
  tuple_faults i variables (item (tuple ds) no_items) = parts_faults i variables ds
  tuple_faults i variables ds = BadExpression i ∷ []

  pub parts_faults : ℕ → List ℕ → Items → List SpecFault
  parts_faults i variables no_items = []
  parts_faults i variables (item d ds) =
      expression_faults i variables d ++ parts_faults i variables ds

  -- the faults of a map's values; its keys mean themselves
  pub values_faults : ℕ → List ℕ → Entries → List SpecFault
  values_faults i variables no_entries = []
  values_faults i variables (entry k v es) =
      expression_faults i variables v ++ values_faults i variables es

abbrev pub expressions_faults : ℕ → List ℕ → List Datum → List SpecFault
expressions_faults i variables [] = []
expressions_faults i variables (d ∷ ds) =
    expression_faults i variables d ++ expressions_faults i variables ds

-- the faults of conditions, which have to be a proper list
abbrev pub conditions_faults : ℕ → List ℕ → Option (List Datum) → List SpecFault
conditions_faults i variables None = BadConditions i ∷ []
conditions_faults i variables (Some ds) = expressions_faults i variables ds

-- the faults of a body, which has to be a proper list with at least one element
abbrev pub body_faults : ℕ → List ℕ → Option (List Datum) → List SpecFault
body_faults i variables None = BadBody i ∷ []
body_faults i variables (Some []) = BadBody i ∷ []
body_faults i variables (Some (d ∷ ds)) = expressions_faults i variables (d ∷ ds)

-- the faults of clause i: of its head, its conditions and its body
abbrev pub clause_faults : ℕ → Datum → List SpecFault
clause_faults i (tuple (item head (item conditions (item body no_items)))) =
    head_faults i head
    ++ (
    conditions_faults i (rising (named_variables head)) (proper_elements conditions)
    ++ body_faults i (rising (named_variables head)) (proper_elements body)
    )
clause_faults i d = NotAClause i ∷ []

-- the faults of clauses numbered from i on
abbrev pub clauses_faults : ℕ → List Datum → List SpecFault
clauses_faults i [] = []
clauses_faults i (d ∷ ds) = clause_faults i d ++ clauses_faults (suc i) ds

abbrev pub elements_faults : Option (List Datum) → List SpecFault
elements_faults None = NotAList ∷ []
elements_faults (Some ds) = clauses_faults 0 ds

-- all faults of a term as a specification, except for its size
abbrev pub specification_faults : Datum → List SpecFault
specification_faults d = elements_faults (proper_elements d)

-- a fault is the first of these
pub record IsFirst (f : SpecFault) (faults : List SpecFault) : Type 0 where
  pub others : List SpecFault
  pub first : faults ≡ f ∷ others

-- a reader fails with this fault: memory ran out, or it is the first of these faults
abbrev pub Refuses : SpecFault → List SpecFault → Type 0
Refuses f faults = (f ≡ Memory) ⊎ IsFirst f faults

-- a term is a specification, but one that exceeds the limits
pub record IsTooLarge (d : Datum) : Type 0 where
  pub specification : Specification
  pub is : IsSpecification d specification
  pub large : ¬ IsWithinLimits specification

-- why a specification without faults is rejected: memory ran out, or it exceeds the limits
abbrev pub IsSizeRefusal : SpecFault → Specification → Type 0
IsSizeRefusal f s = (f ≡ Memory) ⊎ ((f ≡ TooLarge) × ¬ IsWithinLimits s)

-- why a term is rejected: memory ran out, its first fault, or its size if it has no fault
abbrev pub IsRefusal : SpecFault → Datum → Type 0
IsRefusal f d = Refuses f (specification_faults d) ⊎ ((f ≡ TooLarge) × IsTooLarge d)

-- a specification that the grammar allows, written as a term
pub record IsReadable (s : Specification) : Type 0 where
  pub term : Datum
  pub within : IsTerm term
  pub is : IsSpecification term s
