-- The values of variables while a head is matched.
use Rattle.std.specs.Prelude.{ℕ, ◌≡◌, ◌==◌, if◌then◌else◌, Bool, false, Option, Some, None, option_map, List, [], ◌∷◌, map, length, MatchBool, Vec}
use Rattle.term_core.specs.Datum.{Datum}
use Rattle.mspec_syntax.specs.Grammar.{is_among}
use Rattle.term_operand.specs.Operand.{operand_datum}
use Rattle.term_operand.specs.declared.operand.Operand.{Operand}
use Rattle.mspec_syntax.specs.Pattern.{Pattern, cells_of}
use Rattle.mspec_syntax.specs.Specification.{Clause, clause_variables}
use Rattle.mspec_match.specs.Match.{Substitution, Fits, Matches}

-- the terms in the slots, None for a free slot
abbrev pub seen : {A : Type 0} → List (Option (Operand A)) → List (Option Datum)
seen slots = map (λ o. option_map operand_datum o) slots

-- the value of a variable, given the variables and their slots
abbrev pub assigned : List ℕ → List (Option Datum) → ℕ → Option Datum
assigned [] slots n = None
assigned (v ∷ vs) [] n = None
assigned (v ∷ vs) (slot ∷ slots) n = if v == n then slot else assigned vs slots n

-- the second assignment has all values that the first has
abbrev pub Extends : (ℕ → Option Datum) → (ℕ → Option Datum) → Type 0
Extends s r = (n : ℕ) (d : Datum) → s n ≡ Some d → r n ≡ Some d

-- no variable other than these has a value
abbrev pub IsOver : List ℕ → (ℕ → Option Datum) → Type 0
IsOver vs s = (n : ℕ) → is_among vs n ≡ false → s n ≡ None

-- the new slots are the old ones with what the claim requires, and no more
pub record Binds (vs : List ℕ) (old new : List (Option Datum)) (Claim : (ℕ → Option Datum) → Type 0)
    : Type 0 where
  pub grown : Extends (assigned vs old) (assigned vs new)
  pub holds : Claim (assigned vs new)
  pub least : (s : ℕ → Option Datum) → IsOver vs s → Extends (assigned vs old) s → Claim s
      → Extends (assigned vs new) s

-- the claim does not hold, whatever values the free variables get
abbrev pub NeverHolds : List ℕ → List (Option Datum) → ((ℕ → Option Datum) → Type 0) → Type 0
NeverHolds vs old Claim =
    (s : ℕ → Option Datum) → IsOver vs s → Extends (assigned vs old) s → Claim s → ⊥

-- an answer that says whether the slots could be bound as the claim requires
abbrev pub Answers : Bool → List ℕ → List (Option Datum) → List (Option Datum)
    → ((ℕ → Option Datum) → Type 0) → Type 0
Answers answer vs old new Claim =
    MatchBool answer (Binds vs old new Claim) (NeverHolds vs old Claim)

-- no list with these first elements fits, whatever its other patterns
abbrev pub NeverFitsFront : List ℕ → List (Option Datum) → List Pattern → Datum → Type 0
NeverFitsFront vs old ps d = (q : Pattern) → NeverHolds vs old (λ s. Fits (cells_of ps q) s d)

-- The slots are bound as a list's first elements require, and these patterns remain for this rest. An answer for what
-- remains, whatever patterns follow, is the answer for the whole.
abbrev pub LeadsOn : List ℕ → List (Option Datum) → List (Option Datum)
    → List Pattern → Datum → List Pattern → Datum → Type 0
LeadsOn vs old now ps d left rest =
    (q : Pattern) (answer : Bool) (new : List (Option Datum))
    → Answers answer vs now new (λ s. Fits (cells_of left q) s rest)
    → Answers answer vs old new (λ s. Fits (cells_of ps q) s d)

-- the slots are bound as all of a list's first elements require, and this rest remains
abbrev pub BindsFront : List ℕ → List (Option Datum) → List (Option Datum)
    → List Pattern → Datum → Datum → Type 0
BindsFront vs old now ps d rest = LeadsOn vs old now ps d [] rest

-- all slots are free
abbrev pub AreFree : List (Option Datum) → Type 0
AreFree [] = Unit {0}
AreFree (slot ∷ slots) = (slot ≡ None) × AreFree slots

-- the values of the slots that are bound
abbrev pub known : List (Option Datum) → List Datum
known [] = []
known (None ∷ slots) = known slots
known (Some d ∷ slots) = d ∷ known slots

-- the substitution of the variables whose slots are bound
abbrev pub substitution_of : List ℕ → List (Option Datum) → Substitution
substitution_of [] slots = []
substitution_of (v ∷ vs) [] = []
substitution_of (v ∷ vs) (None ∷ slots) = substitution_of vs slots
substitution_of (v ∷ vs) (Some d ∷ slots) = (v, d) ∷ substitution_of vs slots

-- no substitution makes the pattern match
abbrev pub NeverMatches : Pattern → Datum → Type 0
NeverMatches p t = (s : Substitution) → Matches p s t → ⊥

-- each variable of the clause's head has a slot, and the values in the slots make the head match
abbrev pub MatchesBy : {A : Type 0} → Clause → Vec (Option (Operand A)) A → Datum → Type 0
MatchesBy c slots t =
    (length slots.items ≡ length (clause_variables c))
    × Matches c.head (substitution_of (clause_variables c) (seen slots.items)) t
