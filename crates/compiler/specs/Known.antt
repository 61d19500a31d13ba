-- What slots say of the variables of one clause while its head is matched.
use Rattle.std.specs.Prelude.{ℕ, ◌≡◌, ◌⊎◌, true, if◌then◌else◌, Option, Some, None, List, [], length, map}
use Rattle.term_core.specs.Datum.{Datum}
use Rattle.mcode.specs.Machine.{Bindings, State, binding}
use Rattle.mcode.specs.Program.{Program}
use Rattle.mspec_syntax.specs.Grammar.{is_among}
use Rattle.mspec_syntax.specs.Rising.{rank_of}
use Rattle.mspec_match.specs.Slots.{Binds, NeverHolds}
use Rattle.compiler.specs.Reach.{at, Comes}

-- the variables of all clauses, in the order of their slots, and those of one clause
pub record Names : Type 0 where
  pub all : List ℕ
  pub own : List ℕ

-- the value of a variable if it is one of those that are known; another clause may have left a binding
abbrev pub seen_at : Names → Bindings → List ℕ → ℕ → Option Datum
seen_at names slots known n =
    if is_among known n then binding slots (rank_of names.all n) else None

-- the values of all variables of the clause, each if it is one of those that are known
abbrev pub own_slots : Names → Bindings → List ℕ → List (Option Datum)
own_slots names slots known = map (seen_at names slots known) names.own

-- there is a slot for each variable, and the variables that are known are bound
pub record AreKept (names : Names) (slots : Bindings) (known : List ℕ) : Type 0 where
  pub count : length slots ≡ length names.all
  pub held : (n : ℕ) → is_among known n ≡ true
      → (d : Datum) × (binding slots (rank_of names.all n) ≡ Some d)

-- the run comes to pc with this stack, and slots are bound as the claim requires
pub record ComesBound (p : Program) (object : Datum) (names : Names) (from : State) (pc : ℕ)
    (base : List Datum) (slots : Bindings) (known now : List ℕ)
    (Claim : (ℕ → Option Datum) → Type 0) : Type 0 where
  pub slots_then : Bindings
  pub comes : Comes p object from (at pc base slots_then)
  pub binds : Binds names.own (own_slots names slots known) (own_slots names slots_then now) Claim
  pub kept : AreKept names slots_then now

-- the run comes to the clause's end, and whatever values the other variables get, the claim doesn't hold
pub record ComesFailed (p : Program) (object : Datum) (names : Names) (from : State) (behind : ℕ)
    (slots : Bindings) (known : List ℕ) (Claim : (ℕ → Option Datum) → Type 0) : Type 0 where
  pub slots_then : Bindings
  pub comes : Comes p object from (at behind [] slots_then)
  pub never : NeverHolds names.own (own_slots names slots known) Claim
  pub count : length slots_then ≡ length names.all

-- the run comes to pc with the claim satisfied, or to the clause's end with the claim impossible
abbrev pub Decides : Program → Datum → Names → ℕ → State → ℕ → List Datum → Bindings
    → List ℕ → List ℕ → ((ℕ → Option Datum) → Type 0) → Type 0
Decides p object names behind from pc base slots known now Claim =
    ComesBound p object names from pc base slots known now Claim
    ⊎ ComesFailed p object names from behind slots known Claim
