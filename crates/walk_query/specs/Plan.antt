-- Named keys in the order in which a walk visits them.
use Rattle.std.specs.Prelude.{ℕ, ◌≡◌, ◌==◌, Bool, true, false, if◌then◌else◌, IsFalse, Option, Some, None, List}
use Rattle.std.specs.Option.{option_and_then}
use Rattle.std.specs.List.{IsDistinct, list_any}
use Rattle.std.specs.List.Sorted.{IsPermutation, IsSorted}
use Rattle.term_core.specs.Datum.{Datum}
use Rattle.term_core.specs.Order.{datum_cmp}
use Rattle.term_operand.specs.Order.{is_same}
use Rattle.mcode.specs.Answer.{answer_of}
use Rattle.mcode.specs.Machine.{field_of}
use Rattle.mcode.specs.Program.{Program}
use Rattle.mspec_syntax.specs.Specification.{Specification}
use Rattle.walk_query.specs.Named.{named_by}

-- the keys that are named at a position, in the order in which they are first named, and in ascending order
pub record Plan : Type 0 where
  pub keypos : ℕ
  pub keys : List Datum
  pub rising : List Datum

-- no key is named twice, and both lists have the same keys
pub record IsPlanned (p : Plan) : Type 0 where
  pub distinct : IsDistinct is_same p.keys
  pub moved : IsPermutation p.keys p.rising
  pub sorted : IsSorted datum_cmp p.rising

-- The keys that a walk visits, one after the other, in a table with this keypos, ordered or not. At another position
-- than the plan's no keys are named.
abbrev pub keys_at : Plan → ℕ → Bool → Option (List Datum)
keys_at p keypos ordered =
    if p.keypos == keypos then Some (if ordered then p.rising else p.keys) else None

-- for an object whose key at the plan's position isn't named, code has no answer
abbrev pub IsSilent : Program → Plan → Type 0
IsSilent code p =
    (o k : Datum) → field_of p.keypos o ≡ Some k → IsFalse (list_any (is_same k) p.keys)
    → answer_of code o ≡ None

-- the named keys that a query visits in a table with this keypos, ordered or not, or none if it visits all objects
abbrev pub plan_at : Option Plan → ℕ → Bool → Option (List Datum)
plan_at named keypos ordered = option_and_then (λ p. keys_at p keypos ordered) named

-- keys that a walk visits one after the other: no key twice, and code has no answer for an object with another key
abbrev pub AreVisited : Program → ℕ → Option (List Datum) → Type 0
AreVisited code keypos None = Unit {0}
AreVisited code keypos (Some ks) =
    IsDistinct is_same ks
    × ((o k : Datum) → field_of keypos o ≡ Some k → IsFalse (list_any (is_same k) ks) → answer_of code o ≡ None)

-- the keys that a query names are such that a walk may visit these alone, in any table
abbrev pub IsPlanFor : Program → Option Plan → Type 0
IsPlanFor code named = (keypos : ℕ) (ordered : Bool) → AreVisited code keypos (plan_at named keypos ordered)

-- keys in walk order: ascending for an ordered table, else in the order in which they are named
abbrev pub AreInOrder : Bool → List Datum → List Datum → Type 0
AreInOrder true named ks = IsPermutation named ks × IsSorted datum_cmp ks
AreInOrder false named ks = ks ≡ named

-- the keys that a walk visits according to a specification in a table with this keypos, ordered or not: those that the
-- specification names, if each of its heads names one
abbrev pub IsPlanOf : ℕ → Bool → Specification → Option (List Datum) → Type 0
IsPlanOf keypos ordered spec None = named_by keypos spec ≡ None
IsPlanOf keypos ordered spec (Some ks) =
    (named : List Datum) × (named_by keypos spec ≡ Some named) × AreInOrder ordered named ks
