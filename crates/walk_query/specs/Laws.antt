-- Laws of named keys.
use Rattle.std.specs.Prelude.{ℕ, ◌≡◌, ◌↔◌, Bool, IsFalse, Option, Some, None, List}
use Rattle.std.specs.List.{IsDistinct, list_any}
use Rattle.term_core.specs.Datum.{Datum}
use Rattle.term_operand.specs.Order.{is_same}
use Rattle.mcode.specs.Machine.{field_of}
use Rattle.mspec_syntax.specs.Specification.{Specification}
use Rattle.mspec_meaning.specs.Meaning.{Means}
use Rattle.walk_query.specs.Named.{named_by}
use Rattle.walk_query.specs.Plan.{IsPlanOf}

-- no key is named twice
abbrev pub NamedKeysDiffer : Type 0
NamedKeysDiffer =
    (keypos : ℕ) (spec : Specification) (ks : List Datum) → named_by keypos spec ≡ Some ks
    → IsDistinct is_same ks

-- for an object whose key isn't one of those that are named, a specification has no answer
abbrev pub UnnamedKeysMeanNothing : Type 0
UnnamedKeysMeanNothing =
    (keypos : ℕ) (spec : Specification) (ks : List Datum) (o k : Datum) (answer : Option Datum)
    → named_by keypos spec ≡ Some ks → field_of keypos o ≡ Some k
    → IsFalse (list_any (is_same k) ks) → (Means spec o answer ↔ (answer ≡ None))

-- the keys that a walk visits according to a specification are uniquely determined
abbrev pub PlansAreOne : Type 0
PlansAreOne =
    (keypos : ℕ) (ordered : Bool) (spec : Specification) (a b : Option (List Datum))
    → IsPlanOf keypos ordered spec a → IsPlanOf keypos ordered spec b → a ≡ b
