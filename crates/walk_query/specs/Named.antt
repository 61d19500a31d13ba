-- The keys that a specification names. (If each head names one, `ets` looks only at the objects of these keys.)
use Rattle.std.specs.Prelude.{◌≡◌, ℕ, zero, suc, if◌then◌else◌, Option, Some, None, List, [], ◌∷◌, ◌++◌}
use Rattle.std.specs.HashSet.{HashSet, contains_by}
use Rattle.std.specs.List.{list_any}
use Rattle.std.specs.Option.{option_and_then}
use Rattle.term_core.specs.Datum.{Datum}
use Rattle.term_operand.specs.Order.{is_same}
use Rattle.mspec_syntax.specs.Pattern.{Pattern, Patterns, own_term}
use Rattle.mspec_syntax.specs.Pattern.Pattern.{tuple_of}
use Rattle.mspec_syntax.specs.Pattern.Patterns.{no_patterns, pattern}
use Rattle.mspec_syntax.specs.Specification.{Specification}

-- the term that the n-th pattern of a tuple spells, counted from 0, if there is one and it spells a term
abbrev pub spelled_at : Patterns → ℕ → Option Datum
spelled_at no_patterns n = None
spelled_at (pattern p ps) zero = own_term p
spelled_at (pattern p ps) (suc n) = spelled_at ps n

-- the key among a head's elements, which are counted from 1, if it is free of variables, '_' and maps
abbrev pub key_among : ℕ → Patterns → Option Datum
key_among zero ps = None
key_among (suc n) ps = spelled_at ps n

-- the key that a head names, if it is a tuple with a key at this position
abbrev pub key_named : ℕ → Pattern → Option Datum
key_named keypos (tuple_of ps) = key_among keypos ps
key_named keypos p = None

-- the keys with one appended, unless it is one of them
abbrev pub with_key : List Datum → Datum → List Datum
with_key ks k = if list_any (is_same k) ks then ks else ks ++ k ∷ []

-- a set has these keys and no others
abbrev pub HasKeys : {S : Type 0} → HashSet Datum S → List Datum → Type 0
HasKeys set ks = (k : Datum) → contains_by (is_same k) set ≡ list_any (is_same k) ks

-- the keys that were named before, followed by those that clauses name, if each clause names one
abbrev pub named_from : ℕ → List Datum → Specification → Option (List Datum)
named_from keypos ks [] = Some ks
named_from keypos ks (c ∷ cs) =
    option_and_then (λ k. named_from keypos (with_key ks k) cs) (key_named keypos c.head)

-- The keys that a specification names at this position, if each of its clauses names one: each once, in the order in
-- which they are first named.
abbrev pub named_by : ℕ → Specification → Option (List Datum)
named_by keypos spec = named_from keypos [] spec
