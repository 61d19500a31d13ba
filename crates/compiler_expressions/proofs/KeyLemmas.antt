-- The list of a map's keys.
use Rattle.std.proofs.Common.{◌≡◌, ℕ, ◌≤◌, Option, Some, List, ◌++◌, length, drop, sym, ◌∙◌, ap}
use Rattle.std.proofs.lemmas.List.{drop_all, append-nil}
use Rattle.term_core.specs.Datum.{Datum, cells}
use Rattle.term_core.specs.Limits.{IsTerm, within_limits}
use Rattle.term_build.proofs.MadeLemmas.{made-within_limits}
use Rattle.mspec_syntax.specs.Expression.{Expression, assignments_of, assignment_keys}

-- if no key is left, the keys so far are all
pub keys-all : (ms : List (Datum × Expression)) (i : ℕ) (ks : List Datum) → length ms ≤ i → ks ++ assignment_keys (assignments_of (drop i ms)) ≡ assignment_keys (assignments_of ms) → ks ≡ assignment_keys (assignments_of ms)
keys-all ms i ks end front =
    sym (append-nil ks) ∙ ap (λ l. ks ++ assignment_keys (assignments_of l)) (sym (drop_all i ms end)) ∙ front

-- a list of keys that is a term within the limits can be made
pub keys-made : (keys ks : List Datum) (tail tail' : Datum) (made : Option Datum) → keys ≡ ks → tail ≡ tail' → IsTerm (cells ks tail') → made ≡ within_limits (cells keys tail) → made ≡ Some (cells ks tail')
keys-made keys ks tail tail' made same end term is =
    is ∙ sym (made-within_limits (cells keys tail) (cells ks tail') (ap (λ l. cells l tail) same ∙ ap (λ t. cells ks t) end) term)
