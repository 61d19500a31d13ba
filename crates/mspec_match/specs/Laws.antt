-- Laws of matching.
use Rattle.std.specs.Prelude.{◌≡◌, ◌↔◌, Some, []}
use Rattle.term_core.specs.Datum.{Datum}
use Rattle.mspec_syntax.specs.Pattern.{Pattern, own_term}
use Rattle.mspec_match.specs.Match.{Substitution, Matches}

-- at most one substitution makes a pattern match a term
abbrev pub HasOneMatch : Type 0
HasOneMatch = (p : Pattern) (t : Datum) (s r : Substitution) → Matches p s t → Matches p r t → s ≡ r

-- a pattern that spells a term matches that term alone, and binds nothing
abbrev pub OwnTermMatches : Type 0
OwnTermMatches =
    (p : Pattern) (d : Datum) (s : Substitution) (t : Datum) → own_term p ≡ Some d
    → (Matches p s t ↔ ((s ≡ []) × (t ≡ d)))
