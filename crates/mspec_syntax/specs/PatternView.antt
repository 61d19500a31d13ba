-- The pattern that a kind of the program represents.
use Rattle.std.specs.Prelude.{◌<◌, length, Option, Some, None, Box}
use Rattle.term_core.specs.Datum.Datum.{nil}
use Rattle.mspec_syntax.specs.Pattern.{Pattern, patterns_of, fields_of, cells_of, IsNoListPattern}
use Rattle.mspec_syntax.specs.Pattern.Pattern.{variable, anything, literal, tuple_of, map_of}
use Rattle.mspec_syntax.specs.declared.pattern.PatternKind.{PatternKind}
use Rattle.mspec_syntax.specs.declared.pattern.PatternKind.TheVariants as kind

-- the tail as a pattern, [] where there is none
abbrev pub tail_pattern : {A : Type 0} → Option (Box Pattern A) → Pattern
tail_pattern None = literal nil
tail_pattern (Some b) = b.value

abbrev pub pattern_of : {A : Type 0} → PatternKind A → Pattern
pattern_of kind.Anything = anything
pattern_of (kind.Variable n) = variable n
pattern_of (kind.Literal d) = literal d
pattern_of (kind.Tuple ps) = tuple_of (patterns_of ps.items)
pattern_of (kind.List ps tail) = cells_of ps.items (tail_pattern tail)
pattern_of (kind.Map fs) = map_of (fields_of fs.items)

-- a tail that is not a list, or none
abbrev pub IsTailPattern : {A : Type 0} → Option (Box Pattern A) → Type 0
IsTailPattern None = Unit {0}
IsTailPattern (Some b) = IsNoListPattern b.value

-- What a kind guarantees: a list has an element and a tail that is not a list.
abbrev pub IsKept : {A : Type 0} → PatternKind A → Type 0
IsKept kind.Anything = Unit {0}
IsKept (kind.Variable n) = Unit {0}
IsKept (kind.Literal d) = Unit {0}
IsKept (kind.Tuple ps) = Unit {0}
IsKept (kind.List ps tail) = (0 < length ps.items) × IsTailPattern tail
IsKept (kind.Map fs) = Unit {0}
