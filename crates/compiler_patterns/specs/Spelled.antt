-- Patterns that spell a term.
use Rattle.std.specs.Prelude.{Bool, true, ◌&&◌, List, [], ◌∷◌}
use Rattle.std.specs.Option.{is_some}
use Rattle.mspec_syntax.specs.Pattern.{Pattern, own_term}

-- the pattern contains no variable, '_' or map
abbrev pub spells : Pattern → Bool
spells p = is_some (own_term p)

-- none of the patterns contains a variable, '_' or map
abbrev pub all_spell : List Pattern → Bool
all_spell [] = true
all_spell (p ∷ ps) = spells p && all_spell ps
