-- Slots that contain the values of variables.
use Rattle.std.specs.Prelude.{ℕ, ◌≡◌, Some, List, [], ◌∷◌}
use Rattle.mcode.specs.Machine.{Bindings, binding}
use Rattle.mspec_syntax.specs.Rising.{rank_of}
use Rattle.mspec_match.specs.Match.{Substitution}

-- the slot of each variable, in code over these variables, contains its value
abbrev pub AreShown : List ℕ → Bindings → Substitution → Type 0
AreShown vs slots [] = Unit {0}
AreShown vs slots (e ∷ s) = (binding slots (rank_of vs e.0) ≡ Some e.1) × AreShown vs slots s
