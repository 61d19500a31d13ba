-- Patterns whose code can be written over slots.
use Rattle.std.specs.Prelude.{ℕ, ◌≡◌, ◌≤◌, Bool, true, false, List}
use Rattle.mspec_syntax.specs.Grammar.{is_among}
use Rattle.mspec_syntax.specs.Pattern.{Pattern, Patterns, Fields, pattern_variables, patterns_variables, fields_variables, pattern_nodes, patterns_nodes, fields_nodes}
use Rattle.mspec_syntax.specs.Pattern.Pattern.{anything}
use Rattle.mspec_syntax.specs.Sound.{IsSoundPattern, AreSoundPatterns, AreSoundFields}

-- the greatest number of nodes of a pattern
abbrev pub most_nodes : ℕ
most_nodes = 65535

-- each variable has a slot
abbrev pub HaveSlots : List ℕ → List ℕ → Type 0
HaveSlots slots variables = (n : ℕ) → is_among variables n ≡ true → is_among slots n ≡ true

-- a sound pattern with few enough nodes, whose variables have slots
pub record IsWritable (slots : List ℕ) (p : Pattern) : Type 0 where
  pub slotted : HaveSlots slots (pattern_variables p)
  pub sound : IsSoundPattern p
  pub small : pattern_nodes p ≤ most_nodes

pub record AreWritable (slots : List ℕ) (ps : Patterns) : Type 0 where
  pub slotted : HaveSlots slots (patterns_variables ps)
  pub sound : AreSoundPatterns ps
  pub small : patterns_nodes ps ≤ most_nodes

pub record AreFieldsWritable (slots : List ℕ) (fs : Fields) : Type 0 where
  pub slotted : HaveSlots slots (fields_variables fs)
  pub sound : AreSoundFields fs
  pub small : fields_nodes fs ≤ most_nodes

-- '_'
abbrev pub is_anything : Pattern → Bool
is_anything anything = true
is_anything p = false
