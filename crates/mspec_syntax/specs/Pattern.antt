-- The head of a clause: a term with holes. (ERTS User's Guide, "Match Specifications in Erlang", "Grammar": MatchHead.)
use Rattle.std.specs.Prelude.{ℕ, suc, ◌+◌, Option, Some, None, option_map, List, [], ◌∷◌, ◌++◌}
use Rattle.term_core.specs.Datum.{Datum, Items}
use Rattle.term_core.specs.Datum.Datum.{tuple, nil, cons}
use Rattle.term_core.specs.Datum.Items.{no_items, item}

mutual
  -- A pattern: a variable by its number, '_', a term without parts, or a tuple, a list of cells or a map of patterns.
  pub data Pattern : Type 0 where
    variable : ℕ → Pattern
    anything : Pattern
    literal : Datum → Pattern
    tuple_of : Patterns → Pattern
    cell_of : Pattern → Pattern → Pattern
    map_of : Fields → Pattern

  -- the elements of a tuple, from the left
  pub data Patterns : Type 0 where
    no_patterns : Patterns
    pattern : Pattern → Patterns → Patterns

  -- the keys of a map, which mean themselves, each with the pattern of its value
  pub data Fields : Type 0 where
    no_fields : Fields
    field : Datum → Pattern → Fields → Fields

-- a list of patterns as the elements of a tuple
abbrev pub patterns_of : List Pattern → Patterns
patterns_of [] = no_patterns
patterns_of (p ∷ ps) = pattern p (patterns_of ps)

-- a list of keys and patterns as the fields of a map
abbrev pub fields_of : List (Datum × Pattern) → Fields
fields_of [] = no_fields
fields_of (f ∷ fs) = field f.0 f.1 (fields_of fs)

-- the keys of a map, in their order
abbrev pub field_keys : Fields → List Datum
field_keys no_fields = []
field_keys (field k p fs) = k ∷ field_keys fs

-- the list pattern of these elements and this tail
abbrev pub cells_of : List Pattern → Pattern → Pattern
cells_of [] tail = tail
cells_of (p ∷ ps) tail = cell_of p (cells_of ps tail)

-- a pattern that is neither [] nor a cell
abbrev pub IsNoListPattern : Pattern → Type 0
IsNoListPattern (variable n) = Unit {0}
IsNoListPattern anything = Unit {0}
IsNoListPattern (literal nil) = ⊥
IsNoListPattern (literal d) = Unit {0}
IsNoListPattern (tuple_of ps) = Unit {0}
IsNoListPattern (cell_of p q) = ⊥
IsNoListPattern (map_of fs) = Unit {0}

abbrev mutual
  -- the numbers of a pattern's variables, from the left, as often as they occur
  pub pattern_variables : Pattern → List ℕ
  pattern_variables (variable n) = n ∷ []
  pattern_variables anything = []
  pattern_variables (literal d) = []
  pattern_variables (tuple_of ps) = patterns_variables ps
  pattern_variables (cell_of p q) = pattern_variables p ++ pattern_variables q
  pattern_variables (map_of fs) = fields_variables fs

  pub patterns_variables : Patterns → List ℕ
  patterns_variables no_patterns = []
  patterns_variables (pattern p ps) = pattern_variables p ++ patterns_variables ps

  pub fields_variables : Fields → List ℕ
  fields_variables no_fields = []
  fields_variables (field k p fs) = pattern_variables p ++ fields_variables fs

abbrev pub own_cell : Option Datum → Option Datum → Option Datum
own_cell (Some head) (Some tail) = Some (cons head tail)
own_cell head tail = None

abbrev pub own_item : Option Datum → Option Items → Option Items
own_item (Some d) (Some ds) = Some (item d ds)
own_item d ds = None

abbrev mutual
  -- the term that a pattern spells, None if it contains a variable, '_' or a map
  pub own_term : Pattern → Option Datum
  own_term (variable n) = None
  own_term anything = None
  own_term (literal d) = Some d
  own_term (tuple_of ps) = option_map tuple (own_terms ps)
  own_term (cell_of p q) = own_cell (own_term p) (own_term q)
  own_term (map_of fs) = None

  pub own_terms : Patterns → Option Items
  own_terms no_patterns = Some no_items
  own_terms (pattern p ps) = own_item (own_term p) (own_terms ps)

-- the nodes of a term as the tail of a list: [] at the end of a list is not a node
abbrev pub literal_tail_nodes : Datum → ℕ
literal_tail_nodes nil = 0
literal_tail_nodes d = 1

abbrev mutual
  -- The number of nodes of a pattern: itself and all patterns in it. A tail counts unless it is [], and each key of a
  -- map counts one.
  pub pattern_nodes : Pattern → ℕ
  pattern_nodes (variable n) = 1
  pattern_nodes anything = 1
  pattern_nodes (literal d) = 1
  pattern_nodes (tuple_of ps) = suc (patterns_nodes ps)
  pattern_nodes (cell_of p q) = suc (pattern_nodes p + tail_nodes q)
  pattern_nodes (map_of fs) = suc (fields_nodes fs)

  pub patterns_nodes : Patterns → ℕ
  patterns_nodes no_patterns = 0
  patterns_nodes (pattern p ps) = pattern_nodes p + patterns_nodes ps

  pub fields_nodes : Fields → ℕ
  fields_nodes no_fields = 0
  fields_nodes (field k p fs) = suc (pattern_nodes p + fields_nodes fs)

  -- the nodes of the remaining elements of a list and of the tail at their end
  pub tail_nodes : Pattern → ℕ
  tail_nodes (variable n) = 1
  tail_nodes anything = 1
  tail_nodes (literal d) = literal_tail_nodes d
  tail_nodes (tuple_of ps) = suc (patterns_nodes ps)
  tail_nodes (cell_of p q) = pattern_nodes p + tail_nodes q
  tail_nodes (map_of fs) = suc (fields_nodes fs)

abbrev mutual
  -- the size of a pattern, which is less for each of its parts
  pub pattern_size : Pattern → ℕ
  pattern_size (variable n) = 1
  pattern_size anything = 1
  pattern_size (literal d) = 1
  pattern_size (tuple_of ps) = suc (patterns_size ps)
  pattern_size (cell_of p q) = suc (pattern_size p + pattern_size q)
  pattern_size (map_of fs) = suc (fields_size fs)

  pub patterns_size : Patterns → ℕ
  patterns_size no_patterns = 0
  patterns_size (pattern p ps) = suc (pattern_size p + patterns_size ps)

  pub fields_size : Fields → ℕ
  fields_size no_fields = 0
  fields_size (field k p fs) = suc (pattern_size p + fields_size fs)
