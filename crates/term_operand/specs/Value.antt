-- The term that a value represents, and which values need no memory.
use Rattle.std.specs.Prelude.{Bool, true, false, ◌&&◌, List, [], ◌∷◌}
use Rattle.term_core.specs.Datum.{Datum}
use Rattle.term_core.specs.Datum.Datum.{integer}
use Rattle.term_build.specs.Rest.{rest_of}
use Rattle.term_operand.specs.Operand.{boolean}
use Rattle.term_operand.specs.declared.value.Value.{Value}
use Rattle.term_operand.specs.declared.value.Value.TheVariants as value

-- the term that a value represents
abbrev pub value_datum : {A : Type 0} → Value A → Datum
value_datum (value.Term term) = term.now
value_datum (value.Rest list count) = rest_of count list.now
value_datum (value.Int number) = integer number
value_datum (value.Bool truth) = boolean truth
value_datum (value.Made term) = term

-- whether a value is borrowed, so that it needs no memory
abbrev pub is_borrowed : {A : Type 0} → Value A → Bool
is_borrowed (value.Term term) = true
is_borrowed (value.Rest list count) = true
is_borrowed (value.Int number) = true
is_borrowed (value.Bool truth) = true
is_borrowed (value.Made term) = false

-- whether each element of a list passes a test
abbrev pub all : {X : Type 0} → (X → Bool) → List X → Bool
all test [] = true
all test (x ∷ xs) = test x && all test xs
