-- Keys of small specifications, worked out.
use Rattle.std.proofs.Common.{◌≡◌, pos, Some, None, List, [], ◌∷◌, refl}
use Rattle.term_core.specs.Datum.{Datum}
use Rattle.term_core.specs.Datum.Datum.{integer, tuple, nil, cons}
use Rattle.term_core.specs.Datum.Items.{no_items, item}
use Rattle.term_core.specs.Order.{datum_cmp}
use Rattle.mspec_syntax.specs.Pattern.{Pattern, patterns_of}
use Rattle.mspec_syntax.specs.Pattern.Pattern.{variable, anything, literal, tuple_of, cell_of, map_of}
use Rattle.mspec_syntax.specs.Pattern.Fields.{no_fields}
use Rattle.mspec_syntax.specs.Specification.{Clause}
use Rattle.walk_query.specs.Named.{named_by}

abbrev clause : List Pattern → Clause
clause ps = record { head = tuple_of (patterns_of ps); conditions = []; body = [] }

abbrev one : Datum
one = integer (pos 1)

abbrev two : Datum
two = integer (pos 2)

-- [{{2},..},{{1},..},{{2},..}]
each_once : named_by 1 (clause (literal two ∷ []) ∷ clause (literal one ∷ []) ∷ clause (literal two ∷ []) ∷ []) ≡ Some (two ∷ one ∷ [])
unfolding datum_cmp
each_once = refl

-- no clause, no key
empty : named_by 1 [] ≡ Some []
empty = refl

-- {'$0',{[1]}} at 2
inside : named_by 2 (clause (variable 0 ∷ tuple_of (patterns_of (cell_of (literal one) (literal nil) ∷ [])) ∷ []) ∷ []) ≡ Some (tuple (item (cons one nil) no_items) ∷ [])
inside = refl

a_variable : named_by 1 (clause (variable 0 ∷ literal one ∷ []) ∷ []) ≡ None
a_variable = refl

-- a variable, '_' or a map in the key
not_free : named_by 1 (clause (cell_of (literal one) (variable 0) ∷ []) ∷ []) ≡ None
not_free = refl

with_anything : named_by 1 (clause (tuple_of (patterns_of (anything ∷ [])) ∷ []) ∷ []) ≡ None
with_anything = refl

with_map : named_by 1 (clause (tuple_of (patterns_of (map_of no_fields ∷ [])) ∷ []) ∷ []) ≡ None
with_map = refl

-- a keypos past a head, and a head that is no tuple, after one that names a key
too_few : named_by 2 (clause (literal one ∷ literal two ∷ []) ∷ clause (literal one ∷ []) ∷ []) ≡ None
too_few = refl

no_tuple : named_by 1 (clause (literal one ∷ []) ∷ record { head = anything; conditions = []; body = [] } ∷ []) ≡ None
no_tuple = refl

-- there is no element 0
no_position : named_by 0 (clause (literal one ∷ []) ∷ []) ≡ None
no_position = refl
