-- How large terms may be, in numbers.
use Rattle.std.specs.Prelude.{ℕ}

-- the largest depth of a term, in levels
abbrev pub depth_limit : ℕ
depth_limit = 255

-- the largest number of characters of an atom
abbrev pub atom_limit : ℕ
atom_limit = 255

-- the largest number of elements of a tuple
abbrev pub tuple_limit : ℕ
tuple_limit = 65535

-- the largest number of pairs of a map
abbrev pub map_limit : ℕ
map_limit = 65535

-- the largest number of cells of a list, counting those of a tail that is a list
abbrev pub list_limit : ℕ
list_limit = 1048576

-- the largest number of bytes of a binary
abbrev pub binary_limit : ℕ
binary_limit = 1048576
