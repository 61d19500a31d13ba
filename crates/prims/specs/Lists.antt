-- Functions of lists (Erlang Reference Manual, module erlang: hd, tl, length).
use Rattle.std.specs.Prelude.{ℕ, suc, ℤ, pos, Option, Some, None}
use Rattle.std.specs.Option.{option_map, option_and_then}
use Rattle.term_core.specs.Datum.{Datum}
use Rattle.term_core.specs.Datum.Datum.{nil, cons}
use Rattle.prims.specs.Fitting.{fitting}

-- hd: the first element of a list
abbrev pub head_of : Datum → Option Datum
head_of (cons head tail) = Some head
head_of d = None

-- tl: what follows the first element of a list
abbrev pub tail_behind : Datum → Option Datum
tail_behind (cons head tail) = Some tail
tail_behind d = None

-- the number of elements of a proper list, None for any other term
abbrev pub element_count : Datum → Option ℕ
element_count nil = Some 0
element_count (cons head tail) = option_map suc (element_count tail)
element_count d = None

-- length: the number of elements of a proper list, if it is within 64 bits, as it is for each list within the limits of
-- terms
abbrev pub length_of : Datum → Option ℤ
length_of d = option_and_then (λ n. fitting (pos n)) (element_count d)
