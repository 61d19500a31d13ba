-- The term that a view shows.
use Rattle.std.specs.Prelude.{◌<◌, length}
use Rattle.std.specs.Option.{option_copied}
use Rattle.std.specs.Str.{chars}
use Rattle.term_core.specs.Datum.{Datum, items_of, entries_of, cells}
use Rattle.term_core.specs.Datum.Datum.{integer, atom, tuple, map, nil, binary}
use Rattle.term_core.specs.Term.{tail_of, IsTail}
use Rattle.term_core.specs.declared.view.View.{View}
use Rattle.term_core.specs.declared.view.View.TheVariants as view

-- the term that a view was taken of
abbrev pub shown : {A : Type 0} → View A → Datum
shown (view.Integer z) = integer z
shown (view.Atom text) = atom (chars text.now)
shown (view.Tuple ds) = tuple (items_of ds.now)
shown view.Nil = nil
shown (view.List ds tail) = cells ds.now (tail_of (option_copied tail))
shown (view.Map es) = map (entries_of es.now)
shown (view.Binary bs) = binary bs.now

-- What a view guarantees: a list has an element, and its tail is no list.
abbrev pub IsSplit : {A : Type 0} → View A → Type 0
IsSplit (view.Integer z) = Unit {0}
IsSplit (view.Atom text) = Unit {0}
IsSplit (view.Tuple ds) = Unit {0}
IsSplit view.Nil = Unit {0}
IsSplit (view.List ds tail) = (0 < length ds.now) × IsTail (option_copied tail)
IsSplit (view.Map es) = Unit {0}
IsSplit (view.Binary bs) = Unit {0}
