-- The term that a view shows, with a list given by its first cell.
use Rattle.std.specs.Prelude.{get_or, drop}
use Rattle.std.specs.Option.{option_copied}
use Rattle.std.specs.Str.{chars}
use Rattle.term_core.specs.Datum.{Datum, items_of, entries_of, cells}
use Rattle.term_core.specs.Datum.Datum.{integer, atom, tuple, map, nil, cons, binary}
use Rattle.term_core.specs.Term.{tail_of}
use Rattle.term_core.specs.declared.view.View.{View}
use Rattle.term_core.specs.declared.view.View.TheVariants as view

-- the term that a view shows: for a list that is not empty, its first element and the list of the others
abbrev pub seen : {A : Type 0} → View A → Datum
seen (view.Integer z) = integer z
seen (view.Atom text) = atom (chars text.now)
seen (view.Tuple ds) = tuple (items_of ds.now)
seen view.Nil = nil
seen (view.List ds tail) = cons (get_or ds.now 0 nil) (cells (drop 1 ds.now) (tail_of (option_copied tail)))
seen (view.Map es) = map (entries_of es.now)
seen (view.Binary bs) = binary bs.now
