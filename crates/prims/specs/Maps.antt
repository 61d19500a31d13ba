-- Functions of maps (Erlang Reference Manual, module erlang: is_map_key, map_get, map_size).
use Rattle.std.specs.Prelude.{ℤ, pos, Bool, if◌then◌else◌, Option, Some, None, is_some}
use Rattle.term_core.specs.Datum.{Datum, Entries, entry_count}
use Rattle.term_core.specs.Datum.Datum.{map}
use Rattle.term_core.specs.Datum.Entries.{no_entries, entry}
use Rattle.term_operand.specs.Order.{is_same}

-- the value of a key, None if the map has no such key
abbrev pub value_at : Datum → Entries → Option Datum
value_at key no_entries = None
value_at key (entry k v es) = if is_same k key then Some v else value_at key es

-- is_map_key: whether the map has the key, None if there is no map
abbrev pub is_map_key_of : Datum → Datum → Option Bool
is_map_key_of key (map es) = Some (is_some (value_at key es))
is_map_key_of key d = None

-- map_get: the value of the key, None if there is no map or it has no such key
abbrev pub map_get_of : Datum → Datum → Option Datum
map_get_of key (map es) = value_at key es
map_get_of key d = None

-- map_size: the number of pairs of a map, None for any other term
abbrev pub map_size_of : Datum → Option ℤ
map_size_of (map es) = Some (pos (entry_count es))
map_size_of d = None
