-- In which slot a key is, and which rows are at places.
use Rattle.std.specs.Prelude.{ℕ, ◌/◌, ◌%◌, ◌^◌, ◌==◌, Bool, false, if◌then◌else◌, Option, Some, None, is_some, filter, filter_map, map, List}
use Rattle.std.specs.Option.{option_map, option_map_or}
use Rattle.slab.specs.Slab.{Slab, get}
use Rattle.term_core.specs.Datum.{Datum}
use Rattle.term_core.specs.KeyHash.{key_hash}
use Rattle.part_core.specs.declared.settings.Settings.{Settings}
use Rattle.part_core.specs.Rows.{Row}
use Rattle.part_rows.specs.declared.place.Place.{Place}

-- a row with its place
abbrev pub Standing : Type 0
Standing = Place × Row

-- a row, and how many were made before it
abbrev pub Kept : Type 0
Kept = Row × ℕ

-- by what the hashes of a part's keys are divided
abbrev pub spread : Settings → ℕ
spread o = if o.parts == 0 then 1 else o.parts

-- the slot of a key among `count` slots
abbrev pub slot_at : Settings → ℕ → Datum → ℕ
slot_at o count k = (key_hash k / spread o) % count

-- the part of a key's hash that says in which slot it stands, however many there are
abbrev pub low_of : Settings → Datum → ℕ
low_of o k = (key_hash k / spread o) % 2 ^ 32

-- the places of the rows that pass a test of keys
abbrev pub places_where : (Datum → Bool) → List Standing → List Place
places_where q list = map (λ e. e.0) (filter (λ e. q e.1.0) list)

-- the places of the rows of a slot
abbrev pub places_in : Settings → ℕ → ℕ → List Standing → List Place
places_in o count j list = places_where (λ k. slot_at o count k == j) list

-- a row, if n rows were created before it
abbrev pub if_made : ℕ → Option Kept → Option Row
if_made n None = None
if_made n (Some s) = if s.1 == n then Some s.0 else None

-- the row at a key of the slab
abbrev pub row_in : Slab Kept → ℕ → Option Row
row_in slab at = option_map (λ s. s.0) (get slab at)

-- the row that is at a place: that at its key of the slab, unless it was created later
abbrev pub row_of : Slab Kept → Place → Option Row
row_of slab p = if_made p.made (get slab p.at)

-- a row is at a place
abbrev pub is_standing : Slab Kept → Place → Bool
is_standing slab p = is_some (row_of slab p)

-- the places at which rows stand
abbrev pub standing : Slab Kept → List Place → List Place
standing slab places = filter (is_standing slab) places

-- the rows that are at places
abbrev pub rows_of : Slab Kept → List Place → List Row
rows_of slab places = filter_map (row_of slab) places

-- the row at a place has a key that passes
abbrev pub passes : (Datum → Bool) → Slab Kept → Place → Bool
passes q slab p = option_map_or (λ r. q r.0) (row_of slab p) false
