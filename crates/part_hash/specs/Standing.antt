-- The rows that are in a slab, found by an index and listed in slots.
use Rattle.std.specs.Prelude.{ℕ, ◌≡◌, ◌<◌, ◌||◌, ◌==◌, ⊤, Bool, true, All, Some, List, [], ◌∷◌, length}
use Rattle.std.specs.List.{IsDistinct, list_any}
use Rattle.std.specs.Map.{keys_of, values_of}
use Rattle.slab.specs.Slab.{Slab, get, slab_len}
use Rattle.term_operand.specs.Order.{is_same}
use Rattle.hash_index.specs.declared.cell.Cell.{Cell}
use Rattle.hash_index.specs.Index.{Has}
use Rattle.part_core.specs.declared.settings.Settings.{Settings}
use Rattle.part_core.specs.Rows.{Row, has_row}
use Rattle.part_hash.specs.declared.store.Store.{Store}
use Rattle.part_hash.specs.Mixed.{mixed}
use Rattle.part_hash.specs.Places.{Kept, Standing, low_of}
use Rattle.part_hash.specs.Slots.{AreListed}
use Rattle.part_hash.specs.Swept.{is_dead_at}

-- each row was created before those after it
abbrev pub IsRising : List Standing → Type 0
IsRising [] = ⊤
IsRising (e ∷ es) = All (λ f. e.0.made < f.0.made) es × IsRising es

-- each row is at its place
abbrev pub AreAt : Slab Kept → List Standing → Type 0
AreAt slab list = All (λ e. get slab e.0.at ≡ Some (e.1, e.0.made)) list

-- each place has the low part of its key's hash
abbrev pub AreLow : Settings → List Standing → Type 0
AreLow o list = All (λ e. e.0.low ≡ low_of o e.1.0) list

-- rows at their places, in the order in which they were created, when `made` rows were created in all
pub record ArePlaced (o : Settings) (slab : Slab Kept) (made : ℕ) (list : List Standing) : Type 0 where
  pub stands : AreAt slab list
  pub rising : IsRising list
  pub below : All (λ e. e.0.made < made) list
  pub low : AreLow o list

-- The rows of a slab are these, no two of one key, and the index has each under its key's mixed hash. (What else it has
-- no row of the slab: that is known of each store.)
pub record AreFound (slab : Slab Kept) (index : List Cell × ℕ) (seed : ℕ) (rows : List Row) : Type 0 where
  pub those : (at : ℕ) (s : Kept) → get slab at ≡ Some s → has_row rows s.0.0 ≡ true
  pub once : (i j : ℕ) (s t : Kept) → get slab i ≡ Some s → get slab j ≡ Some t → is_same s.0.0 t.0.0 ≡ true → i ≡ j
  pub known : (at : ℕ) (s : Kept) → get slab at ≡ Some s → Has index (mixed seed s.0.0) at

-- a key of the slab is noted, or it isn't known any more which are
abbrev pub is_noted : Bool → List ℕ → ℕ → Bool
is_noted lost dying at = lost || list_any (λ n. n == at) dying

-- each dead row is noted
abbrev pub AreNoted : Slab Kept → List ℕ → Bool → Type 0
AreNoted slab dying lost = (at : ℕ) → is_dead_at slab at ≡ true → is_noted lost dying at ≡ true

-- these are the rows, in the order in which they were made
pub record Stands {A : Type 0} (o : Settings) (store : Store A) (rows : List Row) : Type 0 where
  pub list : List Standing
  pub are : rows ≡ values_of list
  pub placed : ArePlaced o store.rows store.made list
  pub listed : AreListed o store.rows store.made store.slots.items list
  pub found : AreFound store.rows store.index store.seed rows
  pub apart : IsDistinct is_same (keys_of rows)
  pub count : slab_len store.rows ≡ length rows
  pub noted : AreNoted store.rows store.dying.items store.lost
