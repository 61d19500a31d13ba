-- What slots list.
use Rattle.std.specs.Prelude.{ℕ, ◌≡◌, ◌<◌, ◌≤◌, ◌+◌, ◌*◌, ◌%◌, ◌==◌, ◌&&◌, not, Bool, false, if◌then◌else◌, Some, List, [], ◌∷◌, ◌++◌, All, ⊤, find, filter, get_or, length, nat_le}
use Rattle.std.specs.List.{AllWithin}
use Rattle.slab.specs.Slab.{Slab}
use Rattle.part_core.specs.declared.settings.Settings.{Settings}
use Rattle.part_core.specs.Rows.{Row}
use Rattle.part_rows.specs.declared.place.Place.{Place}
use Rattle.part_hash.specs.Places.{Kept, Standing, is_standing, places_in, row_of, standing}

-- the places of a slot, in the order in which their rows were made; how many of them are counted as gone; and how many
-- at the front are known to be gone
abbrev pub Listing : Type 0
Listing = List Place × ℕ × ℕ

abbrev pub no_listing : Listing
no_listing = ([], 0, 0)

abbrev pub listing_at : List Listing → ℕ → Listing
listing_at slots j = get_or slots j no_listing

-- one more is counted as gone
abbrev pub with_gone : Listing → Listing
with_gone v = (v.0, v.1 + 1, v.2)

-- no row is at the place
abbrev pub is_gone : Slab Kept → Place → Bool
is_gone slab p = not (is_standing slab p)

-- the row of each place was created before those of the places after it
abbrev pub AreRising : List Place → Type 0
AreRising [] = ⊤
AreRising (p ∷ ps) = All (λ q. p.made < q.made) ps × AreRising ps

-- a test that only places of rows created after the first `from` rows pass finds the same place first in both lists
abbrev pub FindsSame : ℕ → List Place → List Place → Type 0
FindsSame from places later =
    (test : Place → Bool) → find (λ p. nat_le from p.made && test p) later ≡ find (λ p. nat_le from p.made && test p) places

-- a slot lists these places, when `made` rows were created: rows are at them and at no other of its places, and no more
-- are counted as gone, or passed at the front, than are gone
pub record IsListed (slab : Slab Kept) (made : ℕ) (v : Listing) (places : List Place) : Type 0 where
  pub there : standing slab v.0 ≡ places
  pub gone : v.1 ≤ length (filter (is_gone slab) v.0)
  pub passed : AllWithin (λ p. is_standing slab p ≡ false) v.0 0 v.2
  pub below : All (λ p. p.made < made) v.0
  pub front : v.2 ≤ length v.0

-- what a slot listed is listed still
pub record Relists (slab : Slab Kept) (old new : Listing) : Type 0 where
  pub listed : (made : ℕ) (places : List Place) → IsListed slab made old places → IsListed slab made new places

-- the slot's places are kept, maybe without places of rows that are gone, and a place is appended
pub record Adds (slab : Slab Kept) (p : Place) (old new : Listing) : Type 0 where
  pub before : Listing
  pub kept : Relists slab old before
  pub is : new ≡ (before.0 ++ p ∷ [], before.1, before.2)

-- each slot lists the places of its rows
abbrev pub AreListed : Settings → Slab Kept → ℕ → List Listing → List Standing → Type 0
AreListed o slab made slots list =
    (j : ℕ) → j < length slots → IsListed slab made (listing_at slots j) (places_in o (length slots) j list)

-- each would, were one more counted as gone in one of them
abbrev pub AreListedWithGone : Settings → Slab Kept → ℕ → List Listing → ℕ → List Standing → Type 0
AreListedWithGone o slab made slots number list =
    (j : ℕ) → j < length slots → IsListed slab made (if number == j then with_gone (listing_at slots j) else listing_at slots j) (places_in o (length slots) j list)

-- a slot among twice as many
abbrev pub half_at : List Listing → ℕ → Listing
half_at slots j =
    (filter (λ p. p.low % (2 * length slots) == j) (listing_at slots (j % length slots)).0, 0, 0)

-- a row was added, which is at a place; at the places of rows that were created before it are the same rows as before
pub record IsAdded (slab new : Slab Kept) (p : Place) (row : Row) : Type 0 where
  pub here : row_of new p ≡ Some row
  pub others : (q : Place) → q.made < p.made → row_of new q ≡ row_of slab q
