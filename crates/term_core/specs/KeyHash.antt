-- The hash of a key: a number modulo 2 ^ 64.
use Rattle.std.specs.Prelude.{ℕ, ◌+◌, ◌*◌, ◌%◌, ◌^◌, List, [], ◌∷◌}
use Rattle.std.specs.Int.{w64, cast_unsigned}
use Rattle.term_core.specs.Datum.{Datum, Items, Entries}
use Rattle.term_core.specs.Datum.Datum.{integer, atom, tuple, map, nil, cons, binary}
use Rattle.term_core.specs.Datum.Items.{no_items, item}
use Rattle.term_core.specs.Datum.Entries.{no_entries, entry}

-- a hash so far with one part mixed in
abbrev pub mix : ℕ → ℕ → ℕ
mix hash part = (hash * 1_099_511_628_211 + part) % 2 ^ 64

-- numbers mixed in, from the left
abbrev pub mix_all : ℕ → List ℕ → ℕ
mix_all hash [] = hash
mix_all hash (x ∷ xs) = mix_all (mix hash x) xs

unfoldable mutual
  -- The hash of a term. An integer gives its value modulo 2 ^ 64, [] gives 4. All others start from the number of their
  -- kind and mix in their content from the left: characters, elements, keys and their values, elements and the tail,
  -- bytes.
  pub key_hash : Datum → ℕ
  key_hash (integer z) = cast_unsigned w64 z
  key_hash (atom cs) = mix_all 1 cs
  key_hash (tuple ds) = mix_items 2 ds
  key_hash (map es) = mix_entries 3 es
  key_hash nil = 4
  key_hash (cons head tail) = mix_cells (mix 5 (key_hash head)) tail
  key_hash (binary bs) = mix_all 6 bs

  pub mix_items : ℕ → Items → ℕ
  mix_items hash no_items = hash
  mix_items hash (item d ds) = mix_items (mix hash (key_hash d)) ds

  pub mix_entries : ℕ → Entries → ℕ
  mix_entries hash no_entries = hash
  mix_entries hash (entry k v es) = mix_entries (mix (mix hash (key_hash k)) (key_hash v)) es

  -- a hash with the remaining elements of a list and the tail at their end mixed in
  pub mix_cells : ℕ → Datum → ℕ
  mix_cells hash (cons head tail) = mix_cells (mix hash (key_hash head)) tail
  mix_cells hash (integer z) = mix hash (cast_unsigned w64 z)
  mix_cells hash (atom cs) = mix hash (mix_all 1 cs)
  mix_cells hash (tuple ds) = mix hash (mix_items 2 ds)
  mix_cells hash (map es) = mix hash (mix_entries 3 es)
  mix_cells hash nil = mix hash 4
  mix_cells hash (binary bs) = mix hash (mix_all 6 bs)
