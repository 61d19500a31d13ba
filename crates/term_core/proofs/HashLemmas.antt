-- Hashing rows of terms one place at a time.
use Rattle.std.proofs.Common.{◌≡◌, ℕ, ◌+◌, ◌<◌, Option, None, Some, List, [], ◌∷◌, length, refl, arith}
use Rattle.term_core.specs.Datum.{Datum, items_of, cells}
use Rattle.term_core.specs.Datum.Datum.{integer, atom, tuple, map, nil, cons, binary}
use Rattle.term_core.specs.KeyHash.{mix, key_hash, mix_items, mix_cells}
use Rattle.term_core.specs.Term.{tail_of, IsTail}

mix_cells-end : (hash : ℕ) (t : Option Datum) → IsTail t → mix_cells hash (tail_of t) ≡ mix hash (key_hash (tail_of t))
unfolding key_hash
mix_cells-end hash None h = refl
mix_cells-end hash (Some (integer z)) h = refl
mix_cells-end hash (Some (atom cs)) h = refl
mix_cells-end hash (Some (tuple ds)) h = refl
mix_cells-end hash (Some (map es)) h = refl
mix_cells-end hash (Some nil) h = refl
mix_cells-end hash (Some (cons head tail)) h = absurd h
mix_cells-end hash (Some (binary bs)) h = refl

mix_cells-cells : (hash : ℕ) (ds : List Datum) (t : Option Datum) → IsTail t → mix_cells hash (cells ds (tail_of t)) ≡ mix (mix_items hash (items_of ds)) (key_hash (tail_of t))
unfolding key_hash
mix_cells-cells hash [] t h = mix_cells-end hash t h
mix_cells-cells hash (d ∷ ds) t h = mix_cells-cells (mix hash (key_hash d)) ds t h

-- the hash of a list is its elements mixed in, and then its tail
pub key_hash-cells : (ds : List Datum) (t : Option Datum) → 0 < length ds → IsTail t → key_hash (cells ds (tail_of t)) ≡ mix (mix_items 5 (items_of ds)) (key_hash (tail_of t))
unfolding key_hash
key_hash-cells [] t some h = absurd (omega arith)
key_hash-cells (d ∷ ds) t some h = mix_cells-cells (mix 5 (key_hash d)) ds t h
