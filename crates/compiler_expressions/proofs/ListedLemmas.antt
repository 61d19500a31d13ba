-- Ascending keys.
use Rattle.std.proofs.Common.{◌≡◌, true, List, [], ◌∷◌, refl, sym, ◌∙◌, ap, Some}
use Rattle.std.specs.List.{zip}
use Rattle.std.specs.Option.{option_map}
use Rattle.term_core.specs.Datum.{Datum, Entries, cells, entries_of, entry_keys, entry_values, proper_elements}
use Rattle.term_core.specs.Datum.Datum.{nil, map as table}
use Rattle.term_core.specs.Datum.Entries.{no_entries, entry}
use Rattle.term_core.specs.Limits.{within_limits}
use Rattle.term_core.specs.MapPairs.{AreRising, are_apart, keys_of}
use Rattle.term_build.proofs.ByKeyLemmas.{by_key-rising, are_apart-from_AreApart}
use Rattle.term_core.proofs.MapLemmas.{apart_from_rising}
use Rattle.mcode.specs.Machine.{map_keys, map_made}
use Rattle.mspec_syntax.specs.Keys.{AreKeysRising}

proper_cells : (ks : List Datum) → proper_elements (cells ks nil) ≡ Some ks
proper_cells [] = refl
proper_cells (k ∷ ks) = ap (option_map (λ ds. k ∷ ds)) (proper_cells ks)

-- the keys and values of a map, paired again, are the map's entries
zipped : (es : Entries) → entries_of (zip (entry_keys es) (entry_values es)) ≡ es
zipped no_entries = refl
zipped (entry k v es) = ap (entry k v) (zipped es)

rising_zip : (ks vs : List Datum) → AreKeysRising ks → AreRising (entries_of (zip ks vs))
rising_zip [] vs h = tt
rising_zip (k ∷ ks) [] h = tt
rising_zip (k ∷ []) (v ∷ vs) h = (tt, tt)
rising_zip (k ∷ l ∷ ks) (v ∷ []) h = (tt, tt)
rising_zip (k ∷ l ∷ ks) (v ∷ w ∷ vs) h = (h.0, rising_zip (l ∷ ks) (w ∷ vs) h.1)

keys_zip : (ks : List Datum) → keys_of (zip ks ks) ≡ ks
keys_zip [] = refl
keys_zip (k ∷ ks) = ap (λ l. k ∷ l) (keys_zip ks)

rising_apart : (ks : List Datum) → AreKeysRising ks → are_apart ks ≡ true
rising_apart ks h =
    let pairs = are_apart-from_AreApart (keys_of (zip ks ks)) (apart_from_rising (zip ks ks) (rising_zip ks ks h)) in
    sym (ap are_apart (keys_zip ks)) ∙ pairs

-- a list of ascending keys has these keys
pub keys_listed : (ks : List Datum) → AreKeysRising ks → map_keys (cells ks nil) ≡ Some ks
keys_listed ks h = rw (proper_cells ks) (rw (rising_apart ks h) refl)

-- a map can be made of ascending keys
pub map_is_made : (es : Entries) → AreKeysRising (entry_keys es) → map_made (entry_keys es) (entry_values es) ≡ within_limits (table es)
map_is_made es h =
    ap (λ ps. within_limits (table (entries_of ps))) (by_key-rising (zip (entry_keys es) (entry_values es)) (rising_zip (entry_keys es) (entry_values es) h))
    ∙ ap (λ x. within_limits (table x)) (zipped es)
