-- What is spelled is within the limits of terms, so that making it fails only if memory runs out.
use Rattle.std.proofs.Common.{◌≡◌, ℕ, zero, suc, max, ◌≤◌, ◌<◌, List, [], ◌∷◌, ◌++◌, length, get_or, refl, ap, ◌∙◌, arith}
use Rattle.std.proofs.Common.{map as each}
use Rattle.std.specs.List.{All, AllByRecursion}
use Rattle.std.proofs.lemmas.List.Elements.{All-nil, All-cons, All-tail}
use Rattle.std.specs.List.Sorted.{IsStrictlySortedBy}
use Rattle.std.specs.Map.{keys_of}
use Rattle.std.specs.declared.cmp.Ordering.TheVariants.{Less, Equal}
use Rattle.std.proofs.lemmas.List.{length-append, length-map}
use Rattle.std.proofs.lemmas.List.Sorted.{All-permutation, length_permutation}
use Rattle.term_core.specs.Datum.{Datum, items_of, entries_of, cells, cell_count, item_count, entry_count}
use Rattle.term_core.specs.Datum.Datum.{integer, atom, tuple, map, nil, cons, binary}
use Rattle.term_core.specs.Limits.{depth, items_depth, entries_depth, tail_depth}
use Rattle.term_core.specs.Order.{datum_cmp}
use Rattle.term_core.specs.OrderLaws.{datum_cmp-same}
use Rattle.term_core.specs.Fault.{IsFault, IsTooLong}
use Rattle.term_core.specs.MapPairs.{HasTwice, IsMapFault}
use Rattle.term_core.specs.declared.fault.Fault.{Fault}
use Rattle.term_core.specs.declared.fault.Fault.TheVariants as faults
use Rattle.term_core.specs.declared.TheConstants.{MAX_CHARACTERS, MAX_TUPLE, MAX_MAP, MAX_LIST, MAX_BINARY, MAX_DEPTH}
use Rattle.term_text.specs.Text.{Spelled, Elements, Pair, Pairs, code_point}
use Rattle.term_text.specs.Text.Spelled.{an_integer, a_word, a_quoted_atom, an_empty_string, a_string, an_empty_tuple, a_tuple, an_empty_list, a_list, a_list_with_tail, an_empty_map, a_map, an_empty_binary, a_binary}
use Rattle.term_text.specs.Text.Elements.{last, more}
use Rattle.term_text.specs.Text.Pair.{arrow}
use Rattle.term_text.specs.Text.Pairs.{last_pair, more_pairs}
use Rattle.term_text.specs.Reading.{IsWithin, AreElements}

pub not_more : (a b : ℕ) → a ≤ b → b < a → ⊥
not_more a b h k = omega arith

-- ---- depth

abbrev IsPairShallow : ℕ → Datum × Datum → Type 0
IsPairShallow n e = max (depth e.0) (depth e.1) ≤ n

pairs_depth : (n : ℕ) (es : List (Datum × Datum)) → All (IsPairShallow n) es → entries_depth (entries_of es) ≤ n
pairs_depth n [] h = omega arith
pairs_depth n (e ∷ es) h = let one : IsPairShallow n e = h 0 e (omega arith) in omega (arith, pairs_depth n es (All-tail (IsPairShallow n) e es h))

depth-tail_depth : (d : Datum) → depth d ≤ suc (tail_depth d)
depth-tail_depth (integer z) = omega arith
depth-tail_depth (atom cs) = omega arith
depth-tail_depth (tuple ds) = omega arith
depth-tail_depth (map es) = omega arith
depth-tail_depth nil = omega arith
depth-tail_depth (cons head tail) = omega arith
depth-tail_depth (binary bs) = omega arith

pub tail_depth-le : (d : Datum) → tail_depth d ≤ depth d
tail_depth-le (integer z) = omega arith
tail_depth-le (atom cs) = omega arith
tail_depth-le (tuple ds) = omega arith
tail_depth-le (map es) = omega arith
tail_depth-le nil = omega arith
tail_depth-le (cons head tail) = omega arith
tail_depth-le (binary bs) = omega arith

tail_depth-cells : (ds : List Datum) (tail : Datum) → tail_depth (cells ds tail) ≡ max (items_depth (items_of ds)) (tail_depth tail)
tail_depth-cells [] tail = omega arith
tail_depth-cells (d ∷ ds) tail = let again = tail_depth-cells ds tail in omega arith

pub depth-cells : (n : ℕ) (ds : List Datum) (tail : Datum) → items_depth (items_of ds) ≤ n → tail_depth tail ≤ n → depth (cells ds tail) ≤ suc n
depth-cells n ds tail h k = let deepest = tail_depth-cells ds tail in omega (arith, depth-tail_depth (cells ds tail))

pub codes_depth : (cs : List ℕ) → items_depth (items_of (each code_point cs)) ≤ 1
codes_depth [] = omega arith
codes_depth (c ∷ cs) = omega (arith, codes_depth cs)

pub append_depth : (n : ℕ) (ds es : List Datum) → items_depth (items_of ds) ≤ n → items_depth (items_of es) ≤ n → items_depth (items_of (ds ++ es)) ≤ n
append_depth n [] es h k = k
append_depth n (d ∷ ds) es h k = let again = append_depth n ds es (omega arith) k in omega arith

some_level : {n : ℕ} {text rest : List ℕ} {d : Datum} → Spelled n text d rest → 0 < n
some_level (an_integer i) = omega arith
some_level (a_word h r l) = omega arith
some_level (a_quoted_atom q l) = omega arith
some_level an_empty_string = omega arith
some_level (a_string q l) = omega arith
some_level (an_empty_tuple g) = omega arith
some_level (a_tuple g es l) = omega arith
some_level (an_empty_list g) = omega arith
some_level (a_list g es l) = omega arith
some_level (a_list_with_tail g es h s k l) = omega arith
some_level (an_empty_map g) = omega arith
some_level (a_map g ps l p r) = omega arith
some_level (an_empty_binary g) = omega arith
some_level (a_binary g ss l) = omega arith

one_level : {n : ℕ} {text rest : List ℕ} {ds : List Datum} → Elements n text ds rest → 0 < n
one_level (last s g) = some_level s
one_level (more s g h es) = some_level s

mutual
  pub spelled_depth : {n : ℕ} {text rest : List ℕ} {d : Datum} → Spelled n text d rest → depth d ≤ n
  spelled_depth (an_integer i) = omega arith
  spelled_depth (a_word h r l) = omega arith
  spelled_depth (a_quoted_atom q l) = omega arith
  spelled_depth an_empty_string = omega arith
  spelled_depth (a_string {n} {cs} q l) = depth-cells (suc n) (each code_point cs) nil (let one = codes_depth cs in omega arith) (omega arith)
  spelled_depth (an_empty_tuple g) = omega arith
  spelled_depth (a_tuple g es l) = omega (arith, elements_depth es)
  spelled_depth (an_empty_list g) = omega arith
  spelled_depth (a_list {n} {ds} g es l) = depth-cells n ds nil (elements_depth es) (one_level es)
  spelled_depth (a_list_with_tail {n} {ds} {d} g es h s k l) = depth-cells n ds d (elements_depth es) (let deep = spelled_depth s in omega (arith, tail_depth-le d))
  spelled_depth (an_empty_map g) = omega arith
  spelled_depth (a_map {n} {es} {ordered} g ps l p r) = let all = pairs_depth n ordered (All-permutation (IsPairShallow n) es ordered p (pairs_shallow ps)) in omega arith
  spelled_depth (an_empty_binary g) = omega arith
  spelled_depth (a_binary g ss l) = omega arith

  pub elements_depth : {n : ℕ} {text rest : List ℕ} {ds : List Datum} → Elements n text ds rest → items_depth (items_of ds) ≤ n
  elements_depth (last s g) = omega (arith, spelled_depth s)
  elements_depth (more s g h es) = omega (arith, spelled_depth s, elements_depth es)

  pair_shallow : {n : ℕ} {text rest : List ℕ} {k v : Datum} → Pair n text k v rest → IsPairShallow n (k, v)
  pair_shallow (arrow s g h t) = omega (arith, spelled_depth s, spelled_depth t)

  pairs_shallow : {n : ℕ} {text rest : List ℕ} {es : List (Datum × Datum)} → Pairs n text es rest → All (IsPairShallow n) es
  pairs_shallow (last_pair {n} {key} {value} p g) = All-cons (IsPairShallow n) (key, value) [] (pair_shallow p) (All-nil (IsPairShallow n))
  pairs_shallow (more_pairs {n} {key} {value} {es} p g h ps) = All-cons (IsPairShallow n) (key, value) es (pair_shallow p) (pairs_shallow ps)

-- ---- length

item_count-items_of : (ds : List Datum) → item_count (items_of ds) ≡ length ds
item_count-items_of [] = refl
item_count-items_of (d ∷ ds) = ap suc (item_count-items_of ds)

entry_count-entries_of : (es : List (Datum × Datum)) → entry_count (entries_of es) ≡ length es
entry_count-entries_of [] = refl
entry_count-entries_of (e ∷ es) = ap suc (entry_count-entries_of es)

short_tuple : (ds : List Datum) → length ds ≤ MAX_TUPLE → ¬ IsTooLong (tuple (items_of ds))
short_tuple ds l long = not_more (item_count (items_of ds)) MAX_TUPLE (rw (item_count-items_of ds) l) long

short_map : (es : List (Datum × Datum)) → length es ≤ MAX_MAP → ¬ IsTooLong (map (entries_of es))
short_map es l long = not_more (entry_count (entries_of es)) MAX_MAP (rw (entry_count-entries_of es) l) long

pub short_cells : (ds : List Datum) (tail : Datum) → cell_count (cells ds tail) ≤ MAX_LIST → ¬ IsTooLong tail → ¬ IsTooLong (cells ds tail)
short_cells [] tail l h = h
short_cells (d ∷ ds) tail l h = λ long. not_more (cell_count (cells (d ∷ ds) tail)) MAX_LIST l long

pub cells_count : (ds : List Datum) → cell_count (cells ds nil) ≡ length ds
cells_count [] = refl
cells_count (d ∷ ds) = ap suc (cells_count ds)

pub at_most : (a b c : ℕ) → a ≡ b → b ≤ c → a ≤ c
at_most a b c e h = omega arith

pub spelled_short : {n : ℕ} {text rest : List ℕ} {d : Datum} → Spelled n text d rest → ¬ IsTooLong d
spelled_short (an_integer i) = λ long. long
spelled_short (a_word {cs} h r l) = not_more (length cs) MAX_CHARACTERS l
spelled_short (a_quoted_atom {cs} q l) = not_more (length cs) MAX_CHARACTERS l
spelled_short an_empty_string = λ long. long
spelled_short (a_string {cs} q l) = short_cells (each code_point cs) nil (at_most (cell_count (cells (each code_point cs) nil)) (length cs) MAX_LIST (cells_count (each code_point cs) ∙ length-map cs code_point) l) (λ long. long)
spelled_short (an_empty_tuple g) = λ long. absurd (omega arith)
spelled_short (a_tuple {ds} g es l) = short_tuple ds l
spelled_short (an_empty_list g) = λ long. long
spelled_short (a_list {ds} g es l) = short_cells ds nil (at_most (cell_count (cells ds nil)) (length ds) MAX_LIST (cells_count ds) l) (λ long. long)
spelled_short (a_list_with_tail {ds} {d} g es h s k l) = short_cells ds d l (spelled_short s)
spelled_short (an_empty_map g) = λ long. absurd (omega arith)
spelled_short (a_map {es} {ordered} g ps l p r) = short_map ordered (at_most (length ordered) (length es) MAX_MAP (length_permutation es ordered p) l)
spelled_short (an_empty_binary g) = λ long. absurd (omega arith)
spelled_short (a_binary {bytes} g ss l) = not_more (length bytes) MAX_BINARY l

pub spelled_within : {n : ℕ} {text rest : List ℕ} {d : Datum} → n ≤ MAX_DEPTH → Spelled n text d rest → IsWithin d
spelled_within {n} {d} l s = (let deep = spelled_depth s in omega arith, spelled_short s)

-- ---- how making a term within its limits can fail

pub memory_alone : (fault : Fault) (d : Datum) → IsWithin d → IsFault fault d → fault ≡ faults.Memory
memory_alone faults.Memory d w h = refl
memory_alone faults.TooDeep d w h = absurd (not_more (depth d) MAX_DEPTH w.0 h)
memory_alone faults.TooLong d w h = absurd (w.1 h.1)
memory_alone faults.DuplicateKey d w h = absurd h

below_differ : (k : Datum) (es : List (Datum × Datum)) (i : ℕ) (d : Datum × Datum) → AllByRecursion (λ l. datum_cmp k l ≡ Less) (keys_of es) → i < length es → k ≡ (get_or es i d).0 → ⊥
below_differ k [] i d h l e = omega arith
below_differ k (x ∷ es) zero d h l e = let less : datum_cmp k x.0 ≡ Less = h.0 in let same : datum_cmp k x.0 ≡ Equal = datum_cmp-same e in absurd cc
below_differ k (x ∷ es) (suc i) d h l e = below_differ k es i d h.1 (omega arith) e

differ : (es : List (Datum × Datum)) (i j : ℕ) (d : Datum × Datum) → IsStrictlySortedBy datum_cmp (keys_of es) → i < j → j < length es → (get_or es i d).0 ≡ (get_or es j d).0 → ⊥
unfolding IsStrictlySortedBy
differ [] i j d h k l e = omega arith
differ (x ∷ es) i zero d h k l e = omega arith
differ (x ∷ es) zero (suc j) d h k l e = below_differ x.0 es j d h.0 (omega arith) e
differ (x ∷ es) (suc i) (suc j) d h k l e = differ es i j d h.1 (omega arith) (omega arith) e

none_twice : (es : List (Datum × Datum)) → IsStrictlySortedBy datum_cmp (keys_of es) → ¬ HasTwice es
none_twice es h t = differ es t.first t.second (nil, nil) h t.order t.within (t.same (nil, nil))

pub memory_alone_map : (fault : Fault) (es : List (Datum × Datum)) → IsWithin (map (entries_of es)) → IsStrictlySortedBy datum_cmp (keys_of es) → IsMapFault fault es → fault ≡ faults.Memory
memory_alone_map faults.Memory es w o h = refl
memory_alone_map faults.TooDeep es w o h = memory_alone faults.TooDeep (map (entries_of es)) w h
memory_alone_map faults.TooLong es w o h = memory_alone faults.TooLong (map (entries_of es)) w h
memory_alone_map faults.DuplicateKey es w o h = absurd (none_twice es o h.2)

-- ---- elements as they are read

pub one_more_element : (ds : List Datum) (d : Datum) → length ds < MAX_LIST → items_depth (items_of ds) < MAX_DEPTH → depth d < MAX_DEPTH → AreElements (ds ++ d ∷ [])
one_more_element ds d few shallow deep = record {
  few = omega (arith, length-append ds (d ∷ []));
  shallow = let all = append_depth 254 ds (d ∷ []) (omega arith) (omega arith) in omega arith;
}

pub list_within : (ds : List Datum) → AreElements ds → IsWithin (cells ds nil)
list_within ds h =
    (let shallow = h.shallow in let deep = depth-cells 254 ds nil (omega arith) (omega arith) in omega arith, short_cells ds nil (at_most (cell_count (cells ds nil)) (length ds) MAX_LIST (cells_count ds) h.few) (λ long. long))
