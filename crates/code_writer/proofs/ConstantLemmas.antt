-- Terms by their tags: no spelling of a term begins another one, and what is rejected after a tag.
use Rattle.std.specs.Prelude.{FitsSigned}
use Rattle.std.specs.Int.{w64}
use Rattle.std.specs.Str.{encode_utf8_all, chars}
use Rattle.std.specs.List.{flat_map, AllByRecursion}
use Rattle.std.proofs.Common.{◌≡◌, ℕ, ℤ, zero, suc, ◌<◌, ◌≤◌, List, [], ◌∷◌, ◌++◌, length, refl, sym, ap, subst, ◌∙◌, append_assoc, arith, Option, Some, None}
use Rattle.term_core.specs.Datum.{Datum, Items, Entries, items_of, entries_of, cells, item_count, entry_count, cell_count}
use Rattle.term_core.specs.Datum.Datum.{integer, atom, tuple, map, nil, cons, binary}
use Rattle.term_core.specs.Datum.Items.{no_items, item}
use Rattle.term_core.specs.Datum.Entries.{no_entries, entry}
use Rattle.term_core.specs.Limits.{AreScalars, IsTerm, IsSound, AreSound, ArePairsSound, depth, items_depth, entries_depth, tail_depth}
use Rattle.term_core.specs.MapPairs.{AreRising}
use Rattle.term_core.specs.Sizes.{atom_limit, tuple_limit, map_limit, list_limit, binary_limit}
use Rattle.term_core.specs.Term.{tail_of, IsTail}
use Rattle.term_core.proofs.LimitLemmas.{item_count-items_of, entry_count-entries_of, cell_count-cells}
use Rattle.code_writer.specs.Spelling.{u16_bytes, u32_bytes, i64_bytes, text_bytes, constant_bytes, items_bytes, entries_bytes, cells_bytes, pair_bytes}
use Rattle.code_writer.specs.Format.{Begins, counted, such}
use Rattle.code_writer.specs.Formats.{u16_format, i64_format, constant_format, utf8_format, binary_format, tuple_format, pair_format, map_format, list_format, length_format, RisingPairs, IsNoCell}
use Rattle.code_writer.proofs.FormatLemmas.{IsPrefixFree, both_prefix_free, such_prefix_free, counted_prefix_free}
use Rattle.code_writer.proofs.NumberLemmas.{u16_free, i64_free}
use Rattle.code_writer.proofs.InstructionLemmas.{head_is, tail_is}
use Rattle.code_writer.proofs.LeafLemmas.{utf8_free, binary_free, length_free, text_fits, text_IsUtf8, chars_of_text}

-- ---- elements, pairs and cells as lists

abbrev item_list : Items → List Datum
item_list no_items = []
item_list (item d ds) = d ∷ item_list ds

abbrev entry_list : Entries → List (Datum × Datum)
entry_list no_entries = []
entry_list (entry k v es) = (k, v) ∷ entry_list es

abbrev cell_list : Datum → List Datum
cell_list (cons head tail) = head ∷ cell_list tail
cell_list d = []

abbrev end_of : Datum → Datum
end_of (cons head tail) = end_of tail
end_of d = d

items_back : (ds : Items) → items_of (item_list ds) ≡ ds
items_back no_items = refl
items_back (item d ds) = ap (item d) (items_back ds)

entries_back : (es : Entries) → entries_of (entry_list es) ≡ es
entries_back no_entries = refl
entries_back (entry k v es) = ap (entry k v) (entries_back es)

cells_back : (d : Datum) → cells (cell_list d) (end_of d) ≡ d
cells_back (cons head tail) = ap (cons head) (cells_back tail)
cells_back d = refl

items_counted : (ds : Items) → item_count ds ≡ length (item_list ds)
items_counted no_items = refl
items_counted (item d ds) = ap suc (items_counted ds)

entries_counted : (es : Entries) → entry_count es ≡ length (entry_list es)
entries_counted no_entries = refl
entries_counted (entry k v es) = ap suc (entries_counted es)

cells_counted : (d : Datum) → cell_count d ≡ length (cell_list d)
cells_counted (cons head tail) = ap suc (cells_counted tail)
cells_counted d = refl

items_spelled : (ds : Items) → items_bytes ds ≡ flat_map constant_bytes (item_list ds)
items_spelled no_items = refl
items_spelled (item d ds) = ap (λ (t : List ℕ). constant_bytes d ++ t) (items_spelled ds)

entries_spelled : (es : Entries) → entries_bytes es ≡ flat_map pair_bytes (entry_list es)
entries_spelled no_entries = refl
entries_spelled (entry k v es) = ap (λ (t : List ℕ). (constant_bytes k ++ constant_bytes v) ++ t) (entries_spelled es)

cells_spelled : (d : Datum) → cells_bytes d ≡ flat_map constant_bytes (cell_list d) ++ constant_bytes (end_of d)
cells_spelled (cons head tail) = ap (λ (t : List ℕ). constant_bytes head ++ t) (cells_spelled tail) ∙ sym (append_assoc (constant_bytes head) (flat_map constant_bytes (cell_list tail)) (constant_bytes (end_of tail)))
cells_spelled d = refl

-- the bytes of elements are those of the list of them
pub items_bytes-of : (ds : List Datum) → items_bytes (items_of ds) ≡ flat_map constant_bytes ds
items_bytes-of [] = refl
items_bytes-of (d ∷ ds) = ap (λ (t : List ℕ). constant_bytes d ++ t) (items_bytes-of ds)

pub entries_bytes-of : (ps : List (Datum × Datum)) → entries_bytes (entries_of ps) ≡ flat_map pair_bytes ps
entries_bytes-of [] = refl
entries_bytes-of (p ∷ ps) = ap (λ (t : List ℕ). (constant_bytes p.0 ++ constant_bytes p.1) ++ t) (entries_bytes-of ps)

pub cells_bytes-of : (ds : List Datum) (t : Datum) → IsNoCell t → cells_bytes (cells ds t) ≡ flat_map constant_bytes ds ++ constant_bytes t
cells_bytes-of [] (cons head tail) h = absurd h
cells_bytes-of [] t h = refl
cells_bytes-of (d ∷ ds) t h = ap (λ (x : List ℕ). constant_bytes d ++ x) (cells_bytes-of ds t h) ∙ sym (append_assoc (constant_bytes d) (flat_map constant_bytes ds) (constant_bytes t))

-- ---- terms made of lists

pub tuple_bytes : (ds : List Datum) → constant_bytes (tuple (items_of ds)) ≡ 3 ∷ u16_bytes (length ds) ++ flat_map constant_bytes ds
tuple_bytes ds = ap (λ n. 3 ∷ u16_bytes n ++ items_bytes (items_of ds)) (item_count-items_of ds) ∙ ap (λ (t : List ℕ). 3 ∷ u16_bytes (length ds) ++ t) (items_bytes-of ds)

pub map_bytes : (ps : List (Datum × Datum)) → constant_bytes (map (entries_of ps)) ≡ 4 ∷ u16_bytes (length ps) ++ flat_map pair_bytes ps
map_bytes ps = ap (λ n. 4 ∷ u16_bytes n ++ entries_bytes (entries_of ps)) (entry_count-entries_of ps) ∙ ap (λ (t : List ℕ). 4 ∷ u16_bytes (length ps) ++ t) (entries_bytes-of ps)

pub cell_count-ends : (t : Datum) → IsNoCell t → cell_count t ≡ 0
cell_count-ends (cons head tail) no_cell = absurd no_cell
cell_count-ends t no_cell = refl

pub list_bytes : (ds : List Datum) (t : Datum) → 0 < length ds → IsNoCell t → constant_bytes (cells ds t) ≡ 6 ∷ u32_bytes (length ds) ++ (flat_map constant_bytes ds ++ constant_bytes t)
list_bytes [] t some no_cell = absurd (omega arith)
list_bytes (d ∷ ds) t some no_cell =
    ap (λ n. 6 ∷ u32_bytes (suc n) ++ (constant_bytes d ++ cells_bytes (cells ds t))) (cell_count-cells ds t ∙ omega (arith, cell_count-ends t no_cell))
    ∙ ap (λ (x : List ℕ). 6 ∷ u32_bytes (suc (length ds)) ++ x) (ap (λ (x : List ℕ). constant_bytes d ++ x) (cells_bytes-of ds t no_cell) ∙ sym (append_assoc (constant_bytes d) (flat_map constant_bytes ds) (constant_bytes t)))

-- ---- limits of terms made of lists

abbrev FitsIn : ℕ → Datum → Type 0
FitsIn room d = IsSound d × (depth d ≤ room)

items_fit : (room : ℕ) (ds : Items) → AreSound ds → items_depth ds ≤ room → AllByRecursion (FitsIn room) (item_list ds)
items_fit room no_items s deep = tt
items_fit room (item d ds) s deep = ((s.0, omega arith), items_fit room ds s.1 (omega arith))

entries_fit : (room : ℕ) (es : Entries) → ArePairsSound es → entries_depth es ≤ room → AllByRecursion (pair_format room).Fits (entry_list es)
entries_fit room no_entries s deep = tt
entries_fit room (entry k v es) s deep = (((s.0, omega arith), (s.1, omega arith)), entries_fit room es s.3 (omega arith))

entries_rise : (es : Entries) → ArePairsSound es → AreRising es
entries_rise no_entries s = tt
entries_rise (entry k v es) s = (s.2, entries_rise es s.3)

cells_fit : (room : ℕ) (d : Datum) → IsSound d → tail_depth d ≤ room → AllByRecursion (FitsIn room) (cell_list d) × FitsIn room (end_of d)
cells_fit room (cons head tail) s deep = let rest = cells_fit room tail s.2 (omega arith) in (((s.1, omega arith), rest.0), rest.1)
cells_fit room (integer z) s deep = (tt, (s, deep))
cells_fit room d s deep = (tt, (s, deep))

end_no_cell : (d : Datum) → IsNoCell (end_of d)
end_no_cell (cons head tail) = end_no_cell tail
end_no_cell d = tt

pub fit_items : (room : ℕ) (ds : List Datum) → AllByRecursion (FitsIn room) ds → AreSound (items_of ds) × (items_depth (items_of ds) ≤ room)
fit_items room [] h = (tt, omega arith)
fit_items room (d ∷ ds) h = let rest = fit_items room ds h.1 in ((h.0.0, rest.0), omega (arith, h.0.1, rest.1))

pub fit_entries : (room : ℕ) (ps : List (Datum × Datum)) → AllByRecursion (pair_format room).Fits ps → AreRising (entries_of ps) → ArePairsSound (entries_of ps) × (entries_depth (entries_of ps) ≤ room)
fit_entries room [] h up = (tt, omega arith)
fit_entries room (p ∷ ps) h up =
    let rest = fit_entries room ps h.1 up.1 in
    ((h.0.0.0, h.0.1.0, up.0, rest.0), omega (arith, h.0.0.1, h.0.1.1, rest.1))

pub fit_cells : (room : ℕ) (ds : List Datum) (t : Datum) → AllByRecursion (FitsIn room) ds → FitsIn room t → IsNoCell t → length ds ≤ list_limit → IsSound (cells ds t) × (tail_depth (cells ds t) ≤ room)
fit_cells room [] (cons head tail) h k no_cell few = absurd no_cell
fit_cells room [] (integer z) h k no_cell few = k
fit_cells room [] t h k no_cell few = k
fit_cells room (d ∷ ds) t h k no_cell few =
    let rest = fit_cells room ds t h.1 k no_cell (omega arith) in
    ((omega (arith, cell_count-cells ds t, cell_count-ends t no_cell), h.0.0, rest.0), omega (arith, h.0.1, rest.1))

-- ---- a term by its tag

pub data Node : Type 0 where
  of_integer : ℤ → Node
  of_atom : List ℕ → Node
  of_tuple : List Datum → Node
  of_map : List (Datum × Datum) → Node
  of_nil : Node
  of_list : List Datum → Datum → Node
  of_binary : List ℕ → Node

abbrev pub node_of : Datum → Node
node_of (integer z) = of_integer z
node_of (atom cs) = of_atom cs
node_of (tuple ds) = of_tuple (item_list ds)
node_of (map es) = of_map (entry_list es)
node_of nil = of_nil
node_of (cons head tail) = of_list (head ∷ cell_list tail) (end_of tail)
node_of (binary bs) = of_binary bs

abbrev whole : Node → Datum
whole (of_integer z) = integer z
whole (of_atom cs) = atom cs
whole (of_tuple ds) = tuple (items_of ds)
whole (of_map ps) = map (entries_of ps)
whole of_nil = nil
whole (of_list ds t) = cells ds t
whole (of_binary bs) = binary bs

back : (d : Datum) → whole (node_of d) ≡ d
back (integer z) = refl
back (atom cs) = refl
back (tuple ds) = ap tuple (items_back ds)
back (map es) = ap map (entries_back es)
back nil = refl
back (cons head tail) = ap (cons head) (cells_back tail)
back (binary bs) = refl

abbrev pub tag_of : Node → ℕ
tag_of (of_integer z) = 1
tag_of (of_atom cs) = 2
tag_of (of_tuple ds) = 3
tag_of (of_map ps) = 4
tag_of of_nil = 5
tag_of (of_list ds t) = 6
tag_of (of_binary bs) = 7

abbrev pub rest_bytes : Node → List ℕ
rest_bytes (of_integer z) = i64_bytes z
rest_bytes (of_atom cs) = text_bytes cs
rest_bytes (of_tuple ds) = u16_bytes (length ds) ++ flat_map constant_bytes ds
rest_bytes (of_map ps) = u16_bytes (length ps) ++ flat_map pair_bytes ps
rest_bytes of_nil = []
rest_bytes (of_list ds t) = (u32_bytes (length ds) ++ flat_map constant_bytes ds) ++ constant_bytes t
rest_bytes (of_binary bs) = u32_bytes (length bs) ++ bs

abbrev pub NodeFits : ℕ → Node → Type 0
NodeFits room (of_integer z) = FitsSigned w64 z
NodeFits room (of_atom cs) = (length cs ≤ atom_limit) × AreScalars cs
NodeFits room (of_tuple ds) = (tuple_format room).Fits ds
NodeFits room (of_map ps) = (map_format room).Fits ps
NodeFits room of_nil = Unit {0}
NodeFits room (of_list ds t) = (list_format room).Fits (ds, t)
NodeFits room (of_binary bs) = length bs ≤ binary_limit

pub spelled : (d : Datum) → constant_bytes d ≡ tag_of (node_of d) ∷ rest_bytes (node_of d)
spelled (integer z) = refl
spelled (atom cs) = refl
spelled (tuple ds) = ap (λ (t : List ℕ). 3 ∷ u16_bytes (item_count ds) ++ t) (items_spelled ds) ∙ ap (λ n. 3 ∷ u16_bytes n ++ flat_map constant_bytes (item_list ds)) (items_counted ds)
spelled (map es) = ap (λ (t : List ℕ). 4 ∷ u16_bytes (entry_count es) ++ t) (entries_spelled es) ∙ ap (λ n. 4 ∷ u16_bytes n ++ flat_map pair_bytes (entry_list es)) (entries_counted es)
spelled nil = refl
spelled (cons head tail) =
    let all = ap (λ (t : List ℕ). constant_bytes head ++ t) (cells_spelled tail) ∙ sym (append_assoc (constant_bytes head) (flat_map constant_bytes (cell_list tail)) (constant_bytes (end_of tail))) in
    ap (λ (t : List ℕ). 6 ∷ u32_bytes (suc (cell_count tail)) ++ t) all
    ∙ ap (λ n. 6 ∷ u32_bytes (suc n) ++ ((constant_bytes head ++ flat_map constant_bytes (cell_list tail)) ++ constant_bytes (end_of tail))) (cells_counted tail)
    ∙ ap (λ (t : List ℕ). 6 ∷ t) (sym (append_assoc (u32_bytes (suc (length (cell_list tail)))) (constant_bytes head ++ flat_map constant_bytes (cell_list tail)) (constant_bytes (end_of tail))))
spelled (binary bs) = refl

node_fits : (room : ℕ) (d : Datum) → IsSound d → depth d ≤ suc room → NodeFits room (node_of d)
node_fits room (integer z) s deep = s
node_fits room (atom cs) s deep = s
node_fits room (tuple ds) s deep = (omega (arith, s.0, items_counted ds), items_fit room ds s.1 (omega arith))
node_fits room (map es) s deep = ((omega (arith, s.0, entries_counted es), entries_fit room es s.1 (omega arith)), subst AreRising (sym (entries_back es)) (entries_rise es s.1))
node_fits room nil s deep = tt
node_fits room (cons head tail) s deep =
    let rest = cells_fit room tail s.2 (omega arith) in
    (((omega arith, omega (arith, s.0, cells_counted tail)), ((s.1, omega arith), rest.0)), (rest.1, end_no_cell tail))
node_fits room (binary bs) s deep = s.0

pub record Opened (b : ℕ) (r : List ℕ) (room : ℕ) (n : Node) (s : List ℕ) : Type 0 where
  pub tag_is : tag_of n ≡ b
  pub rest_is : r ≡ rest_bytes n ++ s
  pub fits : NodeFits room n

pub opened : (room : ℕ) (bytes : List ℕ) (b : ℕ) (r : List ℕ) (d : Datum) (s : List ℕ) → bytes ≡ b ∷ r → Begins (constant_format (suc room)) bytes d s → Opened b r room (node_of d) s
opened room bytes b r d s is h =
    let same = sym is ∙ h.parts ∙ ap (λ (bs : List ℕ). bs ++ s) (spelled d) in
    record {
      tag_is = sym (head_is b (tag_of (node_of d)) r (rest_bytes (node_of d) ++ s) same);
      rest_is = tail_is b (tag_of (node_of d)) r (rest_bytes (node_of d) ++ s) same;
      fits = node_fits room d h.fits.0 h.fits.1;
    }

-- ---- what follows each tag

pub integer_in : (r : List ℕ) (room : ℕ) (n : Node) (s : List ℕ) → Opened 1 r room n s → (z : ℤ) × (n ≡ of_integer z) × Begins i64_format r z s
integer_in r room (of_integer z) s h = (z, refl, record { fits = h.fits; parts = h.rest_is })
integer_in r room n s h = absurd (omega (arith, h.tag_is))

pub atom_in : (r : List ℕ) (room : ℕ) (n : Node) (s : List ℕ) → Opened 2 r room n s → (cs : List ℕ) × (n ≡ of_atom cs) × Begins utf8_format r (encode_utf8_all cs) s × (length cs ≤ atom_limit) × AreScalars cs
atom_in r room (of_atom cs) s h = (cs, refl, record { fits = (text_fits cs h.fits.0, text_IsUtf8 cs h.fits.1); parts = h.rest_is }, h.fits.0, h.fits.1)
atom_in r room n s h = absurd (omega (arith, h.tag_is))

pub tuple_in : (r : List ℕ) (room : ℕ) (n : Node) (s : List ℕ) → Opened 3 r room n s → (ds : List Datum) × (n ≡ of_tuple ds) × Begins (tuple_format room) r ds s
tuple_in r room (of_tuple ds) s h = (ds, refl, record { fits = h.fits; parts = h.rest_is })
tuple_in r room n s h = absurd (omega (arith, h.tag_is))

pub map_in : (r : List ℕ) (room : ℕ) (n : Node) (s : List ℕ) → Opened 4 r room n s → (ps : List (Datum × Datum)) × (n ≡ of_map ps) × Begins (map_format room) r ps s
map_in r room (of_map ps) s h = (ps, refl, record { fits = h.fits; parts = h.rest_is })
map_in r room n s h = absurd (omega (arith, h.tag_is))

pub nil_in : (r : List ℕ) (room : ℕ) (n : Node) (s : List ℕ) → Opened 5 r room n s → (n ≡ of_nil) × (r ≡ s)
nil_in r room of_nil s h = (refl, h.rest_is)
nil_in r room n s h = absurd (omega (arith, h.tag_is))

pub list_in : (r : List ℕ) (room : ℕ) (n : Node) (s : List ℕ) → Opened 6 r room n s → (l : List Datum × Datum) × (n ≡ of_list l.0 l.1) × Begins (list_format room) r l s
list_in r room (of_list ds t) s h = ((ds, t), refl, record { fits = h.fits; parts = h.rest_is })
list_in r room n s h = absurd (omega (arith, h.tag_is))

pub binary_in : (r : List ℕ) (room : ℕ) (n : Node) (s : List ℕ) → Opened 7 r room n s → (bs : List ℕ) × (n ≡ of_binary bs) × Begins binary_format r bs s
binary_in r room (of_binary bs) s h = (bs, refl, record { fits = h.fits; parts = h.rest_is })
binary_in r room n s h = absurd (omega (arith, h.tag_is))

-- ---- no term begins another

tuple_free : (room : ℕ) → IsPrefixFree (constant_format room) → IsPrefixFree (tuple_format room)
tuple_free room free = counted_prefix_free u16_format (constant_format room) u16_free free

pub pair_free : (room : ℕ) → IsPrefixFree (constant_format room) → IsPrefixFree (pair_format room)
pair_free room free = both_prefix_free (constant_format room) (constant_format room) free free

map_free : (room : ℕ) → IsPrefixFree (constant_format room) → IsPrefixFree (map_format room)
map_free room free = such_prefix_free (counted u16_format (pair_format room)) RisingPairs (counted_prefix_free u16_format (pair_format room) u16_free (pair_free room free))

pub elements_free : (room : ℕ) → IsPrefixFree (constant_format room) → IsPrefixFree (counted length_format (constant_format room))
elements_free room free = counted_prefix_free length_format (constant_format room) length_free free

list_free : (room : ℕ) → IsPrefixFree (constant_format room) → IsPrefixFree (list_format room)
list_free room free = both_prefix_free (counted length_format (constant_format room)) (such (constant_format room) IsNoCell) (elements_free room free) (such_prefix_free (constant_format room) IsNoCell free)

nodes_one : (room : ℕ) → IsPrefixFree (constant_format room) → (m n : Node) (t r s : List ℕ) → Opened (tag_of m) t room m r → Opened (tag_of m) t room n s → (m ≡ n) × (r ≡ s)
nodes_one room free (of_integer z) n t r s h k =
    let a = integer_in t room (of_integer z) r h in
    let b = integer_in t room n s k in
    let same = i64_free.one t a.0 b.0 r s a.2 b.2 in
    (a.1 ∙ ap of_integer same.0 ∙ sym b.1, same.1)
nodes_one room free (of_atom cs) n t r s h k =
    let a = atom_in t room (of_atom cs) r h in
    let b = atom_in t room n s k in
    let same = utf8_free.one t (encode_utf8_all a.0) (encode_utf8_all b.0) r s a.2 b.2 in
    (a.1 ∙ ap of_atom (sym (chars_of_text a.0 a.4) ∙ ap chars same.0 ∙ chars_of_text b.0 b.4) ∙ sym b.1, same.1)
nodes_one room free (of_tuple ds) n t r s h k =
    let a = tuple_in t room (of_tuple ds) r h in
    let b = tuple_in t room n s k in
    let same = (tuple_free room free).one t a.0 b.0 r s a.2 b.2 in
    (a.1 ∙ ap of_tuple same.0 ∙ sym b.1, same.1)
nodes_one room free (of_map ps) n t r s h k =
    let a = map_in t room (of_map ps) r h in
    let b = map_in t room n s k in
    let same = (map_free room free).one t a.0 b.0 r s a.2 b.2 in
    (a.1 ∙ ap of_map same.0 ∙ sym b.1, same.1)
nodes_one room free of_nil n t r s h k =
    let a = nil_in t room of_nil r h in
    let b = nil_in t room n s k in
    (sym b.0, sym a.1 ∙ b.1)
nodes_one room free (of_list ds e) n t r s h k =
    let a = list_in t room (of_list ds e) r h in
    let b = list_in t room n s k in
    let same = (list_free room free).one t a.0 b.0 r s a.2 b.2 in
    (a.1 ∙ ap (λ (l : List Datum × Datum). of_list l.0 l.1) same.0 ∙ sym b.1, same.1)
nodes_one room free (of_binary bs) n t r s h k =
    let a = binary_in t room (of_binary bs) r h in
    let b = binary_in t room n s k in
    let same = binary_free.one t a.0 b.0 r s a.2 b.2 in
    (a.1 ∙ ap of_binary same.0 ∙ sym b.1, same.1)

pub some_depth : (d : Datum) → 0 < depth d
some_depth (integer z) = omega arith
some_depth d = omega arith

pub constant_free : (room : ℕ) → IsPrefixFree (constant_format room)
constant_free zero = record { one = λ bytes d e r s h k. absurd (omega (arith, some_depth d, h.fits.1)) }
constant_free (suc room) = record {
  one = λ bytes d e r s h k.
      let t : List ℕ = rest_bytes (node_of d) ++ r in
      let is : bytes ≡ tag_of (node_of d) ∷ t = h.parts ∙ ap (λ (bs : List ℕ). bs ++ r) (spelled d) in
      let same = nodes_one room (constant_free room) (node_of d) (node_of e) t r s (opened room bytes (tag_of (node_of d)) t d r is h) (opened room bytes (tag_of (node_of d)) t e s is k) in
      (sym (back d) ∙ ap whole same.0 ∙ back e, same.1);
}

-- ---- terms that are taken apart

pub no_cell-tail : (t : Option Datum) → IsTail t → IsNoCell (tail_of t)
no_cell-tail None h = tt
no_cell-tail (Some (cons head tail)) h = absurd h
no_cell-tail (Some d) h = tt

-- a term of these elements has few of them
pub tuple_few : (ds : List Datum) (d : Datum) → tuple (items_of ds) ≡ d → IsTerm d → length ds ≤ tuple_limit
tuple_few ds d is h = let whole : IsTerm (tuple (items_of ds)) = subst IsTerm (sym is) h in omega (arith, whole.sound.0, item_count-items_of ds)

pub map_few : (ps : List (Datum × Datum)) (d : Datum) → map (entries_of ps) ≡ d → IsTerm d → length ps ≤ map_limit
map_few ps d is h = let whole : IsTerm (map (entries_of ps)) = subst IsTerm (sym is) h in omega (arith, whole.sound.0, entry_count-entries_of ps)

pub list_few : (ds : List Datum) (t d : Datum) → cells ds t ≡ d → IsTerm d → length ds ≤ list_limit
list_few [] t d is h = omega arith
list_few (e ∷ ds) t d is h = let whole : IsTerm (cells (e ∷ ds) t) = subst IsTerm (sym is) h in omega (arith, whole.sound.0, cell_count-cells ds t)
