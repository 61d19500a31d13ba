-- A term as a row of numbers and texts from which the term can be read back. Proofs use it to tell terms apart. Each
-- part follows its own parts, and a stack of what was read so far puts them together.
use Rattle.std.specs.Prelude.{ℕ, ◌≡◌, ◌==◌, if◌then◌else◌, ℤ, pos, List, [], ◌∷◌, refl}
use Rattle.std.specs.Coded.{Coded, code_by, coded×, coded_ℕ, coded_ℤ, coded_list}
use Rattle.std.proofs.Common.{◌∙◌, ap}
use Rattle.term_core.specs.Datum.{Datum, Items, Entries}
use Rattle.term_core.specs.Datum.Datum.{integer, atom, tuple, map, nil, cons, binary}
use Rattle.term_core.specs.Datum.Items.{no_items, item}
use Rattle.term_core.specs.Datum.Entries.{no_entries, entry}

-- one part in such a row: the number of its kind, an integer and a text
abbrev pub Mark : Type 0
Mark = ℕ × (ℤ × List ℕ)

abbrev pub part : ℕ → Mark
part kind = (kind, (pos 0, []))

abbrev mutual
  pub row : Datum → List Mark → List Mark
  row (integer z) rest = (0, (z, [])) ∷ rest
  row (atom cs) rest = (1, (pos 0, cs)) ∷ rest
  row (tuple ds) rest = items_row ds (part 2 ∷ rest)
  row (map es) rest = entries_row es (part 3 ∷ rest)
  row nil rest = part 4 ∷ rest
  row (cons head tail) rest = row head (row tail (part 5 ∷ rest))
  row (binary bs) rest = (6, (pos 0, bs)) ∷ rest

  pub items_row : Items → List Mark → List Mark
  items_row no_items rest = part 7 ∷ rest
  items_row (item d ds) rest = row d (items_row ds (part 8 ∷ rest))

  pub entries_row : Entries → List Mark → List Mark
  entries_row no_entries rest = part 9 ∷ rest
  entries_row (entry k v es) rest = row k (row v (entries_row es (part 10 ∷ rest)))

pub data Held : Type 0 where
  one : Datum → Held
  row_of_items : Items → Held
  row_of_entries : Entries → Held

abbrev pub to_tuple : List Held → List Held
to_tuple (row_of_items ds ∷ held) = one (tuple ds) ∷ held
to_tuple held = held

abbrev pub to_map : List Held → List Held
to_map (row_of_entries es ∷ held) = one (map es) ∷ held
to_map held = held

abbrev pub to_cons : List Held → List Held
to_cons (one tail ∷ one head ∷ held) = one (cons head tail) ∷ held
to_cons held = held

abbrev pub to_items : List Held → List Held
to_items (row_of_items ds ∷ one d ∷ held) = row_of_items (item d ds) ∷ held
to_items held = held

abbrev pub to_entries : List Held → List Held
to_entries (row_of_entries es ∷ one v ∷ one k ∷ held) = row_of_entries (entry k v es) ∷ held
to_entries held = held

abbrev pub taken : Mark → List Held → List Held
taken m held =
    if m.0 == 0 then one (integer m.1.0) ∷ held
    else if m.0 == 1 then one (atom m.1.1) ∷ held
    else if m.0 == 2 then to_tuple held
    else if m.0 == 3 then to_map held
    else if m.0 == 4 then one nil ∷ held
    else if m.0 == 5 then to_cons held
    else if m.0 == 6 then one (binary m.1.1) ∷ held
    else if m.0 == 7 then row_of_items no_items ∷ held
    else if m.0 == 8 then to_items held
    else if m.0 == 9 then row_of_entries no_entries ∷ held
    else to_entries held

abbrev pub read : List Mark → List Held → List Held
read [] held = held
read (m ∷ ms) held = read ms (taken m held)

abbrev pub top : List Held → Datum
top (one d ∷ held) = d
top held = nil

mutual
  pub row_back : (d : Datum) (rest : List Mark) (held : List Held) → read (row d rest) held ≡ read rest (one d ∷ held)
  row_back (integer z) rest held = refl
  row_back (atom cs) rest held = refl
  row_back (tuple ds) rest held = items_back ds (part 2 ∷ rest) held
  row_back (map es) rest held = entries_back es (part 3 ∷ rest) held
  row_back nil rest held = refl
  row_back (cons head tail) rest held =
      row_back head (row tail (part 5 ∷ rest)) held ∙ row_back tail (part 5 ∷ rest) (one head ∷ held)
  row_back (binary bs) rest held = refl

  pub items_back : (ds : Items) (rest : List Mark) (held : List Held) → read (items_row ds rest) held ≡ read rest (row_of_items ds ∷ held)
  items_back no_items rest held = refl
  items_back (item d ds) rest held =
      row_back d (items_row ds (part 8 ∷ rest)) held ∙ items_back ds (part 8 ∷ rest) (one d ∷ held)

  pub entries_back : (es : Entries) (rest : List Mark) (held : List Held) → read (entries_row es rest) held ≡ read rest (row_of_entries es ∷ held)
  entries_back no_entries rest held = refl
  entries_back (entry k v es) rest held =
      row_back k (row v (entries_row es (part 10 ∷ rest))) held
      ∙ row_back v (entries_row es (part 10 ∷ rest)) (one k ∷ held)
      ∙ entries_back es (part 10 ∷ rest) (one v ∷ one k ∷ held)

abbrev pub datum_code : Coded Datum
datum_code =
    code_by (List Mark) (coded_list (coded× coded_ℕ (coded× coded_ℤ (coded_list coded_ℕ)))) (λ d. row d []) (λ ms. top (read ms []))
    (λ d. ap top (row_back d [] []))
