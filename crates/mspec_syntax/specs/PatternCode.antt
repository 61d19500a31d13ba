-- A pattern as a row of numbers and terms from which it can be read back. Proofs use it to tell patterns apart. Each
-- part follows its own parts, and a stack of what was read so far puts them together.
use Rattle.std.specs.Prelude.{ℕ, ◌≡◌, ◌==◌, if◌then◌else◌, List, [], ◌∷◌, refl}
use Rattle.std.specs.Coded.{Coded, code_by, coded×, coded_ℕ, coded_list}
use Rattle.std.proofs.Common.{◌∙◌, ap}
use Rattle.term_core.specs.Datum.{Datum}
use Rattle.term_core.specs.Datum.Datum.{nil}
use Rattle.term_core.specs.DatumCode.{datum_code}
use Rattle.mspec_syntax.specs.Pattern.{Pattern, Patterns, Fields}
use Rattle.mspec_syntax.specs.Pattern.Pattern.{variable, anything, literal, tuple_of, cell_of, map_of}
use Rattle.mspec_syntax.specs.Pattern.Patterns.{no_patterns, pattern}
use Rattle.mspec_syntax.specs.Pattern.Fields.{no_fields, field}

-- one part in such a row: the number of its kind, a variable's number and a term
abbrev pub Mark : Type 0
Mark = ℕ × (ℕ × Datum)

abbrev pub part : ℕ → Mark
part kind = (kind, (0, nil))

abbrev mutual
  pub row : Pattern → List Mark → List Mark
  row (variable n) rest = (0, (n, nil)) ∷ rest
  row anything rest = part 1 ∷ rest
  row (literal d) rest = (2, (0, d)) ∷ rest
  row (tuple_of ps) rest = patterns_row ps (part 3 ∷ rest)
  row (cell_of p q) rest = row p (row q (part 4 ∷ rest))
  row (map_of fs) rest = fields_row fs (part 5 ∷ rest)

  pub patterns_row : Patterns → List Mark → List Mark
  patterns_row no_patterns rest = part 6 ∷ rest
  patterns_row (pattern p ps) rest = row p (patterns_row ps (part 7 ∷ rest))

  pub fields_row : Fields → List Mark → List Mark
  fields_row no_fields rest = part 8 ∷ rest
  fields_row (field k p fs) rest = row p (fields_row fs ((9, (0, k)) ∷ rest))

pub data Held : Type 0 where
  one : Pattern → Held
  row_of_patterns : Patterns → Held
  row_of_fields : Fields → Held

abbrev pub to_tuple : List Held → List Held
to_tuple (row_of_patterns ps ∷ held) = one (tuple_of ps) ∷ held
to_tuple held = held

abbrev pub to_cell : List Held → List Held
to_cell (one q ∷ one p ∷ held) = one (cell_of p q) ∷ held
to_cell held = held

abbrev pub to_map : List Held → List Held
to_map (row_of_fields fs ∷ held) = one (map_of fs) ∷ held
to_map held = held

abbrev pub to_patterns : List Held → List Held
to_patterns (row_of_patterns ps ∷ one p ∷ held) = row_of_patterns (pattern p ps) ∷ held
to_patterns held = held

abbrev pub to_fields : Datum → List Held → List Held
to_fields k (row_of_fields fs ∷ one p ∷ held) = row_of_fields (field k p fs) ∷ held
to_fields k held = held

abbrev pub taken : Mark → List Held → List Held
taken m held =
    if m.0 == 0 then one (variable m.1.0) ∷ held
    else if m.0 == 1 then one anything ∷ held
    else if m.0 == 2 then one (literal m.1.1) ∷ held
    else if m.0 == 3 then to_tuple held
    else if m.0 == 4 then to_cell held
    else if m.0 == 5 then to_map held
    else if m.0 == 6 then row_of_patterns no_patterns ∷ held
    else if m.0 == 7 then to_patterns held
    else if m.0 == 8 then row_of_fields no_fields ∷ held
    else to_fields m.1.1 held

abbrev pub read : List Mark → List Held → List Held
read [] held = held
read (m ∷ ms) held = read ms (taken m held)

abbrev pub top : List Held → Pattern
top (one p ∷ held) = p
top held = anything

mutual
  pub row_back : (p : Pattern) (rest : List Mark) (held : List Held) → read (row p rest) held ≡ read rest (one p ∷ held)
  row_back (variable n) rest held = refl
  row_back anything rest held = refl
  row_back (literal d) rest held = refl
  row_back (tuple_of ps) rest held = patterns_back ps (part 3 ∷ rest) held
  row_back (cell_of p q) rest held =
      row_back p (row q (part 4 ∷ rest)) held ∙ row_back q (part 4 ∷ rest) (one p ∷ held)
  row_back (map_of fs) rest held = fields_back fs (part 5 ∷ rest) held

  pub patterns_back : (ps : Patterns) (rest : List Mark) (held : List Held) → read (patterns_row ps rest) held ≡ read rest (row_of_patterns ps ∷ held)
  patterns_back no_patterns rest held = refl
  patterns_back (pattern p ps) rest held =
      row_back p (patterns_row ps (part 7 ∷ rest)) held ∙ patterns_back ps (part 7 ∷ rest) (one p ∷ held)

  pub fields_back : (fs : Fields) (rest : List Mark) (held : List Held) → read (fields_row fs rest) held ≡ read rest (row_of_fields fs ∷ held)
  fields_back no_fields rest held = refl
  fields_back (field k p fs) rest held =
      row_back p (fields_row fs ((9, (0, k)) ∷ rest)) held ∙ fields_back fs ((9, (0, k)) ∷ rest) (one p ∷ held)

abbrev pub pattern_code : Coded Pattern
pattern_code =
    code_by (List Mark) (coded_list (coded× coded_ℕ (coded× coded_ℕ datum_code))) (λ p. row p []) (λ ms. top (read ms []))
    (λ p. ap top (row_back p [] []))
