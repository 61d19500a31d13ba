-- The parts of a writable pattern are writable, and what their lines are.
use Rattle.std.proofs.Common.{◌≡◌, Bool, true, false, ◌||◌, ℕ, zero, suc, ◌+◌, ◌<◌, ◌≤◌, List, [], ◌∷◌, ◌++◌, length, get_or, drop, refl, sym, ◌∙◌, ap, subst, arith}
use Rattle.std.proofs.lemmas.List.{drop_all}
use Rattle.term_core.specs.Datum.{Datum}
use Rattle.mspec_syntax.specs.Grammar.{is_among}
use Rattle.mspec_syntax.specs.Pattern.{Pattern, Patterns, Fields, patterns_of, fields_of, cells_of, pattern_variables, patterns_variables, fields_variables, pattern_nodes, patterns_nodes, tail_nodes}
use Rattle.mspec_syntax.specs.Pattern.Pattern.{variable, anything, literal, tuple_of, cell_of, map_of}
use Rattle.mspec_syntax.proofs.RankLemmas.{among-first}
use Rattle.compiler_patterns.proofs.WrittenLemmas.{among-append}
use Rattle.compiler_patterns.specs.Patterns.{pattern_count}
use Rattle.compiler_patterns.specs.Writable.{HaveSlots, IsWritable, AreWritable, AreFieldsWritable}
use Rattle.compiler_patterns.proofs.SpelledLemmas.{split_at}

-- ---- nodes

nodes-some : (p : Pattern) → 0 < pattern_nodes p
nodes-some (variable n) = omega arith
nodes-some anything = omega arith
nodes-some (literal d) = omega arith
nodes-some (tuple_of ps) = omega arith
nodes-some (cell_of p q) = omega arith
nodes-some (map_of fs) = omega arith

-- a tuple has at least as many nodes as elements
pub count-nodes : (ps : List Pattern) → length ps ≤ patterns_nodes (patterns_of ps)
count-nodes [] = omega arith
count-nodes (p ∷ ps) = omega (arith, nodes-some p, count-nodes ps)

pub count-length : (ps : List Pattern) → pattern_count (patterns_of ps) ≡ length ps
count-length [] = refl
count-length (p ∷ ps) = ap suc (count-length ps)

nodes-tail : (q : Pattern) → pattern_nodes q ≤ suc (tail_nodes q)
nodes-tail (variable n) = omega arith
nodes-tail anything = omega arith
nodes-tail (literal d) = omega arith
nodes-tail (tuple_of ps) = omega arith
nodes-tail (cell_of p q) = omega arith
nodes-tail (map_of fs) = omega arith

-- ---- parts of what is writable

or-left : (a b : Bool) → a ≡ true → (a || b) ≡ true
or-left true b h = refl
or-left false b h = absurd (let q : false ≡ true = h in cc)

or-right : (a b : Bool) → b ≡ true → (a || b) ≡ true
or-right true b h = refl
or-right false b h = h

module _ (slots : List ℕ) where
  slots-left : (xs ys : List ℕ) → HaveSlots slots (xs ++ ys) → HaveSlots slots xs
  slots-left xs ys h = λ n e. h n (among-append xs ys n ∙ or-left (is_among xs n) (is_among ys n) e)

  slots-right : (xs ys : List ℕ) → HaveSlots slots (xs ++ ys) → HaveSlots slots ys
  slots-right xs ys h = λ n e. h n (among-append xs ys n ∙ or-right (is_among xs n) (is_among ys n) e)

  writable-get : (ps : List Pattern) (i : ℕ) (x : Pattern) → i < length ps → AreWritable slots (patterns_of ps) → IsWritable slots (get_or ps i x)
  writable-get [] i x h w = absurd (omega arith)
  writable-get (p ∷ ps) zero x h w =
      record {
        slotted = slots-left (pattern_variables p) (patterns_variables (patterns_of ps)) w.slotted;
        sound = w.sound.0;
        small = omega (arith, w.small);
      }
  writable-get (p ∷ ps) (suc i) x h w =
      writable-get ps i x (omega arith)
      (record {
        slotted = slots-right (pattern_variables p) (patterns_variables (patterns_of ps)) w.slotted;
        sound = w.sound.1;
        small = omega (arith, w.small);
      })

  pub writable-at : (ps : List Pattern) (i : ℕ) (p : Pattern) → i < length ps → p ≡ get_or ps i p → AreWritable slots (patterns_of ps) → IsWritable slots p
  writable-at ps i p h is w = subst (IsWritable slots) (sym is) (writable-get ps i p h w)

  field-get : (fs : List (Datum × Pattern)) (i : ℕ) (x : Datum × Pattern) → i < length fs → AreFieldsWritable slots (fields_of fs) → IsWritable slots (get_or fs i x).1
  field-get [] i x h w = absurd (omega arith)
  field-get (f ∷ fs) zero x h w =
      record {
        slotted = slots-left (pattern_variables f.1) (fields_variables (fields_of fs)) w.slotted;
        sound = w.sound.1;
        small = omega (arith, w.small);
      }
  field-get (f ∷ fs) (suc i) x h w =
      field-get fs i x (omega arith)
      (record {
        slotted = slots-right (pattern_variables f.1) (fields_variables (fields_of fs)) w.slotted;
        sound = w.sound.2;
        small = omega (arith, w.small);
      })

  pub field-at : (fs : List (Datum × Pattern)) (i : ℕ) (f : Datum × Pattern) → i < length fs → f ≡ get_or fs i f → AreFieldsWritable slots (fields_of fs) → IsWritable slots f.1
  field-at fs i f h is w = subst (λ x. IsWritable slots x.1) (sym is) (field-get fs i f h w)

  -- the elements of a writable tuple are writable
  pub tuple-elements : (ps : Patterns) → IsWritable slots (tuple_of ps) → AreWritable slots ps
  tuple-elements ps w = record { slotted = w.slotted; sound = w.sound.1; small = omega (arith, w.small) }

  -- the fields of a writable map are writable
  pub map-fields : (fs : Fields) → IsWritable slots (map_of fs) → AreFieldsWritable slots fs
  map-fields fs w = record { slotted = w.slotted; sound = w.sound.1; small = omega (arith, w.small) }

  cell-head : (p q : Pattern) → IsWritable slots (cell_of p q) → IsWritable slots p
  cell-head p q w =
      record {
        slotted = slots-left (pattern_variables p) (pattern_variables q) w.slotted;
        sound = w.sound.1;
        small = omega (arith, w.small);
      }

  cell-tail : (p q : Pattern) → IsWritable slots (cell_of p q) → IsWritable slots q
  cell-tail p q w =
      record {
        slotted = slots-right (pattern_variables p) (pattern_variables q) w.slotted;
        sound = w.sound.2;
        small = omega (arith, w.small, nodes-some p, nodes-tail q);
      }

  -- the rest of a writable list is writable
  pub cells-rest : (ps : List Pattern) (t : Pattern) (i : ℕ) → IsWritable slots (cells_of ps t) → IsWritable slots (cells_of (drop i ps) t)
  cells-rest ps t zero w = w
  cells-rest [] t (suc i) w = w
  cells-rest (p ∷ ps) t (suc i) w = cells-rest ps t i (cell-tail p (cells_of ps t) w)

  -- an element of a writable list is writable
  pub cells-element : (ps : List Pattern) (t : Pattern) (i : ℕ) (p : Pattern) → i < length ps → p ≡ get_or ps i p → IsWritable slots (cells_of ps t) → IsWritable slots p
  cells-element ps t i p h is w =
      cell-head p (cells_of (drop (i + 1) ps) t) (subst (λ l. IsWritable slots (cells_of l t)) (split_at ps i p h is) (cells-rest ps t i w))

  -- the tail of a writable list is writable
  pub cells-tail : (ps : List Pattern) (t : Pattern) → IsWritable slots (cells_of ps t) → IsWritable slots t
  cells-tail ps t w = subst (λ l. IsWritable slots (cells_of l t)) (drop_all (length ps) ps (omega arith)) (cells-rest ps t (length ps) w)

  -- a variable that is writable has a slot
  pub variable-slot : (n : ℕ) (p : Pattern) → variable n ≡ p → IsWritable slots p → is_among slots n ≡ true
  variable-slot n p is w = w.slotted n (ap (λ q. is_among (pattern_variables q) n) (sym is) ∙ among-first n [])
