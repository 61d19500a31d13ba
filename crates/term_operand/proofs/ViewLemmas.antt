-- Lists with elements, as views show them.
use Rattle.std.proofs.Common.{◌≡◌, ◌<◌, ◌≤◌, List, [], ◌∷◌, length, get_or, None, refl, arith}
use Rattle.term_core.specs.Datum.{Datum, cells}
use Rattle.term_core.specs.Datum.Datum.{cons, nil}
use Rattle.term_core.specs.declared.view.View.TheVariants as view
use Rattle.term_operand.specs.Operand.{IsNoTuple, integer_of}

pub no_tuple : (elements : List Datum) (tail : Datum) → 0 < length elements → IsNoTuple (cells elements tail)
no_tuple [] tail some = absurd (omega arith)
no_tuple (d ∷ ds) tail some = tt

pub no_number : (elements : List Datum) (tail : Datum) → 0 < length elements → None ≡ integer_of (cells elements tail)
no_number [] tail some = absurd (omega arith)
no_number (d ∷ ds) tail some = refl

-- the first element of a row, whatever the default for a missing one
pub first_element : (elements : List Datum) (head other : Datum) → 1 ≤ length elements → head ≡ get_or elements 0 other → head ≡ get_or elements 0 nil
first_element [] head other some is = absurd (omega arith)
first_element (d ∷ ds) head other some is = is

-- the first element of a list is the head of its cells
pub first_of_cells : (elements : List Datum) (head other tail whole : Datum) → 1 ≤ length elements → head ≡ get_or elements 0 other → cells elements tail ≡ whole → (rest : Datum) × (cons head rest ≡ whole)
first_of_cells [] head other tail whole some is same = absurd (omega arith)
first_of_cells (d ∷ ds) head other tail whole some is same = (cells ds tail, rw is same)
