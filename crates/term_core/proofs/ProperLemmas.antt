-- Lists with and without a tail of their own.
use Rattle.std.proofs.Common.{◌≡◌, refl, sym, ap, ◌∙◌, Option, Some, None, List, [], ◌∷◌}
use Rattle.std.specs.Option.{option_map}
use Rattle.std.proofs.lemmas.Option.{none-some}
use Rattle.term_core.specs.Datum.{Datum, cells, proper_elements, IsNoList}
use Rattle.term_core.specs.Datum.Datum.{integer, atom, tuple, map, nil, cons, binary}
use Rattle.term_core.specs.Term.{tail_of, IsTail}

cells-proper : (ds : List Datum) → proper_elements (cells ds nil) ≡ Some ds
cells-proper [] = refl
cells-proper (d ∷ ds) = ap (option_map (λ es. d ∷ es)) (cells-proper ds)

cells-improper : (ds : List Datum) (tail : Datum) → IsNoList tail → proper_elements (cells ds tail) ≡ None
cells-improper [] (integer z) none = refl
cells-improper [] (atom cs) none = refl
cells-improper [] (tuple es) none = refl
cells-improper [] (map es) none = refl
cells-improper [] nil none = absurd none
cells-improper [] (cons head tail) none = absurd none
cells-improper [] (binary bs) none = refl
cells-improper (d ∷ ds) tail none = ap (option_map (λ es. d ∷ es)) (cells-improper ds tail none)

-- a list without a tail of its own is proper, with its elements
pub proper-elements : (ds : List Datum) (t : Option Datum) (d : Datum) → t ≡ None → cells ds (tail_of t) ≡ d → Some ds ≡ proper_elements d
proper-elements ds None d none is = sym (cells-proper ds) ∙ ap proper_elements is
proper-elements ds (Some x) d some is = absurd (none-some x (sym some))

-- a list with a tail of its own is not proper
pub improper-elements : (ds : List Datum) (t : Option Datum) (tail d : Datum) → t ≡ Some tail → cells ds (tail_of t) ≡ d → IsTail t → None ≡ proper_elements d
improper-elements ds None tail d none is h = absurd (none-some tail none)
improper-elements ds (Some x) tail d some is h = sym (cells-improper ds x h) ∙ ap proper_elements is
