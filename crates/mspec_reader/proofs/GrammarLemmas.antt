-- Grammar and faults over the lists of the program.
use Rattle.std.proofs.Common.{◌≡◌, Bool, true, false, ◌||◌, Option, Some, None, List, [], ◌∷◌, refl, sym, ◌∙◌, ap}
use Rattle.term_core.specs.Datum.{Datum, items_of, cells}
use Rattle.term_core.specs.Term.{tail_of}
use Rattle.mspec_syntax.specs.declared.word.Word.{Word}
use Rattle.mspec_syntax.specs.Grammar.{mentions, items_mention}

or_assoc : (a b c : Bool) → (a || (b || c)) ≡ ((a || b) || c)
or_assoc true b c = refl
or_assoc false b c = refl

mentions-cells : (test : Word → Bool) (ds : List Datum) (tail : Datum) → mentions test (cells ds tail) ≡ (items_mention test (items_of ds) || mentions test tail)
mentions-cells test [] tail = refl
mentions-cells test (d ∷ ds) tail =
    ap (λ b. mentions test d || b) (mentions-cells test ds tail) ∙ or_assoc (mentions test d) (items_mention test (items_of ds)) (mentions test tail)

-- the atoms in a list are those in its elements and its tail
pub mentions-list : (test : Word → Bool) (ds : List Datum) (t : Option Datum) (d : Datum) → cells ds (tail_of t) ≡ d → mentions test d ≡ (items_mention test (items_of ds) || mentions test (tail_of t))
mentions-list test ds t d is = ap (mentions test) (sym is) ∙ mentions-cells test ds (tail_of t)

or_false : (a : Bool) → (a || false) ≡ a
or_false true = refl
or_false false = refl

-- the atoms in a proper list are those in its elements
pub mentions-proper : (test : Word → Bool) (ds : List Datum) (t : Option Datum) (d : Datum) (r : Bool) → t ≡ None → cells ds (tail_of t) ≡ d → r ≡ items_mention test (items_of ds) → r ≡ mentions test d
mentions-proper test ds None d r e is h =
    h ∙ sym (mentions-list test ds None d is ∙ or_false (items_mention test (items_of ds)))
mentions-proper test ds (Some x) d r e is h = absurd (cc)

pub mentions-in_elements : (test : Word → Bool) (ds : List Datum) (t : Option Datum) (d : Datum) (r : Bool) → cells ds (tail_of t) ≡ d → r ≡ items_mention test (items_of ds) → r ≡ true → r ≡ mentions test d
mentions-in_elements test ds t d r is h e =
    let whole = mentions-list test ds t d is in
    let elements : items_mention test (items_of ds) ≡ true = sym h ∙ e in
    e ∙ sym (whole ∙ ap (λ b. b || mentions test (tail_of t)) elements)

pub mentions-in_tail : (test : Word → Bool) (ds : List Datum) (t : Option Datum) (tail d : Datum) (q r : Bool) → t ≡ Some tail → cells ds (tail_of t) ≡ d → q ≡ items_mention test (items_of ds) → q ≡ false → r ≡ mentions test tail → r ≡ mentions test d
mentions-in_tail test ds None tail d q r e is h none last = absurd (cc)
mentions-in_tail test ds (Some x) tail d q r e is h none last =
    let same : x ≡ tail = cc in
    let elements : items_mention test (items_of ds) ≡ false = sym h ∙ none in
    let whole = mentions-list test ds (Some x) d is ∙ ap (λ b. b || mentions test x) elements ∙ ap (mentions test) same in
    last ∙ sym whole
