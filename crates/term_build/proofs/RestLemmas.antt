-- The rest of a list: its elements and tail.
use Rattle.std.proofs.Common.{◌≡◌, ℕ, zero, suc, ◌+◌, ◌<◌, ◌≤◌, add-one, Option, List, ◌-◌, length, length-drop, take, drop, refl, sym, ◌∙◌, ap, subst, arith}
use Rattle.std.proofs.lemmas.List.{drop_all}
use Rattle.term_core.specs.Datum.{Datum, cells, cell_count}
use Rattle.term_core.specs.Datum.Datum.{integer, atom, tuple, map, nil, cons, binary}
use Rattle.term_build.specs.Rest.{rest_of}
use Rattle.term_core.specs.Limits.{depth}
use Rattle.term_core.specs.TermFalls.{depth-cells}
use Rattle.term_core.proofs.SharedLemmas.{left-slice, dropped-depth, list_deep}
pub use Rattle.term_core.proofs.SharedLemmas.{IsEnd, rest_of-end, rest_of-cells, rest_of-IsTerm}
use Rattle.term_core.specs.Term.{tail_of, IsTail}
use Rattle.std.specs.Borrow.{Bor}
use Rattle.term_core.specs.View.{shown}
use Rattle.term_core.specs.declared.view.View.{View}
use Rattle.term_core.specs.declared.view.View.TheVariants as view

-- the elements that remain, as a slice has them
pub rest_of-slice : (n : ℕ) (ds : List Datum) (t : Option Datum) (d : Datum) → IsTail t → cells ds (tail_of t) ≡ d → cells (take (length ds - n) (drop n ds)) (tail_of t) ≡ rest_of n d
rest_of-slice n ds t d h is =
    ap (λ l. cells l (tail_of t)) (left-slice n ds)
    ∙ sym (rest_of-cells n ds t h) ∙ ap (rest_of n) is

-- the rest after all elements is the tail
pub rest_of-past : (n : ℕ) (ds : List Datum) (t : Option Datum) (d : Datum) → length ds ≤ n → IsTail t → cells ds (tail_of t) ≡ d → tail_of t ≡ rest_of n d
rest_of-past n ds t d past h is =
    ap (λ l. cells l (tail_of t)) (sym (drop_all n ds past)) ∙ sym (rest_of-cells n ds t h) ∙ ap (rest_of n) is

pub rest_of-within : (n : ℕ) (ds : List Datum) (t : Option Datum) (d : Datum) → IsTail t → cells ds (tail_of t) ≡ d → cells (drop n ds) (tail_of t) ≡ rest_of n d
rest_of-within n ds t d h is = sym (rest_of-cells n ds t h) ∙ ap (rest_of n) is

-- the rest of a list of depth 2 has depth 2
pub flat_left : (n : ℕ) (ds : List Datum) (t : Option Datum) (d : Datum) → n < length ds → IsTail t → cells ds (tail_of t) ≡ d → depth d ≡ 2 → 2 ≡ depth (rest_of n d)
flat_left n ds t d inside h is two =
    let left = rest_of-within n ds t d h is in
    let some : 0 < length ds = omega (arith, inside) in
    let more : 0 < length (drop n ds) = omega (arith, inside, length-drop n ds) in
    omega (arith, two, ap depth is, ap depth left, list_deep (drop n ds) (tail_of t) more, depth-cells ds (tail_of t) some, depth-cells (drop n ds) (tail_of t) more, dropped-depth n ds)

-- the rest of what is no list is itself
pub rest_of-shown : (n : ℕ) (d e : Datum) → IsEnd d → d ≡ e → d ≡ rest_of n e
rest_of-shown n d e h is = sym (rest_of-end n d h) ∙ ap (rest_of n) is

-- a view that is not of a list with elements shows no cell
pub no_list-end : {A : Type 0} (v : View A) (d : Datum) → ((es : Bor (List Datum)) (t : Option (Bor Datum)) → v ≡ view.List es t → ⊥) → shown v ≡ d → IsEnd d
no_list-end (view.Integer z) d never is = subst IsEnd is tt
no_list-end (view.Atom cs) d never is = subst IsEnd is tt
no_list-end (view.Tuple ds) d never is = subst IsEnd is tt
no_list-end view.Nil d never is = subst IsEnd is tt
no_list-end (view.List es t) d never is = absurd (never es t refl)
no_list-end (view.Map es) d never is = subst IsEnd is tt
no_list-end (view.Binary bs) d never is = subst IsEnd is tt

-- if an element remains, the list has more elements than were passed
pub rest_of-count : (n : ℕ) (d head tail : Datum) → cons head tail ≡ rest_of n d → n < cell_count d
rest_of-count zero d head tail is = let more = ap cell_count is in omega arith
rest_of-count (suc n) (integer z) head tail is = absurd (cc)
rest_of-count (suc n) (atom cs) head tail is = absurd (cc)
rest_of-count (suc n) (tuple ds) head tail is = absurd (cc)
rest_of-count (suc n) (map es) head tail is = absurd (cc)
rest_of-count (suc n) nil head tail is = absurd (cc)
rest_of-count (suc n) (cons first rest) head tail is = let more = rest_of-count n rest head tail is in omega arith
rest_of-count (suc n) (binary bs) head tail is = absurd (cc)

next_left : (n : ℕ) (d head tail : Datum) → cons head tail ≡ rest_of n d → tail ≡ rest_of (suc n) d
next_left zero d head tail is = ap (rest_of 1) is
next_left (suc n) (integer z) head tail is = absurd (cc)
next_left (suc n) (atom cs) head tail is = absurd (cc)
next_left (suc n) (tuple ds) head tail is = absurd (cc)
next_left (suc n) (map es) head tail is = absurd (cc)
next_left (suc n) nil head tail is = absurd (cc)
next_left (suc n) (cons first rest) head tail is = next_left n rest head tail is
next_left (suc n) (binary bs) head tail is = absurd (cc)

-- the rest after one more element is the tail of the rest
pub rest_of-next : (n : ℕ) (d head tail : Datum) → cons head tail ≡ rest_of n d → cons head (rest_of (n + 1) d) ≡ rest_of n d
rest_of-next n d head tail is =
    ap (λ m. cons head (rest_of m d)) (add-one n) ∙ ap (cons head) (sym (next_left n d head tail is)) ∙ is
