-- The table has each function at the place that its number names.
use Rattle.std.proofs.Common.{◌≡◌, ℕ, suc, zero, ◌+◌, List, [], ◌∷◌, Bool, true, false, cond, ◌&&◌, refl, sym, ◌∙◌, subst, ap, Option, Some, None, nat_eq, arith}
use Rattle.std.specs.Prelude.{◌↔◌, slice_get}
use Rattle.std.specs.Cmp.{first_so, second_so}
use Rattle.std.specs.Cmp.Lexicographic.{pointwise}
use Rattle.std.proofs.lemmas.Option.{none-some, same_Some}
use Rattle.std.proofs.lemmas.Bool.Decides.{Decides-eqb}
use Rattle.prims_table.specs.Names.{name_of, arity_of, takes, found}
use Rattle.prims_table.specs.Numbers.{function_number, arithmetic_number, function_of, arithmetic_of}
use Rattle.prims_table.specs.PrimitiveCode.{found_at}
use Rattle.prims_table.specs.declared.names.TheConstants.{ALL}
use Rattle.prims_table.specs.declared.prim.Primitive.{Primitive}
use Rattle.prims_table.specs.declared.prim.Primitive.TheVariants as prim
use Rattle.prims_table.specs.declared.prim.Function.{Function}
use Rattle.prims_table.specs.declared.prim.Arithmetic.{Arithmetic}

-- the place of a function in the table, counted from 1
abbrev rank : Primitive → ℕ
rank (prim.Function f) = function_number f
rank (prim.Arithmetic a) = 46 + arithmetic_number a

-- these functions are at the places of the table from this one on
abbrev are_ranked : ℕ → List Primitive → Bool
are_ranked k [] = true
are_ranked k (p ∷ ps) = nat_eq (rank p) (suc k) && are_ranked (suc k) ps

all_ranked : are_ranked 0 ALL ≡ true
all_ranked = refl

rank_at : (k : ℕ) (ps : List Primitive) → are_ranked k ps ≡ true → (i : ℕ) (p : Primitive) → slice_get ps i ≡ Some p → rank p ≡ suc (k + i)
rank_at k [] ranked i p is = absurd (none-some p is)
rank_at k (q ∷ ps) ranked zero p is =
    let here : rank q ≡ suc k = (Decides-eqb (rank q) (suc k)).0 (first_so (nat_eq (rank q) (suc k)) (are_ranked (suc k) ps) ranked) in
    let same : rank q ≡ rank p = ap rank (same_Some q p is) in
    omega (arith, here, same)
rank_at k (q ∷ ps) ranked (suc i) p is =
    let later = rank_at (suc k) ps (second_so (nat_eq (rank q) (suc k)) (are_ranked (suc k) ps) ranked) i p is in
    omega (arith, later)

-- what is found is at some place
place_of : (cs : List ℕ) (n : ℕ) (ps : List Primitive) (p : Primitive) → found cs n ps ≡ Some p → (i : ℕ) × (slice_get ps i ≡ Some p)
place_of cs n [] p is = absurd (none-some p is)
place_of cs n (q ∷ ps) p is = by (pointwise nat_eq (name_of q) cs && takes q n) (place_of cs n ps p) is
  where
    by : (b : Bool) → (found cs n ps ≡ Some p → (i : ℕ) × (slice_get ps i ≡ Some p)) → cond b (Some q) (found cs n ps) ≡ Some p → (i : ℕ) × (slice_get (q ∷ ps) i ≡ Some p)
    by true rest here = (0, here)
    by false rest later = let place = rest later in (suc place.0, place.1)

at_rank : (p : Primitive) (n : ℕ) → rank p ≡ suc n → slice_get ALL n ≡ Some p
at_rank p n is =
    let place = place_of (name_of p) (arity_of p) ALL p (found_at p) in
    let ranked = rank_at 0 ALL all_ranked place.0 p place.1 in
    let same : place.0 ≡ n = omega (arith, ranked, is) in
    subst (λ i. slice_get ALL i ≡ Some p) same place.1

function_says : (o : Option Primitive) (f : Function) → function_of o ≡ Some f → o ≡ Some (prim.Function f)
function_says None f is = absurd (none-some f is)
function_says (Some (prim.Function g)) f is = ap (λ h. Some (prim.Function h)) (same_Some g f is)
function_says (Some (prim.Arithmetic a)) f is = absurd (none-some f is)

arithmetic_says : (o : Option Primitive) (a : Arithmetic) → arithmetic_of o ≡ Some a → o ≡ Some (prim.Arithmetic a)
arithmetic_says None a is = absurd (none-some a is)
arithmetic_says (Some (prim.Arithmetic b)) a is = ap (λ h. Some (prim.Arithmetic h)) (same_Some b a is)
arithmetic_says (Some (prim.Function f)) a is = absurd (none-some a is)

-- a function is at the place of a number exactly if that is its number
pub function_at : (number place : ℕ) (r : Option Function) → number ≡ suc place → r ≡ function_of (slice_get ALL place) → (f : Function) → (r ≡ Some f) ↔ (function_number f ≡ number)
function_at number place r next r_is f = (
  λ is. let ranked = rank_at 0 ALL all_ranked place (prim.Function f) (function_says (slice_get ALL place) f (sym r_is ∙ is)) in omega (arith, ranked, next),
  λ is. r_is ∙ ap function_of (at_rank (prim.Function f) place (is ∙ next)),
)

pub arithmetic_at : (number place : ℕ) (r : Option Arithmetic) → number ≡ suc place → r ≡ arithmetic_of (slice_get ALL (46 + place)) → (a : Arithmetic) → (r ≡ Some a) ↔ (arithmetic_number a ≡ number)
arithmetic_at number place r next r_is a = (
  λ is. let ranked = rank_at 0 ALL all_ranked (46 + place) (prim.Arithmetic a) (arithmetic_says (slice_get ALL (46 + place)) a (sym r_is ∙ is)) in omega (arith, ranked, next),
  λ is. r_is ∙ ap arithmetic_of (at_rank (prim.Arithmetic a) (46 + place) (omega (arith, is, next))),
)
