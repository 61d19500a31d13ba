-- The order of terms, one step at a time.
use Rattle.std.proofs.Common.{◌≡◌, ℕ, ℤ, ◌<◌, List, [], ◌∷◌, length, drop, length-drop, subst, arith, Bor, Option, Some, None, MatchOption, refl}
use Rattle.std.specs.declared.cmp.Ordering.{Ordering}
use Rattle.std.specs.declared.cmp.Ordering.TheVariants.{Less, Equal, Greater}
use Rattle.std.specs.Ordering.{nat_cmp, int_cmp, ordering_then}
use Rattle.std.specs.Cmp.Lexicographic.{slice_cmp}
use Rattle.term_core.specs.Datum.{Datum, cells}
use Rattle.term_core.specs.Datum.Datum.{integer, atom, tuple, map, cons, binary}
use Rattle.std.specs.Option.{option_copied}
use Rattle.term_core.specs.Term.{tail_of}
use Rattle.term_core.specs.Order.{rank, datum_cmp}
use Rattle.term_core.specs.View.{shown, IsSplit}
use Rattle.term_operand.specs.Order.{AreDecided, IsSimple}
use Rattle.term_core.specs.declared.view.View.{View}
use Rattle.term_core.specs.declared.view.View.TheVariants as view

pub datum_cmp-integer : (a b : ℤ) → datum_cmp (integer a) (integer b) ≡ int_cmp a b
unfolding datum_cmp
datum_cmp-integer a b = refl

pub datum_cmp-atom : (a b : List ℕ) → datum_cmp (atom a) (atom b) ≡ slice_cmp nat_cmp a b
unfolding datum_cmp
datum_cmp-atom a b = refl

pub datum_cmp-cons : (a b d e : Datum) → datum_cmp (cons a d) (cons b e) ≡ ordering_then (datum_cmp a b) (datum_cmp d e)
unfolding datum_cmp
datum_cmp-cons a b d e = refl

-- two terms that are neither two integers nor two atoms
abbrev pub AreOther : Datum → Datum → Type 0
AreOther (integer a) (integer b) = ⊥
AreOther (atom a) (atom b) = ⊥
AreOther d e = Unit {0}

-- a list with elements is neither an integer nor an atom
integer_beside_cells : (z : ℤ) (ds : List Datum) (tail : Datum) → 0 < length ds → AreOther (integer z) (cells ds tail)
integer_beside_cells z [] tail some = absurd (omega arith)
integer_beside_cells z (d ∷ ds) tail some = tt

atom_beside_cells : (cs : List ℕ) (ds : List Datum) (tail : Datum) → 0 < length ds → AreOther (atom cs) (cells ds tail)
atom_beside_cells cs [] tail some = absurd (omega arith)
atom_beside_cells cs (d ∷ ds) tail some = tt

cells_beside : (ds : List Datum) (tail d : Datum) → 0 < length ds → AreOther (cells ds tail) d
cells_beside [] tail d some = absurd (omega arith)
cells_beside (e ∷ ds) tail d some = tt

-- a view that is not of an integer shows no integer
pub beside_integer : {A : Type 0} (z : ℤ) (v : View A) → IsSplit v → ((x : ℤ) → v ≡ view.Integer x → ⊥) → AreOther (integer z) (shown v)
beside_integer z (view.Integer x) split other = other x refl
beside_integer z (view.List ds tail) split other = integer_beside_cells z ds.now _ split.0
beside_integer z v split other = tt

pub beside_atom : {A : Type 0} (cs : List ℕ) (v : View A) → IsSplit v → ((x : Bor (List ℕ)) → v ≡ view.Atom x → ⊥) → AreOther (atom cs) (shown v)
beside_atom cs (view.Atom x) split other = other x refl
beside_atom cs (view.List ds tail) split other = atom_beside_cells cs ds.now _ split.0
beside_atom cs v split other = tt

pub beside_any : {A : Type 0} (u v : View A) → IsSplit u → ((x : ℤ) → u ≡ view.Integer x → ⊥) → ((x : Bor (List ℕ)) → u ≡ view.Atom x → ⊥) → AreOther (shown u) (shown v)
beside_any (view.Integer x) v split integers atoms = absurd (integers x refl)
beside_any (view.Atom x) v split integers atoms = absurd (atoms x refl)
beside_any (view.List ds tail) v split integers atoms = cells_beside ds.now _ (shown v) split.0
beside_any u v split integers atoms = tt

pub datum_cmp-rank : (a b : Datum) → AreDecided a b → AreOther a b → datum_cmp a b ≡ nat_cmp (rank a) (rank b)
unfolding datum_cmp
datum_cmp-rank (integer a) (integer b) decided other = absurd other
datum_cmp-rank (atom a) (atom b) decided other = absurd other
datum_cmp-rank (tuple a) (tuple b) decided other = absurd decided
datum_cmp-rank (map a) (map b) decided other = absurd decided
datum_cmp-rank (cons a d) (cons b e) decided other = absurd decided
datum_cmp-rank (binary a) (binary b) decided other = absurd decided
datum_cmp-rank a b decided other = refl

-- cells whose heads are equal compare as their tails do
pub datum_cmp-cons_equal : (a b d e l r : Datum) (o : Ordering) → cons a d ≡ l → cons b e ≡ r → o ≡ datum_cmp a b → o ≡ Equal → datum_cmp d e ≡ datum_cmp l r
datum_cmp-cons_equal a b d e l r o l_is r_is o_is equal =
    rw (← l_is, ← r_is, datum_cmp-cons a b d e, ← o_is, equal)

-- cells whose heads differ compare as their heads do
pub datum_cmp-cons_other : (a b d e l r : Datum) (o : Ordering) → cons a d ≡ l → cons b e ≡ r → o ≡ datum_cmp a b → ¬ (o ≡ Equal) → o ≡ datum_cmp l r
datum_cmp-cons_other a b d e l r o l_is r_is o_is other =
    rw (← l_is, ← r_is, datum_cmp-cons a b d e, ← o_is) (first o other)
  where
    first : (o : Ordering) → ¬ (o ≡ Equal) → o ≡ ordering_then o (datum_cmp d e)
    first Less other = refl
    first Equal other = absurd (other refl)
    first Greater other = refl

-- a list with elements is no tuple, map or binary
pub IsSimple-cells : (ds : List Datum) (tail : Datum) → 0 < length ds → IsSimple (cells ds tail)
IsSimple-cells [] tail some = absurd (omega arith)
IsSimple-cells (d ∷ ds) tail some = tt

-- the rest after fewer elements than there are is a list with elements
pub IsSimple-within : (n : ℕ) (ds : List Datum) (tail d : Datum) → n < length ds → cells (drop n ds) tail ≡ d → IsSimple d
IsSimple-within n ds tail d within is = subst IsSimple is (IsSimple-cells (drop n ds) tail (omega (arith, length-drop n ds)))

-- a tail, or [] where there is none
pub whole_tail : (o : Option (Bor Datum)) (d : Datum) → tail_of (option_copied o) ≡ d → MatchOption o (IsSimple d) (λ t. t.now ≡ d)
whole_tail None d is = subst IsSimple is tt
whole_tail (Some t) d is = is
