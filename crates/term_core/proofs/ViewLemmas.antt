-- Which kind a view is of.
use Rattle.std.proofs.Common.{◌≡◌, ℕ, ℤ, List, [], ◌∷◌, ◌<◌, Option, length, refl, sym, ap, ◌∙◌, arith}
use Rattle.std.specs.Borrow.{Bor}
use Rattle.term_core.specs.Datum.{Datum, cells}
use Rattle.term_core.specs.Order.{rank}
use Rattle.term_core.specs.View.{shown, IsSplit}
use Rattle.term_core.specs.declared.view.View.{View}
use Rattle.term_core.specs.declared.view.View.TheVariants as view

-- the rank of the term that a view shows
abbrev pub view_rank : {A : Type 0} → View A → ℕ
view_rank (view.Integer z) = 0
view_rank (view.Atom cs) = 1
view_rank (view.Tuple ds) = 2
view_rank (view.Map es) = 3
view_rank view.Nil = 4
view_rank (view.List ds tail) = 5
view_rank (view.Binary bs) = 6

pub rank-cells : (ds : List Datum) (tail : Datum) → 0 < length ds → rank (cells ds tail) ≡ 5
rank-cells [] tail h = absurd (omega arith)
rank-cells (d ∷ ds) tail h = refl

pub rank-shown : {A : Type 0} (v : View A) → IsSplit v → rank (shown v) ≡ view_rank v
rank-shown (view.List ds tail) h = rank-cells ds.now _ h.0
rank-shown v h = refl

pub not_integer : {A : Type 0} (v : View A) → ((z : ℤ) → v ≡ view.Integer z → ⊥) → view_rank v ≡ 0 → ⊥
not_integer (view.Integer z) h e = h z refl
not_integer v h e = omega arith

pub not_atom : {A : Type 0} (v : View A) → ((cs : Bor (List ℕ)) → v ≡ view.Atom cs → ⊥) → view_rank v ≡ 1 → ⊥
not_atom (view.Atom cs) h e = h cs refl
not_atom v h e = omega arith

pub not_tuple : {A : Type 0} (v : View A) → ((ds : Bor (List Datum)) → v ≡ view.Tuple ds → ⊥) → view_rank v ≡ 2 → ⊥
not_tuple (view.Tuple ds) h e = h ds refl
not_tuple v h e = omega arith

pub not_map : {A : Type 0} (v : View A) → ((es : Bor (List (Datum × Datum))) → v ≡ view.Map es → ⊥) → view_rank v ≡ 3 → ⊥
not_map (view.Map es) h e = h es refl
not_map v h e = omega arith

pub not_list : {A : Type 0} (v : View A) → ((ds : Bor (List Datum)) (tail : Option (Bor Datum)) → v ≡ view.List ds tail → ⊥) → view_rank v ≡ 5 → ⊥
not_list (view.List ds tail) h e = h ds tail refl
not_list v h e = omega arith

pub not_binary : {A : Type 0} (v : View A) → ((bs : Bor (List ℕ)) → v ≡ view.Binary bs → ⊥) → view_rank v ≡ 6 → ⊥
not_binary (view.Binary bs) h e = h bs refl
not_binary v h e = omega arith

-- the kind that two terms share, given the view of one of them
pub shared_rank : {A : Type 0} (v : View A) (a b c : Datum) → shown v ≡ b → IsSplit v → c ≡ a → rank a ≡ rank b → view_rank v ≡ rank c
shared_rank v a b c seen split is same = sym (rank-shown v split) ∙ ap rank seen ∙ sym same ∙ sym (ap rank is)
