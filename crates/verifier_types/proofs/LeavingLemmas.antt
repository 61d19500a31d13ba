-- What an instruction leaves.
use Rattle.std.specs.Prelude.{ℕ, ◌≡◌, ◌≢◌, ◌+◌, ◌<◌, ◌≤◌, ◌++◌, IsTrue, Bool, Option, List, [], ◌∷◌, length, drop, slice_get}
use Rattle.std.proofs.Common.{arith, refl, ap, ap₂, ◌∙◌}
use Rattle.std.proofs.lemmas.Bool.{ltb-true}
use Rattle.std.proofs.lemmas.List.{length-append}
use Rattle.verifier_types.specs.declared.TheConstants.{MAX_DEPTH}
use Rattle.term_core.specs.Datum.{Datum, cells}
use Rattle.mcode.specs.Kind.{kind_of}
use Rattle.mcode.specs.Program.{Program}
use Rattle.mcode.specs.declared.instr.Instr.{Instr}
use Rattle.mcode.specs.declared.instr.Instr.TheVariants as instr
use Rattle.mcode.specs.declared.kind.Kind.{Kind}
use Rattle.mcode.specs.declared.kind.Kind.TheVariants as kind
use Rattle.verifier_types.specs.Shape.{Shape}
use Rattle.verifier_types.specs.Effect.{needs, slot_fits, pushed_kinds, left_bound, left_shape}
use Rattle.verifier_types.specs.Leaving.{pushed_for, IsBindable}

-- the kind of a list with elements is Cons
pub kind-cells : (ds : List Datum) (tail : Datum) → 0 < length ds → kind.Cons ≡ kind_of (cells ds tail)
kind-cells [] tail some = absurd (omega arith)
kind-cells (d ∷ ds) tail some = refl

-- the slot that an instruction binds is one of the code's
pub bindable : (p : Program) (i : Instr) (bound : List Bool) (n : ℕ) → IsTrue (slot_fits p i bound) → n ≡ p.slots → IsBindable i n
bindable p (instr.Bind v) bound n fits same =
    let below : v < p.slots = ltb-true v p.slots fits in
    omega (arith, below, same)
bindable p i bound n fits same = tt

-- the kinds that are pushed depend only on the kind at the top
pushed_for-top : (p : Program) (i : Instr) (ks : List Kind) → pushed_for p i (slice_get ks 0) ≡ pushed_kinds p i ks
pushed_for-top p instr.Dup [] = refl
pushed_for-top p instr.Dup (k ∷ ks) = refl
pushed_for-top p i ks = refl

pub left_is : (p : Program) (i : Instr) (s t u v : Shape) (n : ℕ) (top : Option Kind) (ks : List Kind) → n ≡ needs p i → top ≡ slice_get s.kinds 0 → ks ≡ pushed_for p i top → t ≡ record { kinds = drop n s.kinds; bound = s.bound } → u ≡ record { kinds = ks ++ t.kinds; bound = t.bound } → v ≡ record { kinds = u.kinds; bound = left_bound i u.bound } → v ≡ left_shape p i s
left_is p i s t u v n top ks count first pushed popped more bound =
    let front : ks ≡ pushed_kinds p i s.kinds = pushed ∙ ap (pushed_for p i) first ∙ pushed_for-top p i s.kinds in
    bound ∙ ap (λ w. record { kinds = w.kinds; bound = left_bound i w.bound }) (more ∙ ap (λ w. record { kinds = ks ++ w.kinds; bound = w.bound }) popped)
    ∙ ap₂ (λ js m. record { kinds = js ++ drop m s.kinds; bound = left_bound i s.bound }) front count

pub bound_kept : (s t u : Shape) (n m : ℕ) (ks : List Kind) → t ≡ record { kinds = drop n s.kinds; bound = s.bound } → u ≡ record { kinds = ks ++ t.kinds; bound = t.bound } → length s.bound ≡ m → length u.bound ≡ m
bound_kept s t u n m ks popped more long = ap (λ w. length w.bound) more ∙ ap (λ w. length w.bound) popped ∙ long

-- there is room for what is pushed
pub room_left : (p : Program) (i : Instr) (s t : Shape) (n : ℕ) → n ≡ needs p i → t ≡ record { kinds = drop n s.kinds; bound = s.bound } → length (left_shape p i s).kinds ≤ MAX_DEPTH → length t.kinds + 2 < 65536
room_left p i s t n count popped low =
    let left = length-append (pushed_kinds p i s.kinds) (drop (needs p i) s.kinds) in
    let same : length t.kinds ≡ length (drop (needs p i) s.kinds) = ap (λ u. length u.kinds) popped ∙ ap (λ m. length (drop m s.kinds)) count in
    omega (arith, left, same, low)
