-- Constants that are lists of keys, and the kinds at the top.
use Rattle.std.specs.Prelude.{◌≡◌, Bool, if◌then◌else◌, List, ◌∷◌, slice_get}
use Rattle.std.proofs.Common.{refl, ◌∙◌}
use Rattle.mcode.specs.declared.instr.Instr.{Instr}
use Rattle.mcode.specs.declared.instr.Instr.TheVariants as instr
use Rattle.mcode.specs.declared.kind.Kind.{Kind}
use Rattle.mcode.specs.declared.kind.Kind.TheVariants as kind
use Rattle.verifier_types.specs.Effect.{kinds_fit}
use Rattle.verifier_types.specs.Needed.{tops_fit}

-- the kinds fit if the two kinds at the top do
pub tops_fit-kinds : (i : Instr) (ks : List Kind) → tops_fit i (slice_get ks 0) (slice_get ks 1) ≡ kinds_fit i ks
tops_fit-kinds (instr.Field n) (kind.Tuple m ∷ ks) = refl
tops_fit-kinds instr.Head (kind.Cons ∷ ks) = refl
tops_fit-kinds instr.Tail (kind.Cons ∷ ks) = refl
tops_fit-kinds (instr.Value c l) (kind.Map ∷ ks) = refl
tops_fit-kinds (instr.Arith f l) (kind.Int ∷ kind.Int ∷ ks) = refl
tops_fit-kinds (instr.Branch l) (kind.Bool ∷ ks) = refl
tops_fit-kinds i ks = refl
