-- Paths in code whose jumps go forward, and what they count.
use Rattle.std.proofs.Common.{◌≡◌, ℕ, ◌+◌, ◌<◌, ◌≤◌, List, [], ◌∷◌, length, slice_get, arith, ap, ap₂, refl, inl, inr}
use Rattle.mcode.specs.Program.{Program}
use Rattle.mcode.specs.declared.instr.Instr.{Instr}
use Rattle.mcode.specs.declared.instr.Instr.TheVariants as instr
use Rattle.budget.specs.Paths.{IsAt, HasEdge, IsPathFrom, AreJumpsForward, weight, weight_of, counted}
use Rattle.budget.specs.Paths.IsPathFrom.{alone, onward}

-- an edge leads to a later instruction
pub edge_rises : {p : Program} {a b : ℕ} → AreJumpsForward p → HasEdge p a b → a < b
edge_rises {p} {a} {b} forward edge = elim edge.leads [
  | inl next ↦ omega (arith, next.1)
  | inr jumps ↦ (forward a b edge.instr edge.here jumps).0
]

-- a path has at most as many instructions as there are from its first on
pub path_fits : {p : Program} {a : ℕ} {path : List ℕ} → AreJumpsForward p → IsPathFrom p a path → a + length path ≤ length p.instructions
path_fits forward (alone inside) = omega arith
path_fits forward (onward edge rest) =
    let later = edge_rises forward edge in
    let fits = path_fits forward rest in
    omega arith

-- an instruction counts at least itself
pub weight_some : (budgets : List ℕ) (i : Instr) → 0 < weight budgets i
weight_some budgets (instr.Invoke r l) = omega arith
weight_some budgets i = omega arith

-- a path along an edge counts the instruction and the rest
pub counted_at : (p : Program) (budgets : List ℕ) (a : ℕ) (i : Instr) (path : List ℕ) → IsAt p a i → counted p budgets (a ∷ path) ≡ weight budgets i + counted p budgets path
counted_at p budgets a i path here = ap (λ o. weight_of budgets o + counted p budgets path) here

-- a path counts the same in code with the same instructions
pub counted_moves : (p q : Program) (budgets : List ℕ) (path : List ℕ) → p.instructions ≡ q.instructions → counted p budgets path ≡ counted q budgets path
counted_moves p q budgets [] same = refl
counted_moves p q budgets (a ∷ path) same =
    ap₂ (λ is n. weight_of budgets (slice_get is a) + n) same (counted_moves p q budgets path same)
