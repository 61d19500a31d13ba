-- The table has each opcode at the place that its number names.
use Rattle.std.specs.Prelude.{◌↔◌, slice_get}
use Rattle.std.specs.Cmp.{first_so, second_so}
use Rattle.std.proofs.Common.{◌≡◌, ℕ, suc, zero, ◌+◌, ◌-◌, List, [], ◌∷◌, Bool, true, ◌&&◌, refl, sym, ◌∙◌, ap, Option, Some, nat_eq, arith}
use Rattle.std.proofs.lemmas.Option.{none-some, same_Some}
use Rattle.std.proofs.lemmas.Bool.Decides.{Decides-eqb}
use Rattle.code_writer.specs.Opcodes.{opcode_number}
use Rattle.code_writer.specs.declared.opcode.TheConstants.{ALL}
use Rattle.code_writer.specs.declared.opcode.Opcode.{Opcode}
use Rattle.code_writer.specs.declared.opcode.Opcode.TheVariants as opcode
use Rattle.code_writer.specs.declared.opcode.Bare.TheVariants as bare
use Rattle.code_writer.specs.declared.opcode.Slotted.TheVariants as slotted
use Rattle.code_writer.specs.declared.opcode.Single.TheVariants as single
use Rattle.code_writer.specs.declared.opcode.Double.TheVariants as double

-- these opcodes are at the places from this one on
abbrev are_numbered : ℕ → List Opcode → Bool
are_numbered k [] = true
are_numbered k (o ∷ os) = nat_eq (opcode_number o) (suc k) && are_numbered (suc k) os

all_numbered : are_numbered 0 ALL ≡ true
all_numbered = refl

number_at : (k : ℕ) (os : List Opcode) → are_numbered k os ≡ true → (i : ℕ) (o : Opcode) → slice_get os i ≡ Some o → opcode_number o ≡ suc (k + i)
number_at k [] numbered i o is = absurd (none-some o is)
number_at k (p ∷ os) numbered zero o is =
    let here : opcode_number p ≡ suc k = (Decides-eqb (opcode_number p) (suc k)).0 (first_so (nat_eq (opcode_number p) (suc k)) (are_numbered (suc k) os) numbered) in
    let same : opcode_number p ≡ opcode_number o = ap opcode_number (same_Some p o is) in
    omega (arith, here, same)
number_at k (p ∷ os) numbered (suc i) o is =
    let later = number_at (suc k) os (second_so (nat_eq (opcode_number p) (suc k)) (are_numbered (suc k) os) numbered) i o is in
    omega (arith, later)

-- each opcode is in the table at its number
stands : (o : Opcode) → slice_get ALL (opcode_number o - 1) ≡ Some o
stands (opcode.Bare bare.Load) = refl
stands (opcode.Slotted slotted.Get) = refl
stands (opcode.Single single.Const) = refl
stands (opcode.Double double.Tuple) = refl
stands o = refl

positive : (o : Opcode) → suc (opcode_number o - 1) ≡ opcode_number o
positive (opcode.Bare bare.Load) = refl
positive (opcode.Slotted slotted.Get) = refl
positive (opcode.Single single.Const) = refl
positive (opcode.Double double.Tuple) = refl
positive o = refl

-- an opcode is at a place exactly if its number is one more
pub opcode_at : (number place : ℕ) (r : Option Opcode) → number ≡ suc place → r ≡ slice_get ALL place → (o : Opcode) → (r ≡ Some o) ↔ (opcode_number o ≡ number)
opcode_at number place r next r_is o = (
  λ is. let found = number_at 0 ALL all_numbered place o (sym r_is ∙ is) in omega (arith, found, next),
  λ is. let same : opcode_number o - 1 ≡ place = omega (arith, is, next) in r_is ∙ sym (ap (slice_get ALL) same) ∙ stands o,
)

-- opcodes with equal numbers are equal
pub one_opcode : (o p : Opcode) → opcode_number o ≡ opcode_number p → o ≡ p
one_opcode o p same = same_Some o p (sym (stands o) ∙ ap (λ n. slice_get ALL (n - 1)) same ∙ stands p)
