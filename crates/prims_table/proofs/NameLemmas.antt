-- Names in the table are unique: no two functions have the same name and take the same number of arguments.
use Rattle.std.proofs.Common.{◌≡◌, ℕ, List, [], ◌∷◌, Bool, true, false, cond, ◌&&◌, refl, sym, ◌∙◌, subst, ap, Option, Some, None, nat_eq}
use Rattle.std.specs.Prelude.{◌↔◌, IsTrue}
use Rattle.std.specs.Cmp.{first_so, second_so}
use Rattle.std.specs.Cmp.Lexicographic.{pointwise, bytes_decides}
use Rattle.std.proofs.lemmas.Option.{none-some, same_Some}
use Rattle.std.proofs.lemmas.Bool.Decides.{Decides-eqb}
use Rattle.prims_table.specs.Names.{name_of, arity_of, takes, found}
use Rattle.prims_table.specs.PrimitiveCode.{found_at}
use Rattle.prims_table.specs.declared.names.TheConstants.{ALL}
use Rattle.prims_table.specs.declared.prim.Primitive.{Primitive}
use Rattle.prims_table.specs.declared.prim.Primitive.TheVariants as prim
use Rattle.prims_table.specs.declared.prim.Function.TheVariants as function
use Rattle.prims_table.specs.declared.prim.BooleanFunction.TheVariants as boolean

found_itself : (p : Primitive) (n : ℕ) → takes p n ≡ true → found (name_of p) n ALL ≡ Some p
found_itself (prim.Function (function.Boolean boolean.And)) n takes_n = ap (λ b. cond b (Some (prim.Function (function.Boolean boolean.And))) None) takes_n
found_itself (prim.Function (function.Boolean boolean.Or)) n takes_n = ap (λ b. cond b (Some (prim.Function (function.Boolean boolean.Or))) None) takes_n
found_itself p n takes_n =
    subst (λ m. found (name_of p) m ALL ≡ Some p) (sym ((Decides-eqb n (arity_of p)).0 takes_n)) (found_at p)

-- what is found has the name and takes n arguments
found_says : (cs : List ℕ) (n : ℕ) (functions : List Primitive) (p : Primitive) → found cs n functions ≡ Some p → (name_of p ≡ cs) × (takes p n ≡ true)
found_says cs n [] p e = absurd (none-some p e)
found_says cs n (first ∷ rest) p e =
    by (pointwise nat_eq (name_of first) cs && takes first n) refl (found_says cs n rest p) e
  where
    by : (b : Bool) → (pointwise nat_eq (name_of first) cs && takes first n) ≡ b → (found cs n rest ≡ Some p → (name_of p ≡ cs) × (takes p n ≡ true)) → cond b (Some first) (found cs n rest) ≡ Some p → (name_of p ≡ cs) × (takes p n ≡ true)
    by true passes later e =
        subst (λ f. (name_of f ≡ cs) × (takes f n ≡ true)) (same_Some first p e)
        ((bytes_decides (name_of first) cs).0 (first_so (pointwise nat_eq (name_of first) cs) (takes first n) passes), second_so (pointwise nat_eq (name_of first) cs) (takes first n) passes)
    by false passes later e = later e

-- a function is found by a name and a number of arguments exactly if it has them
pub named_is : (cs : List ℕ) (n : ℕ) (r : Option Primitive) → r ≡ found cs n ALL → (p : Primitive) → (r ≡ Some p) ↔ ((name_of p ≡ cs) × IsTrue (takes p n))
named_is cs n r r_is p =
    (λ e. found_says cs n ALL p (sym r_is ∙ e), λ h. r_is ∙ subst (λ ds. found ds n ALL ≡ Some p) h.0 (found_itself p n h.1))
