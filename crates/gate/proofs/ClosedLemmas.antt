-- Gates and their passes, both taken from the end.
use Rattle.std.proofs.Common.{◌≡◌, ◌<◌, ◌++◌, List, [], ◌∷◌, length, map, refl, ap, sym, ◌∙◌, arith, Option, Some, None, IsSome}
use Rattle.std.specs.Option.{option_to_list}
use Rattle.std.proofs.lemmas.Bool.{false≢true}
use Rattle.std.proofs.lemmas.List.{map-append, length-append, length-map}

pub last_two : {X : Type 0} (xs ys : List X) (x y : X) → xs ++ x ∷ [] ≡ ys ++ y ∷ [] → (xs ≡ ys) × (x ≡ y)
last_two [] [] x y e = (refl, cc)
last_two [] (b ∷ ys) x y e = absurd (omega (arith, ap length e, length-append ys (y ∷ [])))
last_two (a ∷ xs) [] x y e = absurd (omega (arith, ap length e, length-append xs (x ∷ [])))
last_two (a ∷ xs) (b ∷ ys) x y e =
    let head : a ≡ b = cc in
    let tail : xs ++ x ∷ [] ≡ ys ++ y ∷ [] = cc in
    let rest = last_two xs ys x y tail in ((λ i. head i ∷ rest.0 i), rest.1)

-- there are as many passes as gates
module _ {T G : Type 0} (f : T → G) (ps ps' : List T) (gs gs' : List G) (g : G) (made : map f ps ≡ gs) (gates : gs ≡ gs' ++ g ∷ []) where
  pub passes_left : 0 < length ps
  passes_left = omega (arith, length-map ps f, ap length made, ap length gates, length-append gs' (g ∷ []))

  pub last_made : (p : T) → ps ≡ ps' ++ p ∷ [] → (map f ps' ≡ gs') × (f p ≡ g)
  last_made p passes = last_two (map f ps') gs' (f p) g (sym (map-append f ps' (p ∷ [])) ∙ ap (map f) (sym passes) ∙ made ∙ gates)

  pub made_still : (r : Option T) → ps ≡ ps' ++ option_to_list r → (0 < length ps → IsSome r) → map f ps' ≡ gs'
  made_still None passes some = absurd (false≢true (some passes_left))
  made_still (Some p) passes some = (last_made p passes).0
