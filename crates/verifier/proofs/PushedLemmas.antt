-- The state in which a routine begins.
use Rattle.std.specs.Prelude.{ℕ, ◌≡◌, ◌+◌, ◌<◌, ◌≤◌, Bool, List, [], ◌∷◌, length, take, reverse}
use Rattle.std.proofs.Common.{arith, sym, ap, ◌∙◌, get_or}
use Rattle.std.proofs.lemmas.List.{take_more, length-take, length-reverse, reverse-append}
use Rattle.mcode.specs.declared.kind.Kind.{Kind}
use Rattle.verifier_types.specs.Shape.{Shape}

-- the state with the first n of these kinds pushed
abbrev pub pushed : List Kind → List Bool → ℕ → Shape
pushed ks bound n = record { kinds = reverse (take n ks); bound = bound }

pub pushed_more : (ks : List Kind) (bound : List Bool) (n : ℕ) (d : Kind) (s t : Shape) → n < length ks → s ≡ pushed ks bound n → t ≡ record { kinds = get_or ks n d ∷ s.kinds; bound = s.bound } → t ≡ pushed ks bound (n + 1)
pushed_more ks bound n d s t inside is more =
    more ∙ ap (λ u. record { kinds = get_or ks n d ∷ u.kinds; bound = u.bound }) is
    ∙ ap (λ js. record { kinds = js; bound = bound }) (sym (ap reverse (take_more ks n d inside) ∙ reverse-append (take n ks) (get_or ks n d ∷ [])))

-- there is room for one more kind
pub pushed_room : (ks : List Kind) (bound : List Bool) (n : ℕ) (s : Shape) → n < length ks → length ks ≤ 255 → s ≡ pushed ks bound n → length s.kinds + 1 < 65536
pushed_room ks bound n s inside few is =
    omega (arith, inside, few, ap (λ u. length u.kinds) is, length-reverse (take n ks), length-take n ks)
