-- The rows at places, one place after the other.
use Rattle.std.proofs.Common.{◌≡◌, ℕ, ◌<◌, ◌+◌, List, [], ◌∷◌, ◌++◌, ap, sym, ◌∙◌, length, length-append, take, get_or, append_assoc, arith}
use Rattle.std.specs.Prelude.{min, Option, filter_map}
use Rattle.std.proofs.lemmas.List.{take_more}
use Rattle.std.proofs.lemmas.List.Concat.{flat_map-append}
use Rattle.std.proofs.lemmas.List.Elements.{filter_map-append}
use Rattle.term_core.specs.Datum.{Datum}
use Rattle.term_core.specs.Datum.Datum.{integer, atom, tuple, map, nil, cons, binary}
use Rattle.term_core.specs.Limits.{depth}
use Rattle.mcode.specs.Program.{Program}
use Rattle.part_core.specs.Acts.{Purpose}
use Rattle.part_core.specs.Replies.{most_counted}
use Rattle.part_core.specs.Rows.{Row}
use Rattle.part_core.specs.Visits.{yields, yield_of_rows}
use Rattle.part_rows.specs.declared.place.Place.{Place}

-- each term has a depth
pub deep : (d : Datum) → 0 < depth d
deep (integer z) = omega arith
deep (atom cs) = omega arith
deep (tuple ds) = omega arith
deep (map es) = omega arith
deep nil = omega arith
deep (cons head tail) = omega arith
deep (binary bs) = omega arith

-- what the rows at one more place add
more_rows : (purpose : Purpose) (p : Program) (f : Place → Option Row) (places : List Place) (i : ℕ) (place default : Place) → i < length places → place ≡ get_or places i default → yield_of_rows purpose p (filter_map f (take (i + 1) places)) ≡ yield_of_rows purpose p (filter_map f (take i places)) ++ yield_of_rows purpose p (filter_map f (place ∷ []))
more_rows purpose p f places i place default within is =
    ap (λ ps. yield_of_rows purpose p (filter_map f ps)) (take_more places i default within ∙ ap (λ q. take i places ++ q ∷ []) (sym is))
    ∙ ap (yield_of_rows purpose p) (filter_map-append f (take i places) (place ∷ []))
    ∙ flat_map-append (λ (r : Row). yields purpose p r.1) (filter_map f (take i places)) (filter_map f (place ∷ []))

pub given_there : (purpose : Purpose) (p : Program) (f : Place → Option Row) (places : List Place) (i : ℕ) (place default : Place) (initial before after : List Datum) → i < length places → place ≡ get_or places i default → before ≡ initial ++ yield_of_rows purpose p (filter_map f (take i places)) → after ≡ before ++ yield_of_rows purpose p (filter_map f (place ∷ [])) → after ≡ initial ++ yield_of_rows purpose p (filter_map f (take (i + 1) places))
given_there purpose p f places i place default initial before after within is so_far more =
    more ∙ ap (λ xs. xs ++ yield_of_rows purpose p (filter_map f (place ∷ []))) so_far
    ∙ append_assoc initial (yield_of_rows purpose p (filter_map f (take i places))) (yield_of_rows purpose p (filter_map f (place ∷ [])))
    ∙ ap (λ xs. initial ++ xs) (sym (more_rows purpose p f places i place default within is))

-- a total that is limited to the greatest number that is counted
capped : (sum more before after most whole : ℕ) → before ≡ min sum most → after ≡ min (before + more) most → whole ≡ sum + more → after ≡ min whole most
capped sum more before after most whole a b c = omega (arith, a, b, c)

pub total_there : (purpose : Purpose) (p : Program) (f : Place → Option Row) (places : List Place) (i : ℕ) (place default : Place) (before count after : ℕ) → i < length places → place ≡ get_or places i default → before ≡ min (length (yield_of_rows purpose p (filter_map f (take i places)))) most_counted → count ≡ length (yield_of_rows purpose p (filter_map f (place ∷ []))) → after ≡ min (before + count) most_counted → after ≡ min (length (yield_of_rows purpose p (filter_map f (take (i + 1) places)))) most_counted
total_there purpose p f places i place default before count after within is so_far given more =
    capped (length (yield_of_rows purpose p (filter_map f (take i places)))) count before after most_counted _ so_far more
    (ap length (more_rows purpose p f places i place default within is)
    ∙ length-append (yield_of_rows purpose p (filter_map f (take i places))) (yield_of_rows purpose p (filter_map f (place ∷ [])))
    ∙ ap (λ n. length (yield_of_rows purpose p (filter_map f (take i places))) + n) (sym given))
