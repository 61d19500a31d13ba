-- The objects of rows, class by class.
use Rattle.std.proofs.Common.{◌≡◌, ℕ, ◌<◌, ◌≤◌, ◌+◌, List, [], ◌∷◌, ◌++◌, refl, ap, sym, ◌∙◌, length, take, get_or, append_assoc}
use Rattle.std.specs.Prelude.{Bool, true, false, ◌==◌, if◌then◌else◌}
use Rattle.std.proofs.lemmas.List.{append-nil, take_more, take_all}
use Rattle.std.proofs.lemmas.List.Concat.{flat_map-append}
use Rattle.std.proofs.lemmas.List.Elements.{filter-append}
use Rattle.term_core.specs.Datum.{Datum}
use Rattle.part_core.specs.declared.settings.Settings.{Settings}
use Rattle.part_core.specs.Settings.{class_at}
use Rattle.part_core.specs.Rows.{Row}
use Rattle.part_core.specs.Visits.{in_class}
use Rattle.part_engine.proofs.WalkLemmas.{all_objects}

-- ---- the rows of a class

class_more : (o : Settings) (base class : ℕ) (rows : List Row) (r : Row) → all_objects (in_class o base class (rows ++ r ∷ [])) ≡ all_objects (in_class o base class rows) ++ (if class_at o base r.0 == class then r.1 else [])
class_more o base class rows r =
    ap all_objects (filter-append (λ (v : Row). class_at o base v.0 == class) rows (r ∷ []))
    ∙ flat_map-append (λ (v : Row). v.1) (in_class o base class rows) (in_class o base class (r ∷ []))
    ∙ ap (λ xs. all_objects (in_class o base class rows) ++ xs) (of (class_at o base r.0 == class))
  where
    of : (b : Bool) → all_objects (if b then r ∷ [] else []) ≡ (if b then r.1 else [])
    of true = append-nil r.1
    of false = refl

pub gathered_next : (o : Settings) (base class : ℕ) (rows : List Row) (i : ℕ) (row : Row) (initial before after : List Datum) → i < length rows → row ≡ get_or rows i row → before ≡ initial ++ all_objects (in_class o base class (take i rows)) → after ≡ before ++ (if class_at o base row.0 == class then row.1 else []) → after ≡ initial ++ all_objects (in_class o base class (take (i + 1) rows))
gathered_next o base class rows i row initial before after within is so_far more =
    let own : List Datum = if class_at o base row.0 == class then row.1 else [] in
    more ∙ ap (λ xs. xs ++ own) so_far
    ∙ append_assoc initial (all_objects (in_class o base class (take i rows))) own
    ∙ ap (λ xs. initial ++ xs) (sym (class_more o base class (take i rows) row))
    ∙ ap (λ r. initial ++ all_objects (in_class o base class (take i rows ++ r ∷ []))) is
    ∙ ap (λ rs. initial ++ all_objects (in_class o base class rs)) (sym (take_more rows i row within))

pub gathered_all : (o : Settings) (base class : ℕ) (rows : List Row) (i : ℕ) (initial found : List Datum) → length rows ≤ i → found ≡ initial ++ all_objects (in_class o base class (take i rows)) → found ≡ initial ++ all_objects (in_class o base class rows)
gathered_all o base class rows i initial found over is =
    is ∙ ap (λ rs. initial ++ all_objects (in_class o base class rs)) (take_all i rows over)
