-- The objects of one row, for some of which the query returns true.
use Rattle.std.proofs.Common.{◌≡◌, ℕ, ◌+◌, ◌-◌, ◌≤◌, List, [], ◌∷◌, refl, ap, length, arith}
use Rattle.std.specs.Prelude.{Bool, true, false, not, if◌then◌else◌, filter}
use Rattle.std.specs.List.{list_any}
use Rattle.term_core.specs.Datum.{Datum}
use Rattle.mcode.specs.Program.{Program}
use Rattle.part_core.specs.Visits.{is_true}
use Rattle.part_core.proofs.KeyLemmas.{by_test}
use Rattle.part_engine.specs.Deletions.{rows_left}

-- the objects for which the query returns true, and the others, are all
both_counts : (p : Program) (os : List Datum) → length os ≡ length (filter (λ t. not (is_true p t)) os) + length (filter (is_true p) os)
both_counts p [] = refl
both_counts p (t ∷ os) =
    by_test (is_true p t) _
    (λ true. rw true (omega (arith, both_counts p os)))
    (λ other. rw other (omega (arith, both_counts p os)))

-- at most as many objects are kept as there were
pub kept_few : (p : Program) (os kept : List Datum) (n : ℕ) → kept ≡ filter (λ t. not (is_true p t)) os → n ≡ length kept → n ≤ length os
kept_few p os kept n is count = omega (arith, count, ap length is, both_counts p os)

pub others_go : (p : Program) (os kept : List Datum) (n : ℕ) → kept ≡ filter (λ t. not (is_true p t)) os → n ≡ length kept → length os - n ≡ length (filter (is_true p) os)
others_go p os kept n is count = omega (arith, count, ap length is, both_counts p os)

none_true : (p : Program) (os : List Datum) → length (filter (is_true p) os) ≡ 0 → list_any (is_true p) os ≡ false
none_true p [] none = refl
none_true p (t ∷ os) none =
    by_test (is_true p t) _
    (λ holds. let one = rw holds at none in absurd (omega (arith, one)))
    (λ other. rw other (none_true p os (rw other at none)))

some_true : (p : Program) (os : List Datum) → (length (filter (is_true p) os) ≡ 0 → ⊥) → list_any (is_true p) os ≡ true
some_true p [] some = absurd (some refl)
some_true p (t ∷ os) some =
    by_test (is_true p t) _ (λ holds. rw holds refl) (λ other. rw other (some_true p os (rw other at some)))

left_by : (p : Program) (k : Datum) (os : List Datum) (b : Bool) → list_any (is_true p) os ≡ b → rows_left p ((k, os) ∷ []) ≡ (if b then (k, filter (λ t. not (is_true p t)) os) ∷ [] else [])
left_by p k os true is = rw is refl
left_by p k os false is = rw is refl

-- nothing is written of a row if the query returns true for no object
pub left_none : (p : Program) (k : Datum) (os : List Datum) → length (filter (is_true p) os) ≡ 0 → rows_left p ((k, os) ∷ []) ≡ []
left_none p k os none = left_by p k os false (none_true p os none)

-- otherwise the remaining objects of the row are written
pub left_some : (p : Program) (k : Datum) (os : List Datum) → (length (filter (is_true p) os) ≡ 0 → ⊥) → rows_left p ((k, os) ∷ []) ≡ (k, filter (λ t. not (is_true p t)) os) ∷ []
left_some p k os some = left_by p k os true (some_true p os some)
