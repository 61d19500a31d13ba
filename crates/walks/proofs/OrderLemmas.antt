-- A walk without named keys looks at each row once, in walk order.
use Rattle.std.proofs.Common.{◌≡◌, ◌<◌, ◌+◌, ◌-◌, ℕ, zero, suc, List, [], ◌∷◌, ◌++◌, refl, sym, ◌∙◌, ap, arith, flat_map, map, None}
use Rattle.std.specs.Prelude.{if◌then◌else◌, true, false, Bool}
use Rattle.std.specs.List.{range_with_len}
use Rattle.std.proofs.lemmas.List.{append-nil}
use Rattle.std.proofs.lemmas.List.Concat.{flat_map-append}
use Rattle.part_core.specs.Settings.{is_ordered}
use Rattle.part_core.specs.Rows.{Row}
use Rattle.part_core.specs.Visits.{walk_order, in_class, next_class}
use Rattle.tables.specs.Options.{settings_of}
use Rattle.tables.specs.OneThread.{TableState}
use Rattle.walks.specs.OneThread.{table_rows}
use Rattle.walks.specs.Sights.{Sight, goes_on, part_sights, class_sights, row_sights, rows_seen, whole}

-- visits that each look at the rows of one thing look at the rows of all things
seen_each : {X : Type 0} (sight : X → Sight) (rows : X → List Row) → ((x : X) → (sight x).rows ≡ rows x) → (xs : List X) → rows_seen (map sight xs) ≡ flat_map rows xs
seen_each sight rows same [] = refl
seen_each sight rows same (x ∷ xs) =
    ap (λ rs. rs ++ rows_seen (map sight xs)) (same x) ∙ ap (λ rs. rows x ++ rs) (seen_each sight rows same xs)

seen_all : {X : Type 0} (sights : X → List Sight) (rows : X → List Row) → ((x : X) → rows_seen (sights x) ≡ rows x) → (xs : List X) → rows_seen (flat_map sights xs) ≡ flat_map rows xs
seen_all sights rows same [] = refl
seen_all sights rows same (x ∷ xs) =
    flat_map-append (λ v. v.rows) (sights x) (flat_map sights xs)
    ∙ ap (λ rs. rs ++ rows_seen (flat_map sights xs)) (same x)
    ∙ ap (λ rs. rows x ++ rs) (seen_all sights rows same xs)

singles : (rows : List Row) → flat_map (λ r. r ∷ []) rows ≡ rows
singles [] = refl
singles (r ∷ rs) = ap (λ xs. r ∷ xs) (singles rs)

rows_in_order : (t : TableState) (part : ℕ) (rows : List Row) → rows_seen (row_sights t part rows) ≡ rows
rows_in_order t part rows =
    flat_map-append (λ v. v.rows) (map _ rows) _
    ∙ append-nil (rows_seen (map _ rows))
    ∙ seen_each _ (λ r. r ∷ []) (λ r. refl) rows
    ∙ singles rows

classes_in_order : (t : TableState) (part base : ℕ) → rows_seen (class_sights t part base 0) ≡ flat_map (λ class. in_class (settings_of t.options) base class (t.states part).rows) (range_with_len 0 base)
classes_in_order t part base =
    let all : base - 0 ≡ base = omega arith in
    ap (λ n. rows_seen (map sight (range_with_len 0 n))) all ∙ seen_each sight _ (λ c. refl) (range_with_len 0 base)
  where
    sight : ℕ → Sight
    sight c = record { rows = in_class (settings_of t.options) base c (t.states part).rows; behind = goes_on t part (next_class base c) }

part_in_order : (t : TableState) (part : ℕ) → rows_seen (part_sights t part None) ≡ walk_order (settings_of t.options) (t.states part).base (t.states part).rows
unfolding walk_order
part_in_order t part = by (is_ordered t.options.kind)
  where
    by : (b : Bool) → rows_seen (if b then row_sights t part (t.states part).rows else class_sights t part (t.states part).base 0) ≡ (if b then (t.states part).rows else flat_map (λ class. in_class (settings_of t.options) (t.states part).base class (t.states part).rows) (range_with_len 0 (t.states part).base))
    by true = rows_in_order t part (t.states part).rows
    by false = classes_in_order t part (t.states part).base

-- all rows of the table
pub whole_in_order : (t : TableState) → 0 < t.options.parts → rows_seen (whole t None) ≡ table_rows t
whole_in_order t some = by t.options.parts some
  where
    rows : ℕ → List Row
    rows k = walk_order (settings_of t.options) (t.states k).base (t.states k).rows

    front : ℕ → List Sight
    front k = part_sights t k None

    by : (n : ℕ) → 0 < n → rows_seen (front 0 ++ flat_map front (range_with_len (0 + 1) (n - (0 + 1)))) ≡ flat_map rows (range_with_len 0 (n - 0))
    by zero some = absurd (omega (arith, some))
    by (suc n) some =
        let behind : suc n - (0 + 1) ≡ n = omega arith in
        let all : suc n - 0 ≡ suc n = omega arith in
        flat_map-append (λ v. v.rows) (front 0) _
        ∙ ap (λ rs. rs ++ rows_seen (flat_map front (range_with_len 1 (suc n - (0 + 1))))) (part_in_order t 0)
        ∙ ap (λ k. rows 0 ++ rows_seen (flat_map front (range_with_len 1 k))) behind
        ∙ ap (λ rs. rows 0 ++ rs) (seen_all front rows (λ k. part_in_order t k) (range_with_len 1 n))
        ∙ ap (λ k. flat_map rows (range_with_len 0 k)) (sym all)
