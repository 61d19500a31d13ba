-- The row of a key, and the rows after one.
use Rattle.std.proofs.Common.{◌≡◌, ℕ, zero, suc, ◌+◌, ◌<◌, List, [], ◌∷◌, ◌++◌, refl, ap, sym, ◌∙◌, take, arith}
use Rattle.std.specs.Prelude.{Bool, true, false, ◌&&◌, Some, filter}
use Rattle.std.specs.List.{IsDistinct}
use Rattle.std.specs.Map.{keys_of, lookup, lookup_key}
use Rattle.std.specs.BTreeMap.Range.{entries_between}
use Rattle.std.specs.declared.ops.Bound.TheVariants.{Excluded, Unbounded}
use Rattle.std.proofs.lemmas.List.{append_assoc}
use Rattle.std.proofs.lemmas.Map.Keys.{IsDistinct-tail}
use Rattle.std.proofs.lemmas.Option.{same_Some}
use Rattle.term_core.specs.Datum.{Datum}
use Rattle.term_core.specs.Order.{datum_cmp}
use Rattle.term_operand.specs.Order.{is_same}
use Rattle.part_core.specs.declared.kind.TableKind.TheVariants.{OrderedSet}
use Rattle.part_core.specs.declared.settings.Settings.{Settings}
use Rattle.part_core.specs.Settings.{is_ordered}
use Rattle.part_core.specs.Acts.Scope.{Begin}
use Rattle.part_core.specs.Rows.{Row}
use Rattle.part_core.specs.Visits.{is_beyond, most_rows, following_rows}
use Rattle.part_rows.specs.Looks.{looked_at}
use Rattle.part_core.proofs.KeyLemmas.{by_test}
use Rattle.part_core.proofs.VisitLemmas.{filter_all}
use Rattle.part_core.proofs.KeyedLemmas.{no_other, none_there}

-- a filter for the key finds only its row
pub row_at : (k j : Datum) (os : List Datum) (rows : List Row) → IsDistinct is_same (keys_of rows) → Some j ≡ lookup_key (is_same k) rows → Some os ≡ lookup (is_same k) rows → filter (λ r. is_same k r.0) rows ≡ (j, os) ∷ []
row_at k j os [] d key held = cc
row_at k j os (r ∷ rows) d key held =
    by_test (is_same k r.0) _
    (λ there. let at : r.0 ≡ j = same_Some r.0 j (sym (rw there at key)) in
    let holds : r.1 ≡ os = same_Some r.1 os (sym (rw there at held)) in
    rw there (ap (λ rs. r ∷ rs) (none_there k rows (no_other k r rows d there)) ∙ ap (λ (l : Datum). (l, r.1) ∷ []) at ∙ ap (λ (ts : List Datum). (j, ts) ∷ []) holds))
    (λ other. rw other (row_at k j os rows (IsDistinct-tail is_same r.0 (keys_of rows) d) (rw other at key) (rw other at held)))

and_true : (b : Bool) → (b && true) ≡ b
and_true true = refl
and_true false = refl

-- the entries between a key and no upper bound are the rows after the key
pub behind_between : (k : Datum) (rows : List Row) → entries_between datum_cmp (Excluded k) Unbounded rows ≡ following_rows k rows
behind_between k rows = λ i. filter (λ (r : Row). and_true (is_beyond k r.0) i) rows

pub all_between : (rows : List Row) → entries_between datum_cmp Unbounded Unbounded rows ≡ rows
all_between rows = filter_all rows

-- the first rows, if a walk begins
pub looked_first : (o : Settings) (base : ℕ) (rows : List Row) → o.kind ≡ OrderedSet → looked_at o base Begin rows ≡ take most_rows rows
looked_first o base rows kind =
    let ordered : is_ordered o.kind ≡ true = ap is_ordered kind in rw ordered refl

-- appending one more of the rows that are taken
pub taken_more : (before : List Row) (r : Row) (n m : ℕ) (rows rest : List Row) → rows ≡ r ∷ rest → m + 1 ≡ n → before ++ r ∷ [] ++ take m rest ≡ before ++ take n rows
taken_more before r n m rows rest is count =
    let more : n ≡ suc m = omega (arith, count) in
    append_assoc before (r ∷ []) (take m rest)
    ∙ ap (λ rs. before ++ rs) (sym (ap (λ k. take k rows) more ∙ ap (take (suc m)) is))

-- no more rows are taken, or none is left
pub none_taken : (n : ℕ) (rows : List Row) → (0 < n → rows ≡ []) → take n rows ≡ []
none_taken zero rows over = refl
none_taken (suc n) rows over = rw (over (omega arith)) refl
