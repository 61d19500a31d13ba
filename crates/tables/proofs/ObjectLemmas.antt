-- The objects of a table, collected part by part.
use Rattle.std.proofs.Common.{◌≡◌, ℕ, zero, suc, ◌+◌, List, ◌++◌, ap, sym, ◌∙◌, Some, All, arith, slice_get, flat_map, append_assoc}
use Rattle.std.specs.List.{range_with_len}
use Rattle.std.specs.Coded.{codes}
use Rattle.std.proofs.Props.{props}
use Rattle.std.proofs.Math.Logic.{∥∥₁_elim}
use Rattle.std.proofs.lemmas.List.{append-nil}
use Rattle.term_core.specs.Datum.{Datum}
use Rattle.term_core.specs.DatumCode.{datum_code}
use Rattle.part_core.specs.declared.settings.Settings.{Settings}
use Rattle.part_core.specs.Acts.{History}
use Rattle.part_core.specs.Visits.{walked_objects}
use Rattle.part_core.specs.Legal.{state_after}
use Rattle.tables.specs.declared.options.Options.{Options}
use Rattle.tables.specs.Options.{settings_of}
use Rattle.tables.specs.Turns.{Views}
use Rattle.tables.specs.Local.{AreAfter, part_objects}
use Rattle.tables.proofs.LocalLemmas.{settings_there}

range_more : (f : ℕ → List Datum) (a n : ℕ) → flat_map f (range_with_len a (n + 1)) ≡ flat_map f (range_with_len a n) ++ f (a + n)
range_more f a zero = append-nil (f a) ∙ ap f (omega arith)
range_more f a (suc n) =
    let next : suc n + 1 ≡ suc (n + 1) = omega arith in
    ap (λ m. flat_map f (range_with_len a m)) next ∙ ap (λ xs. f a ++ xs) (range_more f (a + 1) n) ∙ sym (append_assoc (f a) (flat_map f (range_with_len (a + 1) n)) (f (a + 1 + n)))
    ∙ ap (λ k. flat_map f (range_with_len a (suc n)) ++ f k) (omega arith)

-- what was collected from the first n parts
abbrev pub Gathered : {P : Type 0} → (P → History → Type 0) → Options → List P → ℕ → List Datum → Type 0
Gathered IsAfter o parts n got =
    (v : Views) → AreAfter IsAfter parts v → got ≡ flat_map (part_objects o v) (range_with_len 0 n)

-- one more part is collected
pub gathered_more : {P : Type 0} (settings : P → Settings) (IsAfter : P → History → Type 0) (o : Options) (parts : List P) (i : ℕ) (p : P) (got more : List Datum)
    → slice_get parts i ≡ Some p → ∥ (All (λ p. settings p ≡ settings_of o) parts) ∥₁
    → ((log : History) → IsAfter p log → more ≡ walked_objects (settings p) (state_after (settings p) log))
    → Gathered IsAfter o parts i got → Gathered IsAfter o parts (i + 1) (got ++ more)
gathered_more settings IsAfter o parts i p got more there same said gathered = λ v sees.
    let here : more ≡ walked_objects (settings p) (state_after (settings p) (v i)) = said (v i) (sees i p there) in
    let is : more ≡ part_objects o v i = ∥∥₁_elim same (hlevel (props, codes, datum_code)) (λ all.
    here ∙ ap (λ (x : Settings). walked_objects x (state_after x (v i))) (settings_there settings (settings_of o) parts i p there all)) in
    ap (λ xs. xs ++ more) (gathered v sees) ∙ ap (λ xs. flat_map (part_objects o v) (range_with_len 0 i) ++ xs) is
    ∙ ap (λ k. flat_map (part_objects o v) (range_with_len 0 i) ++ part_objects o v k) (omega arith) ∙ sym (range_more (part_objects o v) 0 i)
