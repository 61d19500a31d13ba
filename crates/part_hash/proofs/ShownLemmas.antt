-- What the rows show.
use Rattle.std.proofs.Common.{◌≡◌, ℕ, ◌<◌, ◌≤◌, ◌-◌, ◌^◌, zero, suc, List, [], ◌∷◌, refl, ap, sym, ◌∙◌, length, arith}
use Rattle.std.specs.Prelude.{Bool, true, false, cond, if◌then◌else◌, Option, Some, None, is_some, slice_index_or}
use Rattle.std.specs.List.{count_by}
use Rattle.std.proofs.lemmas.List.Sums.{sum_by-cons}
use Rattle.term_core.specs.Datum.{Datum}
use Rattle.part_core.specs.declared.kind.TableKind.TheVariants.{Set}
use Rattle.part_core.specs.declared.settings.Settings.{Settings}
use Rattle.part_core.specs.Rows.{Row, with_object}
use Rattle.part_core.specs.After.{slots_after}
use Rattle.part_core.proofs.AfterLemmas.{slots_same}
use Rattle.part_rows.specs.Shown.{Shown, shown_with}
use Rattle.part_engine.proofs.SetLemmas.{plain_served, plain_slots}
use Rattle.part_hash.specs.declared.store.Store.{Store}
use Rattle.part_hash.specs.Places.{Kept}
use Rattle.part_hash.specs.Standing.{Stands}
use Rattle.part_hash.specs.Served.{IsShown}

-- an object that was put in, or wasn't
pub shown_either : {A : Type 0} {o : Settings} {store new : Store A} {divisor : ℕ} (t : Datum) (w : Shown) (b : Bool) → IsShown o store divisor w → Stands o new (if b then with_object o t w.rows else w.rows) → length new.slots.items ≡ slots_after Set (length w.rows) (length (if b then with_object o t w.rows else w.rows)) (length store.slots.items) → IsShown o new divisor (if b then shown_with o t w else w)
shown_either {A} {o} {store} {new} {divisor} t w true shown stands size = record {
  served = shown.served;
  rows = stands;
  spread = shown.spread;
  slots = plain_slots o.kind (length w.rows) (length (with_object o t w.rows)) w.slots (plain_served o.kind shown.served)
      ∙ ap (slots_after Set (length w.rows) (length (with_object o t w.rows))) shown.slots ∙ sym size;
}
shown_either {A} {o} {store} {new} {divisor} t w false shown stands size = record {
  served = shown.served;
  rows = stands;
  spread = shown.spread;
  slots = shown.slots ∙ sym (size ∙ slots_same Set (length w.rows) (length w.rows) (length store.slots.items) (omega arith));
}

-- the same rows, or others, in as many slots
pub shown_still : {A : Type 0} {o : Settings} {store new : Store A} {divisor : ℕ} (v w : Shown) → IsShown o store divisor w → Stands o new v.rows → v.slots ≡ w.slots → length new.slots.items ≡ length store.slots.items → IsShown o new divisor v
shown_still {A} {o} {store} {new} {divisor} v w shown stands same size = record {
  served = shown.served;
  rows = stands;
  spread = shown.spread;
  slots = same ∙ shown.slots ∙ sym size;
}

-- the index has no place for more rows than 32 bits number
few_taken : (xs : List (Option Kept)) (n : ℕ) → ((i : ℕ) (s : Kept) → slice_index_or xs i None ≡ Some s → i < n) → count_by is_some xs ≤ n
few_taken [] n below = omega arith
few_taken (None ∷ xs) n below =
    let rest = few_taken xs n (λ i s is. omega (arith, below (suc i) s is)) in
    omega (arith, rest, sum_by-cons (λ (x : Option Kept). cond (is_some x) 1 0) None xs)
few_taken (Some s ∷ xs) zero below = absurd (omega (arith, below 0 s refl))
few_taken (Some s ∷ xs) (suc n) below =
    let rest = few_taken xs n (λ i t is. omega (arith, below (suc i) t is)) in
    omega (arith, rest, sum_by-cons (λ (x : Option Kept). cond (is_some x) 1 0) (Some s) xs)

pub few_rows : {A : Type 0} (o : Settings) (store : Store A) (rows : List Row) → Stands o store rows → length rows < 2 ^ 64 - 1
few_rows {A} o store rows stands =
    let few : count_by is_some store.rows.slots ≤ 2 ^ 32 - 1 = few_taken store.rows.slots (2 ^ 32 - 1) (λ i s there. (stands.found.known i s there).1.taken) in
    omega (arith, few, stands.count)
