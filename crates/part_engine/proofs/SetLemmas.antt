-- Rows of tables that aren't walked in key order.
use Rattle.std.proofs.Common.{◌≡◌, ℕ, List, [], ◌∷◌, refl, ap, sym, ◌∙◌}
use Rattle.std.specs.Prelude.{Bool, true, false, not, ◌&&◌, ◌||◌, IsTrue, filter}
use Rattle.std.specs.List.{IsDistinct}
use Rattle.std.specs.Map.{keys_of, remove_entry, set_value}
use Rattle.std.proofs.lemmas.Bool.{true≢false, false≢true}
use Rattle.std.proofs.lemmas.Map.Keys.{IsDistinct-tail}
use Rattle.term_core.specs.Datum.{Datum}
use Rattle.term_operand.specs.Order.{is_same}
use Rattle.part_core.specs.declared.kind.TableKind.{TableKind}
use Rattle.part_core.specs.declared.kind.TableKind.TheVariants.{Set, OrderedSet, Bag, DuplicateBag}
use Rattle.part_core.specs.Settings.{is_ordered}
use Rattle.part_core.specs.Rows.{Row, is_empty, is_live, has_row, objects_at, rows_at_key}
use Rattle.part_core.specs.After.{slots_after}
use Rattle.part_core.proofs.KeyLemmas.{by_test, same_is}
use Rattle.part_core.proofs.KeyedLemmas.{no_other, none_there}
use Rattle.part_core.proofs.RowLemmas.{unwritten}
use Rattle.part_rows.specs.Shown.{rows_exchanged}
pub use Rattle.part_rows.proofs.DeadLemmas.{stays, others_stay, exchanged_none}
use Rattle.part_engine.specs.Sets.{serves}

-- a kind that is served is not walked in key order
pub plain_served : (kind : TableKind) → IsTrue (serves kind) → is_ordered kind ≡ false
plain_served Set h = refl
plain_served OrderedSet h = cc
plain_served Bag h = refl
plain_served DuplicateBag h = refl

-- the slots of such a table grow as those of a set
pub plain_slots : (kind : TableKind) (before now slots : ℕ) → is_ordered kind ≡ false → slots_after kind before now slots ≡ slots_after Set before now slots
plain_slots kind before now slots plain = rw plain refl

-- the row of a key is the only one
pub alone : (k : Datum) (rows : List Row) → IsDistinct is_same (keys_of rows) → has_row rows k ≡ true → filter (λ (r : Row). is_same k r.0) rows ≡ (k, objects_at rows k) ∷ []
alone k [] apart there = absurd (true≢false (sym there))
alone k (r ∷ rows) apart there =
    by_test (is_same k r.0) _
    (λ here. rw here (ap (λ rs. r ∷ rs) (none_there k rows (no_other k r rows apart here)) ∙ ap (λ (j : Datum). (j, r.1) ∷ []) (sym (same_is k r.0 here))))
    (λ other. rw other (alone k rows (IsDistinct-tail is_same r.0 (keys_of rows) apart) (rw other at there)))

-- ---- exchanging the objects of a key

-- writing objects through the result of a look-up replaces those of the key
pub written : (k : Datum) (os : List Datum) (rows : List Row) → IsDistinct is_same (keys_of rows) → set_value (is_same k) rows os ≡ rows_at_key k (λ _. os) rows
written k os [] d = refl
written k os (r ∷ rows) d =
    by_test (is_same k r.0) _
    (λ there. rw there (ap (λ rs. (r.0, os) ∷ rs) (sym (unwritten k (λ _. os) rows (no_other k r rows d there)))))
    (λ other. rw other (ap (λ rs. r ∷ rs) (written k os rows (IsDistinct-tail is_same r.0 (keys_of rows) d))))

-- removing the row of a key keeps all other rows, dead or live
removed : (k : Datum) (rows : List Row) → IsDistinct is_same (keys_of rows) → remove_entry (is_same k) rows ≡ filter (λ r. not (is_same k r.0) || is_live r) (rows_at_key k (λ _. []) rows)
removed k [] d = refl
removed k (r ∷ rows) d =
    by_test (is_same k r.0) _
    (λ there. rw there (sym (ap (filter (λ v. not (is_same k v.0) || is_live v)) (unwritten k (λ _. []) rows (no_other k r rows d there)) ∙ others_stay k rows (no_other k r rows d there))))
    (λ other. rw other (ap (λ rs. r ∷ rs) (removed k rows (IsDistinct-tail is_same r.0 (keys_of rows) d))))

-- a row that has objects stays
live_stays : (k : Datum) (os : List Datum) (rows : List Row) → is_empty os ≡ false → filter (λ r. not (is_same k r.0) || is_live r) (rows_at_key k (λ _. os) rows) ≡ rows_at_key k (λ _. os) rows
live_stays k os [] live = refl
live_stays k os (r ∷ rows) live =
    by_test (is_same k r.0) _
    (λ there. rw (there, live) (ap (λ rs. (r.0, os) ∷ rs) (live_stays k os rows live)))
    (λ other. rw other (ap (λ rs. r ∷ rs) (live_stays k os rows live)))

pub exchanged_there : (k : Datum) (os : List Datum) (keeps : Bool) (rows : List Row) → (not keeps && is_empty os) ≡ false → rows_at_key k (λ _. os) rows ≡ rows_exchanged k os keeps rows
exchanged_there k os true rows stays = refl
exchanged_there k os false rows stays = sym (live_stays k os rows stays)

pub exchanged_out : (k : Datum) (os : List Datum) (keeps : Bool) (rows : List Row) → (not keeps && is_empty os) ≡ true → IsDistinct is_same (keys_of rows) → remove_entry (is_same k) rows ≡ rows_exchanged k os keeps rows
exchanged_out k os true rows goes d = absurd (false≢true goes)
exchanged_out k [] false rows goes d = removed k rows d
exchanged_out k (t ∷ os) false rows goes d = absurd (false≢true goes)
