-- What rows in one list show.
use Rattle.std.proofs.Common.{◌≡◌, ℕ, ◌<◌, ◌≤◌, ◌+◌, List, ap, sym, subst, ◌∙◌, arith, length}
use Rattle.std.specs.Prelude.{Bool, true, false, if◌then◌else◌}
use Rattle.term_core.specs.Datum.{Datum}
use Rattle.part_core.specs.declared.kind.TableKind.TheVariants.{Set}
use Rattle.part_core.specs.declared.settings.Settings.{Settings}
use Rattle.part_core.specs.Settings.{is_ordered}
use Rattle.part_core.specs.Rows.{Row, has_row, objects_at, with_object}
use Rattle.part_core.specs.After.{slots_after}
use Rattle.part_core.specs.States.{IsBase}
use Rattle.part_core.proofs.AfterLemmas.{slots_same}
use Rattle.part_core.proofs.StepLemmas.{slots_grow, put_length}
use Rattle.part_rows.specs.Shown.{Shown, rows_exchanged, shown_exchanged, shown_with}
use Rattle.part_plain.specs.Served.{IsShown}
use Rattle.part_engine.proofs.SetLemmas.{plain_served, plain_slots}

-- ---- slots

-- the number of slots after one row is added to a set is one that a set can have
pub grown_base : (before now slots result : ℕ) → IsBase slots → result ≡ slots_after Set before now slots → IsBase result
grown_base before now slots result is same =
    subst IsBase (sym same) (slots_grow Set before now slots is).0

-- ---- an object that is inserted, or is not

-- rows into which an object was inserted show it
pub shown_put : (o : Settings) (t : Datum) (rows new : List Row) (slots more : ℕ) (w : Shown) → IsShown o rows slots w → (is_ordered o.kind ≡ false → new ≡ with_object o t rows) → (length new ≤ length rows + 1 → more ≡ slots_after Set (length rows) (length new) slots) → IsShown o new more (shown_with o t w)
shown_put o t rows new slots more w shown put grown = record {
  served = shown.served;
  rows = ap (with_object o t) shown.rows ∙ sym is;
  slots = ap (λ (rs : List Row). slots_after o.kind (length rs) (length (with_object o t rs)) w.slots) shown.rows
      ∙ ap (slots_after o.kind (length rows) (length (with_object o t rows))) shown.slots
      ∙ ap (λ (rs : List Row). slots_after o.kind (length rows) (length rs) slots) (sym is)
      ∙ plain_slots o.kind (length rows) (length new) slots plain
      ∙ sym (grown few);
}
  where
    plain : is_ordered o.kind ≡ false
    plain = plain_served o.kind shown.served

    is : new ≡ with_object o t rows
    is = put plain

    few : length new ≤ length rows + 1
    few = subst (λ (rs : List Row). length rs ≤ length rows + 1) (sym is) (put_length o t rows plain)

-- rows that are unchanged show what they showed
pub shown_left : (o : Settings) (rows new : List Row) (slots more : ℕ) (w : Shown) → IsShown o rows slots w → (is_ordered o.kind ≡ false → new ≡ rows) → (length new ≤ length rows + 1 → more ≡ slots_after Set (length rows) (length new) slots) → IsShown o new more w
shown_left o rows new slots more w shown stay grown = record {
  served = shown.served;
  rows = shown.rows ∙ sym is;
  slots = shown.slots ∙ sym (grown (omega (arith, same)) ∙ slots_same Set (length rows) (length new) slots (omega (arith, same)));
}
  where
    is : new ≡ rows
    is = stay (plain_served o.kind shown.served)

    same : length new ≡ length rows
    same = ap length is

-- what rows show after an insertion that may or may not have taken place
pub shown_either : (o : Settings) (t : Datum) (rows new : List Row) (slots more : ℕ) (w : Shown) (b : Bool) → IsShown o rows slots w → (is_ordered o.kind ≡ false → new ≡ (if b then with_object o t rows else rows)) → (length new ≤ length rows + 1 → more ≡ slots_after Set (length rows) (length new) slots) → IsShown o new more (if b then shown_with o t w else w)
shown_either o t rows new slots more w true shown put grown = shown_put o t rows new slots more w shown put grown
shown_either o t rows new slots more w false shown put grown = shown_left o rows new slots more w shown put grown

-- the number of slots of rows that were seen as slices
pub slots_of : (before after rows new : List Row) (slots more : ℕ) → before ≡ rows → after ≡ new → (length after ≤ length before + 1 → more ≡ slots_after Set (length before) (length after) slots) → length new ≤ length rows + 1 → more ≡ slots_after Set (length rows) (length new) slots
slots_of before after rows new slots more first last grown =
    subst (λ (rs : List Row). length new ≤ length rs + 1 → more ≡ slots_after Set (length rs) (length new) slots) first
    (subst (λ (rs : List Row). length rs ≤ length before + 1 → more ≡ slots_after Set (length before) (length rs) slots) last grown)

-- ---- exchanging the objects of a key

-- what rows show after an exchange, whether or not they have the key
pub shown_exchange : (o : Settings) (k : Datum) (os held : List Datum) (keeps there : Bool) (rows new : List Row) (slots : ℕ) (w : Shown) → IsShown o rows slots w → there ≡ has_row rows k → held ≡ (if there then objects_at rows k else os) → new ≡ rows_exchanged k os keeps rows → (there ≡ has_row w.rows k) × (held ≡ (if there then objects_at w.rows k else os)) × IsShown o new slots (shown_exchanged k os keeps w)
shown_exchange o k os held keeps there rows new slots w shown has was is = (
  has ∙ ap (λ (rs : List Row). has_row rs k) (sym shown.rows),
  was ∙ ap (λ (rs : List Row). if there then objects_at rs k else os) (sym shown.rows),
  record {
    served = shown.served;
    rows = ap (rows_exchanged k os keeps) shown.rows ∙ sym is;
    slots = shown.slots;
  },
)

-- rows show as many rows as they have
pub shown_few : (o : Settings) (rows : List Row) (slots most : ℕ) (w : Shown) → IsShown o rows slots w → length rows < most → length w.rows < most
shown_few o rows slots most w shown few =
    subst (λ (rs : List Row). length rs < most) (sym shown.rows) few
