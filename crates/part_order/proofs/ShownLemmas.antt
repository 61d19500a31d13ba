-- What rows in a tree show, depending on what is done with its entries.
use Rattle.std.proofs.Common.{◌≡◌, ℕ, ◌<◌, List, ap, sym, subst, ◌∙◌, length}
use Rattle.std.specs.Prelude.{Bool, true, false, if◌then◌else◌, filter}
use Rattle.std.specs.List.{IsDistinct}
use Rattle.std.specs.Map.{keys_of}
use Rattle.term_core.specs.Datum.{Datum}
use Rattle.term_operand.specs.Order.{is_same}
use Rattle.part_core.specs.declared.settings.Settings.{Settings}
use Rattle.part_core.specs.Settings.{is_ordered}
use Rattle.part_core.specs.Rows.{Row, is_live, has_row, objects_at, with_object}
use Rattle.part_core.specs.Visits.{walk_order}
use Rattle.part_rows.specs.Shown.{Shown, AreSound, rows_exchanged, shown_exchanged, shown_live, shown_with}
use Rattle.part_order.specs.Served.{IsShown}

-- no key has two rows
pub apart_shown : (o : Settings) (rows : List Row) (w : Shown) → IsShown o rows w → AreSound o w → IsDistinct is_same (keys_of rows)
apart_shown o rows w shows sound =
    subst (λ (rs : List Row). IsDistinct is_same (keys_of rs)) shows.rows sound.rows.distinct

-- walk order is the order of the entries
pub walk_shown : (o : Settings) (base : ℕ) (rows : List Row) (w : Shown) → IsShown o rows w → walk_order o base w.rows ≡ rows
unfolding walk_order
walk_shown o base rows w shows =
    let ordered : is_ordered o.kind ≡ true = ap is_ordered shows.kind in rw ordered shows.rows

pub exchange_shows : (o : Settings) (rows now : List Row) (w : Shown) (k : Datum) (before after : List Datum) (keeps there : Bool) → IsShown o rows w → there ≡ has_row rows k → after ≡ (if there then objects_at rows k else before) → now ≡ rows_exchanged k before keeps rows → (there ≡ has_row w.rows k) × (after ≡ (if there then objects_at w.rows k else before)) × IsShown o now (shown_exchanged k before keeps w)
exchange_shows o rows now w k before after keeps there shows is held written = (
  is ∙ ap (λ (rs : List Row). has_row rs k) (sym shows.rows),
  held ∙ ap (λ (rs : List Row). if there then objects_at rs k else before) (sym shows.rows),
  record {
    kind = shows.kind;
    rows = ap (rows_exchanged k before keeps) shows.rows ∙ sym written;
    slots = shows.slots;
  },
)

-- what rows show after an object is inserted, or is not
pub put_shows : (o : Settings) (t : Datum) (rows now : List Row) (w : Shown) (b : Bool) → IsShown o rows w → now ≡ (if b then with_object o t rows else rows) → IsShown o now (if b then shown_with o t w else w)
put_shows o t rows now w true shows is =
    let ordered : is_ordered o.kind ≡ true = ap is_ordered shows.kind in
    record {
      kind = shows.kind;
      rows = ap (with_object o t) shows.rows ∙ sym is;
      slots = rw ordered shows.slots;
    }
put_shows o t rows now w false shows is = record { kind = shows.kind; rows = shows.rows ∙ sym is; slots = shows.slots }

-- rows show as many rows as there are entries
pub few_shows : (o : Settings) (rows : List Row) (w : Shown) (most : ℕ) → IsShown o rows w → length rows < most → length w.rows < most
few_shows o rows w most shows few =
    subst (λ (rs : List Row). length rs < most) (sym shows.rows) few

pub live_shows : (o : Settings) (rows now : List Row) (w : Shown) → now ≡ filter is_live rows → IsShown o rows w → IsShown o now (shown_live w)
live_shows o rows now w is shows = record {
  kind = shows.kind;
  rows = ap (filter is_live) shows.rows ∙ sym is;
  slots = shows.slots;
}
