-- What visits answer and leave, depending on the rows that they saw.
use Rattle.std.proofs.Common.{◌≡◌, ℕ, ◌≤◌, ◌<◌, ◌+◌, ◌-◌, List, [], ◌∷◌, ◌++◌, refl, ap, sym, subst, ◌∙◌, length, take, get_or, arith, append_assoc, length-append}
use Rattle.std.specs.Prelude.{Bool, true, false, not, ◌&&◌, ◌==◌, min, if◌then◌else◌, Option, filter, map, All}
use Rattle.std.specs.List.{list_any}
use Rattle.std.specs.Map.{keys_of}
use Rattle.std.proofs.lemmas.List.{append-nil, length-map, map-append, take_more}
use Rattle.std.proofs.lemmas.List.Concat.{flat_map-append}
use Rattle.std.proofs.lemmas.List.Elements.{All-filter, filter-append}
use Rattle.term_core.specs.Datum.{Datum}
use Rattle.term_operand.specs.Order.{is_same}
use Rattle.mcode.specs.Program.{Program}
use Rattle.part_core.specs.declared.settings.Settings.{Settings}
use Rattle.part_core.specs.Acts.{Purpose, Cursor, Scope}
use Rattle.part_core.specs.Acts.Purpose.{Answers, Counts, Deletes}
use Rattle.part_core.specs.Acts.Act.{Visit}
use Rattle.part_core.specs.Acts.Said.{Found, Counted}
use Rattle.part_core.specs.Acts.Answer.{Replied, Refused}
use Rattle.part_core.specs.Acts.Refusal.{CursorOutside}
use Rattle.part_core.specs.After.{after, kept_rows, rows_without_true}
use Rattle.part_core.specs.Covers.{covers}
use Rattle.part_core.specs.Replies.{reply_of, said_by_visit, yield_of, most_counted}
use Rattle.part_core.specs.Rows.{Row, PartState, is_fixed}
use Rattle.part_core.specs.States.{IsRow, IsState}
use Rattle.part_core.specs.Visits.{answers_of, is_inside, is_true, next_of, visited_rows, yields, yield_of_rows}
use Rattle.part_core.proofs.AfterLemmas.{kept_after, read_after}
use Rattle.part_core.proofs.StateLemmas.{after_replied, after_refused, visited_is_covered}
use Rattle.part_engine.specs.Deletions.{rows_left, rows_swept, shown_swept, IsChosen}
use Rattle.part_rows.specs.Looks.{looked_at}
use Rattle.part_engine.specs.Looks.{next_after, rows_until, seen_from, stops, IsCounted, IsFound}
use Rattle.part_rows.specs.Shown.{Shown, state_of}
use Rattle.part_engine.proofs.LeadLemmas.{Says}
use Rattle.part_engine.proofs.SeenLemmas.{Sees, Saw, sees_more, sees_last, until_all, next_whole, visited, goes_on}
use Rattle.part_engine.proofs.SweepLemmas.{swept, left_each}

-- ---- one more row

pub yield_next : (purpose : Purpose) (p : Program) (rows : List Row) (place : ℕ) (r : Row) → place < length rows → r ≡ get_or rows place r → yield_of_rows purpose p (take (place + 1) rows) ≡ yield_of_rows purpose p (take place rows) ++ yields purpose p r.1
yield_next purpose p rows place r within is =
    ap (yield_of_rows purpose p) (take_more rows place r within ∙ ap (λ q. take place rows ++ q ∷ []) (sym is))
    ∙ flat_map-append (λ (v : Row). yields purpose p v.1) (take place rows) (r ∷ [])
    ∙ ap (λ xs. yield_of_rows purpose p (take place rows) ++ xs) (append-nil (yields purpose p r.1))

pub found_next : (purpose : Purpose) (p : Program) (rows : List Row) (place : ℕ) (r : Row) (held initial before after : List Datum) → place < length rows → r ≡ get_or rows place r → held ≡ r.1 → before ≡ initial ++ yield_of_rows purpose p (take place rows) → after ≡ before ++ yields purpose p held → after ≡ initial ++ yield_of_rows purpose p (take (place + 1) rows)
found_next purpose p rows place r held initial before after within is own so_far more =
    more ∙ ap (λ os. before ++ yields purpose p os) own ∙ ap (λ xs. xs ++ yields purpose p r.1) so_far
    ∙ append_assoc initial (yield_of_rows purpose p (take place rows)) (yields purpose p r.1)
    ∙ ap (λ xs. initial ++ xs) (sym (yield_next purpose p rows place r within is))

-- a total that is limited to the greatest number that is counted
pub total_next : (purpose : Purpose) (p : Program) (rows : List Row) (place : ℕ) (r : Row) (held : List Datum) (before count after : ℕ) → place < length rows → r ≡ get_or rows place r → held ≡ r.1 → count ≡ length (yields purpose p held) → before ≡ min (length (yield_of_rows purpose p (take place rows))) most_counted → after ≡ min (before + count) most_counted → after ≡ min (length (yield_of_rows purpose p (take (place + 1) rows))) most_counted
total_next purpose p rows place r held before count after within is own given so_far more =
    let sum : length (yield_of_rows purpose p (take (place + 1) rows)) ≡ length (yield_of_rows purpose p (take place rows)) + length (yields purpose p r.1) = ap length (yield_next purpose p rows place r within is) ∙ length-append (yield_of_rows purpose p (take place rows)) (yields purpose p r.1) in
    capped (length (yield_of_rows purpose p (take place rows))) (length (yields purpose p r.1)) before after most_counted (length (yield_of_rows purpose p (take (place + 1) rows))) so_far (more ∙ ap (λ n. min (before + n) most_counted) (given ∙ ap (λ os. length (yields purpose p os)) own)) sum
  where
    capped : (sum more before after most whole : ℕ) → before ≡ min sum most → after ≡ min (before + more) most → whole ≡ sum + more → after ≡ min whole most
    capped sum more before after most whole a b c = omega (arith, a, b, c)

-- ---- how far a visit goes

pub sees_next : (stops : Bool) (purpose : Purpose) (p : Program) (wanted : ℕ) (rows : List Row) (place wanting later count : ℕ) (r : Row) (held : List Datum) → place < length rows → r ≡ get_or rows place r → held ≡ r.1 → count ≡ length (yields purpose p held) → later ≡ wanting - count → Sees stops (answers_of purpose p) wanted rows place wanting → (stops && (later == 0)) ≡ false → Sees stops (answers_of purpose p) wanted rows (place + 1) later
sees_next stops purpose p wanted rows place wanting later count r held within is own given less s going =
    let fewer : later ≡ wanting - answers_of purpose p r = less ∙ ap (λ n. wanting - n) (given ∙ ap (λ os. length (yields purpose p os)) own) in
    subst (λ (n : ℕ). Sees stops (answers_of purpose p) wanted rows (place + 1) n) (sym fewer)
    (sees_more stops (answers_of purpose p) wanted rows place wanting r within is s (ap (λ n. stops && (n == 0)) (sym fewer) ∙ going))

pub saw_last : (stops : Bool) (purpose : Purpose) (p : Program) (wanted : ℕ) (rows : List Row) (place wanting later count : ℕ) (r : Row) (held : List Datum) → place < length rows → r ≡ get_or rows place r → held ≡ r.1 → count ≡ length (yields purpose p held) → later ≡ wanting - count → Sees stops (answers_of purpose p) wanted rows place wanting → (stops && (later == 0)) ≡ true → Saw stops (answers_of purpose p) wanted rows (place + 1) later
saw_last stops purpose p wanted rows place wanting later count r held within is own given less s done =
    let fewer : later ≡ wanting - answers_of purpose p r = less ∙ ap (λ n. wanting - n) (given ∙ ap (λ os. length (yields purpose p os)) own) in
    subst (λ (n : ℕ). Saw stops (answers_of purpose p) wanted rows (place + 1) n) (sym fewer)
    (sees_last stops (answers_of purpose p) wanted rows place wanting r within is s (ap (λ n. stops && (n == 0)) (sym fewer) ∙ done))

-- ---- the rows that a visit saw

seen_is : (o : Settings) (w : Shown) (fixes : List ℕ) (base : ℕ) (purpose : Purpose) (p : Program) (scope : Scope) (wanted : ℕ) → seen_from purpose o base p scope wanted w.rows ≡ visited_rows o (state_of w fixes base) purpose p scope wanted
seen_is o w fixes base purpose p scope wanted =
    sym (visited o (state_of w fixes base) purpose p scope wanted)

next_is : (o : Settings) (w : Shown) (fixes : List ℕ) (base : ℕ) (purpose : Purpose) (p : Program) (scope : Scope) (wanted : ℕ) → next_after o base scope (answers_of purpose p) wanted (seen_from purpose o base p scope wanted w.rows) ≡ next_of o (state_of w fixes base) purpose p scope wanted
next_is o w fixes base purpose p scope wanted =
    ap (next_after o base scope (answers_of purpose p) wanted) (seen_is o w fixes base purpose p scope wanted) ∙ sym (goes_on o (state_of w fixes base) purpose p scope wanted)

-- what a visit has found that went over rows one by one
pub found_looking : (purpose : Purpose) (o : Settings) (base : ℕ) (p : Program) (scope : Scope) (wanted : ℕ) (all rows : List Row) (reach : ℕ) (found : List Datum) (next : Option Cursor) → rows ≡ looked_at o base scope all → take reach rows ≡ rows_until (stops o scope) (answers_of purpose p) wanted rows → found ≡ yield_of_rows purpose p (take reach rows) → next ≡ next_after o base scope (answers_of purpose p) wanted (take reach rows) → IsFound purpose o base p scope wanted all found next
found_looking purpose o base p scope wanted all rows reach found next looked seen is behind =
    let same : take reach rows ≡ seen_from purpose o base p scope wanted all = seen ∙ ap (rows_until (stops o scope) (answers_of purpose p) wanted) looked in
    record {
      found = is ∙ ap (yield_of_rows purpose p) same;
      next = behind ∙ ap (next_after o base scope (answers_of purpose p) wanted) same;
    }

pub counted_looking : (purpose : Purpose) (o : Settings) (base : ℕ) (p : Program) (scope : Scope) (wanted : ℕ) (all rows : List Row) (reach total : ℕ) (next : Option Cursor) → rows ≡ looked_at o base scope all → take reach rows ≡ rows_until (stops o scope) (answers_of purpose p) wanted rows → total ≡ min (length (yield_of_rows purpose p (take reach rows))) most_counted → next ≡ next_after o base scope (answers_of purpose p) wanted (take reach rows) → IsCounted purpose o base p scope wanted all total next
counted_looking purpose o base p scope wanted all rows reach total next looked seen is behind =
    let same : take reach rows ≡ seen_from purpose o base p scope wanted all = seen ∙ ap (rows_until (stops o scope) (answers_of purpose p) wanted) looked in
    record {
      total = is ∙ ap (λ rs. min (length (yield_of_rows purpose p rs)) most_counted) same;
      next = behind ∙ ap (next_after o base scope (answers_of purpose p) wanted) same;
    }

-- what a visit has found that doesn't stop before its end
seen_whole : (purpose : Purpose) (o : Settings) (base : ℕ) (p : Program) (scope : Scope) (wanted : ℕ) (all rows : List Row) → stops o scope ≡ false → rows ≡ looked_at o base scope all → rows ≡ seen_from purpose o base p scope wanted all
seen_whole purpose o base p scope wanted all rows whole looked =
    looked ∙ sym (ap (λ b. rows_until b (answers_of purpose p) wanted (looked_at o base scope all)) whole ∙ until_all (answers_of purpose p) wanted (looked_at o base scope all))

pub found_listed : (purpose : Purpose) (o : Settings) (base : ℕ) (p : Program) (scope : Scope) (wanted : ℕ) (all rows none : List Row) (found : List Datum) (next : Option Cursor) → stops o scope ≡ false → rows ≡ looked_at o base scope all → found ≡ yield_of_rows purpose p rows → next ≡ next_after o base scope (answers_of purpose p) wanted none → IsFound purpose o base p scope wanted all found next
found_listed purpose o base p scope wanted all rows none found next whole looked is behind = record {
  found = is ∙ ap (yield_of_rows purpose p) (seen_whole purpose o base p scope wanted all rows whole looked);
  next = behind ∙ next_whole o base scope (answers_of purpose p) wanted none (seen_from purpose o base p scope wanted all) whole;
}

pub counted_listed : (purpose : Purpose) (o : Settings) (base : ℕ) (p : Program) (scope : Scope) (wanted : ℕ) (all rows none : List Row) (total : ℕ) (next : Option Cursor) → stops o scope ≡ false → rows ≡ looked_at o base scope all → total ≡ min (length (yield_of_rows purpose p rows)) most_counted → next ≡ next_after o base scope (answers_of purpose p) wanted none → IsCounted purpose o base p scope wanted all total next
counted_listed purpose o base p scope wanted all rows none total next whole looked is behind = record {
  total = is ∙ ap (λ rs. min (length (yield_of_rows purpose p rs)) most_counted) (seen_whole purpose o base p scope wanted all rows whole looked);
  next = behind ∙ next_whole o base scope (answers_of purpose p) wanted none (seen_from purpose o base p scope wanted all) whole;
}

visit_reply : (o : Settings) (s : PartState) (n : ℕ) (purpose : Purpose) (p : Program) (scope : Scope) (wanted : ℕ) → is_inside o s scope ≡ true → reply_of o s n (Visit purpose p scope wanted) ≡ Replied (said_by_visit purpose (yield_of o s purpose p scope wanted) (next_of o s purpose p scope wanted))
unfolding reply_of
visit_reply o s n purpose p scope wanted inside = rw inside refl

pub visit_refused : (o : Settings) (s : PartState) (n : ℕ) (purpose : Purpose) (p : Program) (scope : Scope) (wanted : ℕ) → is_inside o s scope ≡ false → Says o s n (Visit purpose p scope wanted) (Refused CursorOutside) s
unfolding reply_of
visit_refused o s n purpose p scope wanted outside =
    let refused : reply_of o s n (Visit purpose p scope wanted) ≡ Refused CursorOutside = rw outside refl in
    (sym refused, sym (after_refused o s n (Visit purpose p scope wanted) CursorOutside refused))

-- ---- the three visits

pub visit_says : (o : Settings) (w : Shown) (fixes : List ℕ) (base n : ℕ) (p : Program) (scope : Scope) (wanted : ℕ) (found : List Datum) (next : Option Cursor) → IsState o (state_of w fixes base) → is_inside o (state_of w fixes base) scope ≡ true → IsFound Answers o base p scope wanted w.rows found next → Says o (state_of w fixes base) n (Visit Answers p scope wanted) (Replied (Found found next)) (state_of w fixes base)
visit_says o w fixes base n p scope wanted found next state inside is =
    let reply = visit_reply o (state_of w fixes base) n Answers p scope wanted inside in (
      ap (λ xs. Replied (Found xs next)) (is.found ∙ ap (yield_of_rows Answers p) (seen_is o w fixes base Answers p scope wanted))
          ∙ ap (λ at. Replied (Found (yield_of o (state_of w fixes base) Answers p scope wanted) at)) (is.next ∙ next_is o w fixes base Answers p scope wanted)
          ∙ sym reply,
      sym (read_after o (state_of w fixes base) n (Visit Answers p scope wanted) _ state reply refl refl),
    )

-- what a visit that counts or deletes replies
counted_reply : (o : Settings) (w : Shown) (fixes : List ℕ) (base : ℕ) (purpose : Purpose) (p : Program) (scope : Scope) (wanted total : ℕ) (next : Option Cursor) → IsCounted purpose o base p scope wanted w.rows total next → Replied (Counted total next) ≡ Replied (Counted (min (length (yield_of o (state_of w fixes base) purpose p scope wanted)) most_counted) (next_of o (state_of w fixes base) purpose p scope wanted))
counted_reply o w fixes base purpose p scope wanted total next is =
    ap (λ m. Replied (Counted m next)) (is.total ∙ ap (λ rs. min (length (yield_of_rows purpose p rs)) most_counted) (seen_is o w fixes base purpose p scope wanted))
    ∙ ap (λ at. Replied (Counted (min (length (yield_of o (state_of w fixes base) purpose p scope wanted)) most_counted) at)) (is.next ∙ next_is o w fixes base purpose p scope wanted)

pub count_says : (o : Settings) (w : Shown) (fixes : List ℕ) (base n : ℕ) (p : Program) (scope : Scope) (wanted total : ℕ) (next : Option Cursor) → IsState o (state_of w fixes base) → is_inside o (state_of w fixes base) scope ≡ true → IsCounted Counts o base p scope wanted w.rows total next → Says o (state_of w fixes base) n (Visit Counts p scope wanted) (Replied (Counted total next)) (state_of w fixes base)
count_says o w fixes base n p scope wanted total next state inside is =
    let reply = visit_reply o (state_of w fixes base) n Counts p scope wanted inside in (
      counted_reply o w fixes base Counts p scope wanted total next is ∙ sym reply,
      sym (read_after o (state_of w fixes base) n (Visit Counts p scope wanted) _ state reply refl refl),
    )

few_without : (p : Program) (keys : List Datum) (rows : List Row) → length (rows_without_true p keys rows) ≤ length rows
few_without p keys rows =
    omega (arith, length-map {B = Row} rows (λ (r : Row). (r.0, if list_any (is_same r.0) keys then filter (λ t. not (is_true p t)) r.1 else r.1)))

pub delete_visit_says : (o : Settings) (w : Shown) (fixes : List ℕ) (base n : ℕ) (p : Program) (scope : Scope) (wanted : ℕ) (left : List Row) (total : ℕ) (next : Option Cursor) → IsState o (state_of w fixes base) → is_inside o (state_of w fixes base) scope ≡ true → IsChosen o base p scope wanted w.rows left total next → Says o (state_of w fixes base) n (Visit Deletes p scope wanted) (Replied (Counted total next)) (state_of (shown_swept (is_fixed fixes) left w) fixes base)
delete_visit_says o w fixes base n p scope wanted left total next state inside chosen =
    let s : PartState = state_of w fixes base in
    let same = seen_is o w fixes base Deletes p scope wanted in
    let covered = visited_is_covered o s Deletes p scope wanted state inside in
    let reply = visit_reply o s n Deletes p scope wanted inside in
    let rows : rows_swept (is_fixed fixes) left w.rows ≡ kept_rows fixes (rows_without_true p (keys_of (visited_rows o s Deletes p scope wanted)) w.rows) =
    ap (λ vs. rows_swept (is_fixed fixes) vs w.rows) (chosen.left ∙ ap (rows_left p) (same ∙ covered))
    ∙ swept p (covers o scope (next_of o s Deletes p scope wanted)) fixes w.rows state.rows.distinct state.live
    ∙ ap (λ (vs : List Row). kept_rows fixes (rows_without_true p (keys_of vs) w.rows)) (sym covered) in (
      counted_reply o w fixes base Deletes p scope wanted total next chosen.counted ∙ sym reply,
      ap (λ (rs : List Row). record { rows = rs; fixes = fixes; slots = w.slots; base = base }) rows
          ∙ sym (after_replied o s n (Visit Deletes p scope wanted) _ reply ∙ kept_after o s (rows_without_true p (keys_of (visited_rows o s Deletes p scope wanted)) w.rows) state (few_without p (keys_of (visited_rows o s Deletes p scope wanted)) w.rows)),
    )

pub chosen_each : (o : Settings) (w : Shown) (fixes : List ℕ) (base : ℕ) (p : Program) (scope : Scope) (wanted : ℕ) (left : List Row) (total : ℕ) (next : Option Cursor) → IsState o (state_of w fixes base) → is_inside o (state_of w fixes base) scope ≡ true → IsChosen o base p scope wanted w.rows left total next → All (IsRow o) left
chosen_each o w fixes base p scope wanted left total next state inside chosen =
    let s : PartState = state_of w fixes base in
    let covered = visited_is_covered o s Deletes p scope wanted state inside in
    let is : left ≡ rows_left p (filter (λ r. covers o scope (next_of o s Deletes p scope wanted) r.0) w.rows) = chosen.left ∙ ap (rows_left p) (seen_is o w fixes base Deletes p scope wanted ∙ covered) in
    rw is (left_each o p _ (All-filter (λ (r : Row). covers o scope (next_of o s Deletes p scope wanted) r.0) (IsRow o) w.rows state.each))

-- ---- what is left of rows

pub left_next : (p : Program) (rows : List Row) (place : ℕ) (r : Row) (before after : List Row) → place < length rows → r ≡ get_or rows place r → before ≡ rows_left p (take place rows) → after ≡ before ++ rows_left p (r ∷ []) → after ≡ rows_left p (take (place + 1) rows)
left_next p rows place r before after within is so_far more =
    more ∙ ap (λ (rs : List Row). rs ++ rows_left p (r ∷ [])) so_far
    ∙ sym (ap (rows_left p) (take_more rows place r within ∙ ap (λ q. take place rows ++ q ∷ []) (sym is))
    ∙ ap (map (λ (v : Row). (v.0, filter (λ t. not (is_true p t)) v.1))) (filter-append (λ (v : Row). list_any (is_true p) v.1) (take place rows) (r ∷ []))
    ∙ map-append (λ (v : Row). (v.0, filter (λ t. not (is_true p t)) v.1)) (filter (λ (v : Row). list_any (is_true p) v.1) (take place rows)) (filter (λ (v : Row). list_any (is_true p) v.1) (r ∷ [])))
