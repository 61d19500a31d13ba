-- The order of a tour in a state of a part: what is found first or after a key, and that the order stays.
use Rattle.std.proofs.Common.{◌≡◌, ◌≢◌, ℕ, ◌<◌, ◌⊎◌, inl, inr, List, [], refl, ap, sym, subst, ◌∙◌, arith}
use Rattle.std.specs.Prelude.{Bool, true, false, IsTrue, Option, Some, None}
use Rattle.std.specs.Map.{keys_of}
use Rattle.std.specs.declared.cmp.Ordering.TheVariants.{Less}
use Rattle.std.specs.Ordering.{is_lt}
use Rattle.std.proofs.lemmas.Bool.{true≢false}
use Rattle.term_core.specs.Datum.{Datum}
use Rattle.term_core.specs.Order.{datum_cmp}
use Rattle.term_core.specs.OrderLaws.{datum_cmp_total}
use Rattle.part_core.specs.declared.settings.Settings.{Settings}
use Rattle.part_core.specs.Settings.{is_ordered}
use Rattle.part_core.specs.Acts.{Answer}
use Rattle.part_core.specs.Acts.Act.{First, Next}
use Rattle.part_core.specs.Acts.Answer.{Replied, Refused}
use Rattle.part_core.specs.Acts.Refusal.{BadKey}
use Rattle.part_core.specs.Acts.Said.{AtKey}
use Rattle.part_core.specs.Rows.{Row, PartState, objects_at, has_row}
use Rattle.part_core.specs.Replies.{reply_of, first_live, rows_past}
use Rattle.part_core.specs.States.{IsState}
use Rattle.part_core.specs.Visits.{following_rows, walk_order}
use Rattle.part_core.specs.Laws.{Stays}
use Rattle.part_core.proofs.KeyLemmas.{by_test, not_behind_itself}
use Rattle.part_core.proofs.RowLemmas.{no_objects}
use Rattle.part_core.proofs.StateLemmas.{base_least}
use Rattle.walk_laws.proofs.OrderLemmas.{Before, before_apart, before_then, once_from_distinct, walk_keys, walk_once, walk_keeps}
use Rattle.walk_laws.proofs.LiveLemmas.{HasLive, live_there, there_live, live_walked, walked_live, first_is, first_none, first_least, past_is, past_none, past_least, before_less, behind_is, behind_none, behind_least}

-- the key has objects
abbrev pub IsThere : PartState → Datum → Type 0
IsThere s k = objects_at s.rows k ≢ []

-- the first key comes before the second: in an ordered set in the order of terms, else in walk order
abbrev pub PrecedesBy : Bool → Settings → PartState → Datum → Datum → Type 0
PrecedesBy true o s j k = datum_cmp j k ≡ Less
PrecedesBy false o s j k = Before (walk_keys o s.base s.rows) j k

abbrev pub Precedes : Settings → PartState → Datum → Datum → Type 0
Precedes o s j k = PrecedesBy (is_ordered o.kind) o s j k

-- the first key of a part that has objects, if there is one
abbrev pub IsFirst : Settings → PartState → Option Datum → Type 0
IsFirst o s None = (l : Datum) → IsThere s l → ⊥
IsFirst o s (Some j) = IsThere s j × ((l : Datum) → IsThere s l → (l ≡ j) ⊎ Precedes o s j l)

-- the first key after another that has objects, if there is one
abbrev pub IsNext : Settings → PartState → Datum → Option Datum → Type 0
IsNext o s k None = (l : Datum) → IsThere s l → Precedes o s k l → ⊥
IsNext o s k (Some j) =
    IsThere s j × Precedes o s k j × ((l : Datum) → IsThere s l → Precedes o s k l → (l ≡ j) ⊎ Precedes o s j l)

-- the order in the first state is that in the second, too
abbrev pub IsHeld : Settings → PartState → PartState → Type 0
IsHeld o s t = IsTrue (is_ordered o.kind) ⊎ Stays o s t

-- ---- the order

as_less : (o : Settings) (s : PartState) (j k : Datum) → is_ordered o.kind ≡ true → Precedes o s j k → datum_cmp j k ≡ Less
as_less o s j k ordered h = subst (λ b. PrecedesBy b o s j k) ordered h

from_less : (o : Settings) (s : PartState) (j k : Datum) → is_ordered o.kind ≡ true → datum_cmp j k ≡ Less → Precedes o s j k
from_less o s j k ordered h = subst (λ b. PrecedesBy b o s j k) (sym ordered) h

as_before : (o : Settings) (s : PartState) (j k : Datum) → is_ordered o.kind ≡ false → Precedes o s j k → Before (walk_keys o s.base s.rows) j k
as_before o s j k plain h = subst (λ b. PrecedesBy b o s j k) plain h

from_before : (o : Settings) (s : PartState) (j k : Datum) → is_ordered o.kind ≡ false → Before (walk_keys o s.base s.rows) j k → Precedes o s j k
from_before o s j k plain h = subst (λ b. PrecedesBy b o s j k) (sym plain) h

pub precedes_less : (o : Settings) (s : PartState) (j k : Datum) → IsTrue (is_ordered o.kind) → Precedes o s j k → datum_cmp j k ≡ Less
precedes_less o s j k ordered h = as_less o s j k ordered h

pub precedes_apart : (o : Settings) (s : PartState) (k : Datum) → IsState o s → Precedes o s k k → ⊥
precedes_apart o s k state h =
    by_test (is_ordered o.kind) ⊥
    (λ ordered. true≢false (sym (ap is_lt (as_less o s k k ordered h)) ∙ not_behind_itself k))
    (λ plain. before_apart (walk_keys o s.base s.rows) k (walk_once o s.base s.rows plain state.rows.distinct) (as_before o s k k plain h))

pub precedes_then : (o : Settings) (s : PartState) (i j k : Datum) → IsState o s → Precedes o s i j → Precedes o s j k → Precedes o s i k
precedes_then o s i j k state a b =
    by_test (is_ordered o.kind) (Precedes o s i k)
    (λ ordered. from_less o s i k ordered (datum_cmp_total.trans i j k (as_less o s i j ordered a) (as_less o s j k ordered b)))
    (λ plain. from_before o s i k plain (before_then (walk_keys o s.base s.rows) i j k (walk_once o s.base s.rows plain state.rows.distinct) (as_before o s i j plain a) (as_before o s j k plain b)))

pub precedes_held : (o : Settings) (s t : PartState) (j k : Datum) → IsHeld o s t → Precedes o s j k → Precedes o t j k
precedes_held o s t j k (inl ordered) h = from_less o t j k ordered (as_less o s j k ordered h)
precedes_held o s t j k (inr stays) h =
    by_test (is_ordered o.kind) (Precedes o t j k)
    (λ ordered. from_less o t j k ordered (as_less o s j k ordered h))
    (λ plain. let grown = stays.order plain in
    from_before o t j k plain (subst (λ (base : ℕ). Before (walk_keys o base t.rows) j k) (sym stays.base) ((walk_keeps o s.base s.rows t.rows grown.0 plain grown.1).before j k (as_before o s j k plain h))))

-- ---- what is found

abbrev key_said : Answer → Option Datum
key_said (Replied (AtKey k)) = k
key_said answer = None

-- the rows of an ordered set are walked in the order of the list
ordered_walk : (o : Settings) (base : ℕ) (rows : List Row) → is_ordered o.kind ≡ true → walk_order o base rows ≡ rows
unfolding walk_order
ordered_walk o base rows ordered = rw ordered refl

walk_precedes : (o : Settings) (s : PartState) (j l : Datum) → IsState o s → Before (walk_keys o s.base s.rows) j l → Precedes o s j l
walk_precedes o s j l state b =
    by_test (is_ordered o.kind) (Precedes o s j l)
    (λ ordered. from_less o s j l ordered (before_less (keys_of s.rows) j l (state.rows.rising ordered) (subst (λ (rows : List Row). Before (keys_of rows) j l) (ordered_walk o s.base s.rows ordered) b)))
    (λ plain. from_before o s j l plain b)

some_base : (o : Settings) (s : PartState) → IsState o s → 0 < s.base
some_base o s state = let most = base_least s.base state.base.0 in omega (arith, most)

-- a key has objects if and only if it has a live row in walk order
walked : (o : Settings) (s : PartState) (l : Datum) → IsState o s → IsThere s l → HasLive (walk_order o s.base s.rows) l
walked o s l state there = live_walked o s.base s.rows l (some_base o s state) (live_there s.rows l there)

rows_there : (o : Settings) (s : PartState) (l : Datum) → IsState o s → HasLive s.rows l → IsThere s l
rows_there o s l state live = there_live s.rows l (once_from_distinct (keys_of s.rows) state.rows.distinct) live

first_found : (o : Settings) (s : PartState) (key : Option Datum) → IsState o s → first_live (walk_order o s.base s.rows) ≡ key → IsFirst o s key
first_found o s None state is = λ l there. first_none (walk_order o s.base s.rows) l is (walked o s l state there)
first_found o s (Some j) state is = (
  rows_there o s j state (walked_live o s.base s.rows j (first_is (walk_order o s.base s.rows) j is)),
  λ l there. of l (first_least (walk_order o s.base s.rows) j l is (walked o s l state there)),
)
  where
    of : (l : Datum) → (l ≡ j) ⊎ Before (walk_keys o s.base s.rows) j l → (l ≡ j) ⊎ Precedes o s j l
    of l (inl same) = inl same
    of l (inr b) = inr (walk_precedes o s j l state b)

behind_found : (o : Settings) (s : PartState) (k : Datum) (key : Option Datum) → IsState o s → is_ordered o.kind ≡ true → first_live (following_rows k s.rows) ≡ key → IsNext o s k key
behind_found o s k None state ordered is =
    λ l there less. behind_none k s.rows l is (as_less o s k l ordered less) (live_there s.rows l there)
behind_found o s k (Some j) state ordered is =
    let there = behind_is k s.rows j is in (
      rows_there o s j state there.0,
      from_less o s k j ordered there.1,
      λ l live less. of l (behind_least k s.rows j l (state.rows.rising ordered) is (as_less o s k l ordered less) (live_there s.rows l live)),
    )
  where
    of : (l : Datum) → (l ≡ j) ⊎ (datum_cmp j l ≡ Less) → (l ≡ j) ⊎ Precedes o s j l
    of l (inl same) = inl same
    of l (inr less) = inr (from_less o s j l ordered less)

past_found : (o : Settings) (s : PartState) (k : Datum) (key : Option Datum) → IsState o s → is_ordered o.kind ≡ false → first_live (rows_past k (walk_order o s.base s.rows)) ≡ key → IsNext o s k key
past_found o s k None state plain is =
    λ l there b. past_none k (walk_order o s.base s.rows) l (walk_once o s.base s.rows plain state.rows.distinct) is (as_before o s k l plain b) (walked o s l state there)
past_found o s k (Some j) state plain is =
    let there = past_is k (walk_order o s.base s.rows) j is in (
      rows_there o s j state (walked_live o s.base s.rows j there.0),
      from_before o s k j plain there.1,
      λ l live b. of l (past_least k (walk_order o s.base s.rows) j l (walk_once o s.base s.rows plain state.rows.distinct) is (as_before o s k l plain b) (walked o s l state live)),
    )
  where
    of : (l : Datum) → (l ≡ j) ⊎ Before (walk_keys o s.base s.rows) j l → (l ≡ j) ⊎ Precedes o s j l
    of l (inl same) = inl same
    of l (inr b) = inr (from_before o s j l plain b)

-- the answers of a part
reply_first : (o : Settings) (s : PartState) (n : ℕ) → reply_of o s n First ≡ Replied (AtKey (first_live (walk_order o s.base s.rows)))
unfolding reply_of
reply_first o s n = refl

reply_ordered : (o : Settings) (s : PartState) (n : ℕ) (k : Datum) → is_ordered o.kind ≡ true → reply_of o s n (Next k) ≡ Replied (AtKey (first_live (following_rows k s.rows)))
unfolding reply_of
reply_ordered o s n k ordered = rw ordered refl

reply_past : (o : Settings) (s : PartState) (n : ℕ) (k : Datum) → is_ordered o.kind ≡ false → has_row s.rows k ≡ true → reply_of o s n (Next k) ≡ Replied (AtKey (first_live (rows_past k (walk_order o s.base s.rows))))
unfolding reply_of
reply_past o s n k plain there = rw (plain, there) refl

reply_bad : (o : Settings) (s : PartState) (n : ℕ) (k : Datum) → is_ordered o.kind ≡ false → has_row s.rows k ≡ false → reply_of o s n (Next k) ≡ Refused BadKey
unfolding reply_of
reply_bad o s n k plain none = rw (plain, none) refl

not_bad : (key : Option Datum) → Replied (AtKey key) ≡ Refused BadKey → ⊥
not_bad key e = cc

pub first_answered : (o : Settings) (s : PartState) (n : ℕ) (key : Option Datum) → IsState o s → Replied (AtKey key) ≡ reply_of o s n First → IsFirst o s key
first_answered o s n key state is = first_found o s key state (sym (ap key_said (is ∙ reply_first o s n)))

pub next_answered : (o : Settings) (s : PartState) (n : ℕ) (k : Datum) (key : Option Datum) → IsState o s → Replied (AtKey key) ≡ reply_of o s n (Next k) → IsNext o s k key
next_answered o s n k key state is =
    by_test (is_ordered o.kind) (IsNext o s k key)
    (λ ordered. behind_found o s k key state ordered (sym (ap key_said (is ∙ reply_ordered o s n k ordered))))
    (λ plain. by_test (has_row s.rows k) (IsNext o s k key)
    (λ there. past_found o s k key state plain (sym (ap key_said (is ∙ reply_past o s n k plain there))))
    (λ none. absurd (not_bad key (is ∙ reply_bad o s n k plain none))))

-- a key that had objects isn't refused while the order stays
pub never_bad : (o : Settings) (s t : PartState) (n : ℕ) (k : Datum) → IsThere s k → IsHeld o s t → Refused BadKey ≡ reply_of o t n (Next k) → ⊥
never_bad o s t n k there held is =
    by_test (is_ordered o.kind) ⊥
    (λ ordered. not_bad (first_live (following_rows k t.rows)) (sym (is ∙ reply_ordered o t n k ordered)))
    (λ plain. not_bad (first_live (rows_past k (walk_order o t.base t.rows))) (sym (is ∙ reply_past o t n k plain (row_stays held plain))))
  where
    has : has_row s.rows k ≡ true
    has = by_test (has_row s.rows k) (has_row s.rows k ≡ true) (λ row. row) (λ none. absurd (there (no_objects s.rows k none)))

    row_stays : IsHeld o s t → is_ordered o.kind ≡ false → has_row t.rows k ≡ true
    row_stays (inl ordered) plain = absurd (true≢false (sym ordered ∙ plain))
    row_stays (inr stays) plain = stays.rows k has
