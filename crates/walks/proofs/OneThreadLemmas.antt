-- What turns for keys return if a session is alone with its table.
use Rattle.std.proofs.Common.{◌≡◌, ℕ, zero, suc, ◌+◌, ◌-◌, ◌<◌, ◌≤◌, ◌==◌, ◌⊎◌, inl, inr, [], ◌++◌, refl, ap, sym, subst, ◌∙◌, arith, Option, Some, None, flat_map}
use Rattle.std.specs.Prelude.{IsTrue, nat_lt}
use Rattle.std.specs.List.{range_with_len}
use Rattle.std.proofs.lemmas.Bool.{eqb-true, eqb-false, ltb-true, ltb-false}
use Rattle.std.proofs.lemmas.List.{append-nil}
use Rattle.term_core.specs.Datum.{Datum}
use Rattle.term_core.specs.KeyHash.{key_hash}
use Rattle.std.proofs.lemmas.Nat.{mod_below}
use Rattle.part_core.specs.Acts.Refusal.{BadKey}
use Rattle.part_core.specs.Settings.{part_of}
use Rattle.part_core.specs.Acts.{Act, Answer, History}
use Rattle.part_core.specs.Acts.Act.{First, Next}
use Rattle.part_core.specs.Acts.Answer.{Replied, Refused}
use Rattle.part_core.specs.Acts.Said.{AtKey}
use Rattle.part_core.specs.Rows.{PartState}
use Rattle.part_core.specs.Visits.{walk_order}
use Rattle.part_core.specs.Replies.{reply_of, first_live}
use Rattle.part_core.specs.Legal.{state_after, IsLegal}
use Rattle.part_core.proofs.KeyLemmas.{by_test}
use Rattle.part_core.proofs.AfterLemmas.{read_after}
use Rattle.part_core.proofs.HistoryLemmas.{state_of}
use Rattle.tables.specs.declared.options.Options.{Options}
use Rattle.tables.specs.Options.{settings_of}
use Rattle.tables.specs.Turns.{Home, Views, TurnedAt, Turned}
use Rattle.tables.specs.OneThread.{TableState}
use Rattle.tables.proofs.TurnLemmas.{turned_front, turned_alone}
use Rattle.part_core.proofs.LiveLemmas.{live_first, live_later}
use Rattle.walks.specs.Keys.{Passed, FoundFirst, FoundNext}
use Rattle.walks.specs.OneThread.{rows_from_part, key_or_later, key_after}

-- ---- a turn for a key

-- the history before a turn is legal
legal_before : (h : Home) (old new : History) (act : Act) (answer : Option Answer) → IsTrue h.alone → TurnedAt h old act answer new → IsLegal (settings_of h.options) old
legal_before h old new act answer alone t =
    subst (IsLegal (settings_of h.options)) (ap (λ (es : History). old ++ es) (t.others.alone alone) ∙ append-nil old) (turned_front h old new act answer t)

pub first_turn : (h : Home) (old new : History) (key : Option Datum) → IsTrue h.alone → TurnedAt h old First (Some (Replied (AtKey key))) new
    → (key ≡ first_live (walk_order (settings_of h.options) (state_after (settings_of h.options) old).base (state_after (settings_of h.options) old).rows))
    × (state_after (settings_of h.options) new ≡ state_after (settings_of h.options) old)
unfolding reply_of
first_turn h old new key alone t =
    let turned = turned_alone h old new First (Replied (AtKey key)) alone t in
    (ap key_said turned.0, sym turned.1 ∙ read_after (settings_of h.options) (state_after (settings_of h.options) old) h.number First _ (state_of (settings_of h.options) old (legal_before h old new First _ alone t)) refl refl refl)
  where
    key_said : Answer → Option Datum
    key_said (Replied (AtKey k)) = k
    key_said answer = None

pub next_turn : (h : Home) (old new : History) (k : Datum) (answer : Answer) → IsTrue h.alone → TurnedAt h old (Next k) (Some answer) new
    → (answer ≡ reply_of (settings_of h.options) (state_after (settings_of h.options) old) h.number (Next k))
    × (state_after (settings_of h.options) new ≡ state_after (settings_of h.options) old)
next_turn h old new k answer alone t =
    let turned = turned_alone h old new (Next k) answer alone t in
    (turned.0, sym turned.1 ∙ read_after (settings_of h.options) (state_after (settings_of h.options) old) h.number (Next k) _ (state_of (settings_of h.options) old (legal_before h old new (Next k) _ alone t)) refl refl refl)

-- ---- the parts from one on

-- the states of a table are those that the session sees
abbrev pub AreStates : Home → TableState → Views → Type 0
AreStates h t v = (k : ℕ) → k < h.options.parts → t.states k ≡ state_after (settings_of h.options) (v k)

rows_step : (t : TableState) (part : ℕ) → part < t.options.parts
    → rows_from_part t part ≡ walk_order (settings_of t.options) (t.states part).base (t.states part).rows ++ rows_from_part t (part + 1)
rows_step t part below =
    let one : t.options.parts - part ≡ suc (t.options.parts - (part + 1)) = omega (arith, below) in
    ap (λ n. flat_map (λ k. walk_order (settings_of t.options) (t.states k).base (t.states k).rows) (range_with_len part n)) one

rows_end : (t : TableState) (part : ℕ) → t.options.parts ≤ part → rows_from_part t part ≡ []
rows_end t part past =
    let none : t.options.parts - part ≡ 0 = omega (arith, past) in
    ap (λ n. flat_map (λ k. walk_order (settings_of t.options) (t.states k).base (t.states k).rows) (range_with_len part n)) none

-- the first key of a part is that of the rows of its state
part_first : (h : Home) (t : TableState) (v : Views) (part : ℕ) (key : Option Datum) (new : History) → IsTrue h.alone → t.options ≡ h.options → AreStates h t v → part < h.options.parts
    → TurnedAt h (v part) First (Some (Replied (AtKey key))) new
    → key ≡ first_live (walk_order (settings_of t.options) (t.states part).base (t.states part).rows)
part_first h t v part key new alone same states inside turned =
    (first_turn h (v part) new key alone turned).0
    ∙ ap (λ (s : PartState). first_live (walk_order (settings_of h.options) s.base s.rows)) (sym (states part inside))
    ∙ ap (λ (x : Options). first_live (walk_order (settings_of x) (t.states part).base (t.states part).rows)) (sym same)

passed_walk : (h : Home) (t : TableState) (v w : Views) (n from to : ℕ) → from + n ≡ to → to ≤ h.options.parts → IsTrue h.alone → t.options ≡ h.options → AreStates h t v
    → ((k : ℕ) → from ≤ k → k < to → TurnedAt h (v k) First (Some (Replied (AtKey None))) (w k))
    → first_live (rows_from_part t from) ≡ first_live (rows_from_part t to)
passed_walk h t v w zero from to is inside alone same states none = ap (λ k. first_live (rows_from_part t k)) (omega (arith, is))
passed_walk h t v w (suc n) from to is inside alone same states none =
    let below : from < h.options.parts = omega (arith, is, inside) in
    let here : from < t.options.parts = subst (λ (x : Options). from < x.parts) (sym same) below in
    ap first_live (rows_step t from here)
    ∙ live_later (walk_order (settings_of t.options) (t.states from).base (t.states from).rows) (rows_from_part t (from + 1)) (sym (part_first h t v from None (w from) alone same states below (none from (omega arith) (omega (arith, is)))))
    ∙ passed_walk h t v w n (from + 1) to (omega (arith, is)) inside alone same states (λ k low high. none k (omega (arith, low)) high)

passed_states : (h : Home) (t : TableState) (v w : Views) (from to : ℕ) → IsTrue h.alone → AreStates h t v → Passed h from to v w → AreStates h t w
passed_states h t v w from to alone states passed k inside =
    by_test (nat_lt k from) (t.states k ≡ state_after (settings_of h.options) (w k)) (λ low. stays (inl (ltb-true k from low)))
    (λ high. by_test (nat_lt k to) (t.states k ≡ state_after (settings_of h.options) (w k))
    (λ below. states k inside ∙ sym (first_turn h (v k) (w k) None alone (passed.none k (ltb-false k from high) (ltb-true k to below))).1)
    (λ above. stays (inr (ltb-false k to above))))
  where
    stays : (k < from) ⊎ (to ≤ k) → t.states k ≡ state_after (settings_of h.options) (w k)
    stays out = states k inside ∙ ap (state_after (settings_of h.options)) (sym (passed.rest k out))

-- a turn for the first key leaves the states unchanged
turned_states : (h : Home) (t : TableState) (v w : Views) (part : ℕ) (key : Option Datum) → IsTrue h.alone → AreStates h t v → Turned h part First (Some (Replied (AtKey key))) v w → AreStates h t w
turned_states h t v w part key alone states turned k inside =
    by_test (k == part) (t.states k ≡ state_after (settings_of h.options) (w k))
    (λ same. let is : k ≡ part = eqb-true k part same in
    states k inside ∙ subst (λ (j : ℕ). state_after (settings_of h.options) (v j) ≡ state_after (settings_of h.options) (w j)) (sym is) (sym (first_turn h (v part) (w part) key alone turned.here).1))
    (λ other. states k inside ∙ ap (state_after (settings_of h.options)) (sym (turned.rest k (eqb-false k part other))))

-- a turn for the key after another leaves the states unchanged
pub next_states : (h : Home) (t : TableState) (v w : Views) (part : ℕ) (j : Datum) (answer : Answer) → IsTrue h.alone → AreStates h t v → Turned h part (Next j) (Some answer) v w → AreStates h t w
next_states h t v w part j answer alone states turned k inside =
    by_test (k == part) (t.states k ≡ state_after (settings_of h.options) (w k))
    (λ same. let is : k ≡ part = eqb-true k part same in
    states k inside ∙ subst (λ (i : ℕ). state_after (settings_of h.options) (v i) ≡ state_after (settings_of h.options) (w i)) (sym is) (sym (next_turn h (v part) (w part) j answer alone turned.here).1))
    (λ other. states k inside ∙ ap (state_after (settings_of h.options)) (sym (turned.rest k (eqb-false k part other))))

-- the key that is found from a part on is the first of the walk from there on, and the states are unchanged
pub found_first : (h : Home) (t : TableState) (v w : Views) (from : ℕ) (key : Option Datum) → from ≤ h.options.parts → IsTrue h.alone → t.options ≡ h.options → AreStates h t v
    → FoundFirst h from key v w → (key ≡ first_live (rows_from_part t from)) × AreStates h t w
found_first h t v w from None inside alone same states passed = (
  sym (passed_walk h t v w (h.options.parts - from) from h.options.parts (omega (arith, inside)) (omega arith) alone same states passed.none ∙ ap first_live (rows_end t h.options.parts (subst (λ (x : Options). x.parts ≤ h.options.parts) (sym same) (omega arith)))),
  passed_states h t v w from h.options.parts alone states passed,
)
found_first h t v w from (Some key) inside alone same states s =
    let between : AreStates h t s.between = passed_states h t v s.between from s.part alone states s.passed in
    let here : s.part < t.options.parts = subst (λ (x : Options). s.part < x.parts) (sym same) s.inside.1 in (
      sym (passed_walk h t v s.between (s.part - from) from s.part (omega (arith, s.inside.0)) (omega (arith, s.inside.1)) alone same states s.passed.none
          ∙ ap first_live (rows_step t s.part here)
          ∙ live_first (walk_order (settings_of t.options) (t.states s.part).base (t.states s.part).rows) (rows_from_part t (s.part + 1)) key (sym (part_first h t s.between s.part (Some key) (w s.part) alone same between s.inside.1 s.last.here))),
      turned_states h t s.between w s.part (Some key) alone between s.last,
    )

-- the answer at a key's part is that of its state
part_next : (h : Home) (t : TableState) (v w : Views) (k : Datum) (answer : Answer) → 0 < h.options.parts → IsTrue h.alone → t.options ≡ h.options → AreStates h t v
    → Turned h (part_of (settings_of h.options) k) (Next k) (Some answer) v w
    → key_after t h.number k ≡ key_or_later t (part_of (settings_of h.options) k) answer
part_next h t v w k answer some alone same states turned =
    let part : ℕ = part_of (settings_of h.options) k in
    let inside : part < h.options.parts = mod_below (key_hash k) h.options.parts some in
    ap (λ (x : Options). key_or_later t (part_of (settings_of x) k) (reply_of (settings_of x) (t.states (part_of (settings_of x) k)) h.number (Next k))) same
    ∙ ap (λ (s : PartState). key_or_later t part (reply_of (settings_of h.options) s h.number (Next k))) (states part inside)
    ∙ ap (key_or_later t part) (sym (next_turn h (v part) (w part) k answer alone turned.here).0)

behind_some : (h : Home) (t : TableState) (v w : Views) (k j : Datum) → 0 < h.options.parts → IsTrue h.alone → t.options ≡ h.options → AreStates h t v
    → Turned h (part_of (settings_of h.options) k) (Next k) (Some (Replied (AtKey (Some j)))) v w → key_after t h.number k ≡ Replied (AtKey (Some j))
behind_some h t v w k j some alone same states turned = part_next h t v w k (Replied (AtKey (Some j))) some alone same states turned

behind_none : (h : Home) (t : TableState) (v w : Views) (k : Datum) → 0 < h.options.parts → IsTrue h.alone → t.options ≡ h.options → AreStates h t v
    → Turned h (part_of (settings_of h.options) k) (Next k) (Some (Replied (AtKey None))) v w
    → key_after t h.number k ≡ Replied (AtKey (first_live (rows_from_part t (part_of (settings_of h.options) k + 1))))
behind_none h t v w k some alone same states turned = part_next h t v w k (Replied (AtKey None)) some alone same states turned

-- a refusal of a key without a row is that of the key's state
pub refused_next : (h : Home) (t : TableState) (v w : Views) (k : Datum) → 0 < h.options.parts → IsTrue h.alone → t.options ≡ h.options → AreStates h t v
    → Turned h (part_of (settings_of h.options) k) (Next k) (Some (Refused BadKey)) v w
    → (Refused BadKey ≡ key_after t h.number k) × AreStates h t w
refused_next h t v w k some alone same states turned =
    (sym (part_next h t v w k (Refused BadKey) some alone same states turned), next_states h t v w (part_of (settings_of h.options) k) k (Refused BadKey) alone states turned)

-- the key that is found after another is the first in the walk after its row, and the states are unchanged
pub found_next : (h : Home) (t : TableState) (v w : Views) (k : Datum) (next : Option Datum) → 0 < h.options.parts → IsTrue h.alone → t.options ≡ h.options → AreStates h t v
    → FoundNext h k next v w → (Replied (AtKey next) ≡ key_after t h.number k) × AreStates h t w
found_next h t v w k next some alone same states (inl (j, is, turned)) =
    let part : ℕ = part_of (settings_of h.options) k in
    let inside : part < h.options.parts = mod_below (key_hash k) h.options.parts some in (
      sym (behind_some h t v w k j some alone same states (subst (λ (x : Option Datum). Turned h part (Next k) (Some (Replied (AtKey x))) v w) is turned) ∙ ap (λ (x : Option Datum). Replied (AtKey x)) (sym is)),
      next_states h t v w part k (Replied (AtKey next)) alone states turned,
    )
found_next h t v w k next some alone same states (inr (u, turned, found)) =
    let part : ℕ = part_of (settings_of h.options) k in
    let inside : part < h.options.parts = mod_below (key_hash k) h.options.parts some in
    let between : AreStates h t u = next_states h t v u part k (Replied (AtKey None)) alone states turned in
    let later = found_first h t u w (part + 1) next (omega (arith, inside)) alone same between found in
    (ap (λ (x : Option Datum). Replied (AtKey x)) later.0 ∙ sym (behind_none h t v u k some alone same states turned), later.1)
