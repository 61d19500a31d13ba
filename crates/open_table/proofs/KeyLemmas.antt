-- What calls for the first key and for the next one return.
use Rattle.std.proofs.Common.{◌≡◌, ℕ, ◌<◌, ◌≤◌, ◌⊎◌, ◌+◌, inl, inr, refl, ap, sym, ◌∙◌, Bool, true, false, Option, Some, None, arith}
use Rattle.std.specs.Prelude.{IsTrue, nat_lt, option_map}
use Rattle.std.proofs.lemmas.Bool.{ltb-true, ltb-false, true≢false}
use Rattle.term_core.specs.Datum.{Datum}
use Rattle.part_core.specs.declared.fault.Fault.{Fault}
use Rattle.part_core.specs.declared.fault.Fault.TheVariants as fault
use Rattle.part_core.specs.Acts.Act.{First, Next}
use Rattle.part_core.specs.Acts.Answer.{Replied, Refused}
use Rattle.part_core.specs.Acts.Refusal.{BadKey}
use Rattle.part_core.specs.Acts.Said.{AtKey}
use Rattle.part_core.specs.Legal.{state_after}
use Rattle.part_core.specs.Ops.{refusal_of}
use Rattle.part_core.specs.Settings.{part_of}
use Rattle.part_core.proofs.KeyLemmas.{by_test}
use Rattle.tables.specs.Options.{settings_of}
use Rattle.tables.specs.OneThread.{TableState}
use Rattle.tables.specs.Turns.{Home, Views, Follows}
use Rattle.walks.specs.Keys.{FoundFirst, FoundNext, Passed, RefusedAt, RefusedNext, Stopped}
use Rattle.walks.specs.OneThread.{first_key, key_after}
use Rattle.walks.proofs.OneThreadLemmas.{first_turn, found_first, found_next, next_states, refused_next}
use Rattle.open_table.specs.Calls.{following}
use Rattle.open_table.specs.Parts.{IsAt}
use Rattle.open_table.proofs.CallLemmas.{DoesAt}
use Rattle.open_table.proofs.LinkLemmas.{stays_at, unturned}

-- ---- the first key

pub first_found : (h : Home) (before now : Views → Type 0) (key : Option Datum) → IsTrue h.alone → Follows before now (FoundFirst h 0 key) → (t : TableState) → IsAt h.options before t → (key ≡ first_key t) × IsAt h.options now t
first_found h before now key alone follows t at =
    let next = follows at.views at.seen in
    let found = found_first h t at.views next.0 0 key (omega arith) alone at.options at.states next.2 in
    (found.0, record { options = at.options; views = next.0; seen = next.1; states = found.1 })

-- turns at parts without a key leave their states
passed_same : (h : Home) (v w : Views) (from to : ℕ) → IsTrue h.alone → Passed h from to v w → (k : ℕ) → state_after (settings_of h.options) (w k) ≡ state_after (settings_of h.options) (v k)
passed_same h v w from to alone passed k =
    by_test (nat_lt k from) (state_after (settings_of h.options) (w k) ≡ state_after (settings_of h.options) (v k))
    (λ low. out (inl (ltb-true k from low)))
    (λ high. by_test (nat_lt k to) (state_after (settings_of h.options) (w k) ≡ state_after (settings_of h.options) (v k))
    (λ below. (first_turn h (v k) (w k) None alone (passed.none k (ltb-false k from high) (ltb-true k to below))).1)
    (λ above. out (inr (ltb-false k to above))))
  where
    out : (k < from) ⊎ (to ≤ k) → state_after (settings_of h.options) (w k) ≡ state_after (settings_of h.options) (v k)
    out there = ap (state_after (settings_of h.options)) (passed.rest k there)

-- so do turns of which the last ran out of memory
stopped_same : (h : Home) (from : ℕ) (v w : Views) → IsTrue h.alone → Stopped h from None v w → (k : ℕ) → state_after (settings_of h.options) (w k) ≡ state_after (settings_of h.options) (v k)
stopped_same h from v w alone s k =
    ap (state_after (settings_of h.options)) (unturned h s.part First s.between w alone s.last k) ∙ passed_same h v s.between from s.part alone s.passed k

pub first_stopped : (h : Home) (before now : Views → Type 0) → IsTrue h.alone → Follows before now (Stopped h 0 None) → (t : TableState) → IsAt h.options before t → IsAt h.options now t
first_stopped h before now alone follows t at =
    let next = follows at.views at.seen in
    stays_at h.options before now t at next.0 next.1 (λ k inside. stopped_same h 0 at.views next.0 alone next.2 k)

-- ---- the next key

pub next_found : (h : Home) (before now : Views → Type 0) (k : Datum) (next : Option Datum) → IsTrue h.alone → 0 < h.options.parts → Follows before now (FoundNext h k next) → DoesAt h.options before now (following h.number k) (Some (Replied (AtKey next)))
next_found h before now k next alone some follows = λ t at.
    let after = follows at.views at.seen in
    let found = found_next h t at.views after.0 k next some alone at.options at.states after.2 in
    (found.0, record { options = at.options; views = after.0; seen = after.1; states = found.1 })

abbrev is_memory : Fault → Bool
is_memory fault.Memory = true
is_memory f = false

-- a fault other than these two is none of this call
no_other : (h : Home) (k : Datum) (f : Fault) (v w : Views) → is_memory f ≡ false → (RefusedAt h (part_of (settings_of h.options) k) k f v w → ⊥) → RefusedNext h k f v w → ⊥
no_other h k f v w other none (inl there) = none there
no_other h k f v w other none (inr both) = true≢false (sym (ap is_memory both.0) ∙ other)

pub next_refused : (h : Home) (before now : Views → Type 0) (k : Datum) (f : Fault) → IsTrue h.alone → 0 < h.options.parts → Follows before now (RefusedNext h k f) → DoesAt h.options before now (following h.number k) (option_map Refused (refusal_of f))
next_refused h before now k fault.Memory alone some follows = λ t at.
    let after = follows at.views at.seen in
    of t at after.0 after.1 after.2
  where
    of : (t : TableState) (at : IsAt h.options before t) (w : Views) → now w → RefusedNext h k fault.Memory at.views w → IsAt h.options now t
    of t at w seen (inl turned) =
        stays_at h.options before now t at w seen (λ j inside. ap (state_after (settings_of h.options)) (unturned h (part_of (settings_of h.options) k) (Next k) at.views w alone turned j))
    of t at w seen (inr (is, u, turned, stopped)) =
        record {
          options = at.options;
          views = w;
          seen = seen;
          states = λ j inside.
              next_states h t at.views u (part_of (settings_of h.options) k) k (Replied (AtKey None)) alone at.states turned j inside
              ∙ sym (stopped_same h (part_of (settings_of h.options) k + 1) u w alone stopped j);
        }
next_refused h before now k fault.BadKey alone some follows = λ t at.
    let after = follows at.views at.seen in
    of t at after.0 after.1 after.2
  where
    of : (t : TableState) (at : IsAt h.options before t) (w : Views) → now w → RefusedNext h k fault.BadKey at.views w → (Refused BadKey ≡ key_after t h.number k) × IsAt h.options now t
    of t at w seen (inl turned) =
        let found = refused_next h t at.views w k some alone at.options at.states turned in
        (found.0, record { options = at.options; views = w; seen = seen; states = found.1 })
    of t at w seen (inr other) = absurd (true≢false (sym (ap is_memory other.0)))
next_refused h before now k fault.TooSmall alone some follows = λ t at. absurd (no_other h k fault.TooSmall at.views (follows at.views at.seen).0 refl (λ wrong. wrong) (follows at.views at.seen).2)
next_refused h before now k fault.FixLimit alone some follows = λ t at. absurd (no_other h k fault.FixLimit at.views (follows at.views at.seen).0 refl (λ wrong. wrong) (follows at.views at.seen).2)
next_refused h before now k fault.NotFixed alone some follows = λ t at. absurd (no_other h k fault.NotFixed at.views (follows at.views at.seen).0 refl (λ wrong. wrong) (follows at.views at.seen).2)
next_refused h before now k fault.CursorOutside alone some follows = λ t at. absurd (no_other h k fault.CursorOutside at.views (follows at.views at.seen).0 refl (λ wrong. wrong) (follows at.views at.seen).2)
