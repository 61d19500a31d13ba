-- Turns at parts one after the other, for keys.
use Rattle.std.proofs.Common.{◌≡◌, ◌≢◌, ℕ, ◌+◌, ◌<◌, ◌≤◌, ◌==◌, ◌⊎◌, inl, inr, refl, ap, sym, subst, ◌∙◌, arith, Bool, true, false, option_map, Some, None, IsTrue}
use Rattle.std.proofs.lemmas.Bool.{eqb-true, eqb-false, false≢true}
use Rattle.term_core.specs.Datum.{Datum}
use Rattle.part_core.specs.declared.settings.Settings.{Settings}
use Rattle.part_core.specs.declared.fault.Fault.{Fault}
use Rattle.part_core.specs.declared.fault.Fault.TheVariants as fault
use Rattle.part_core.specs.Settings.{is_ordered}
use Rattle.part_core.specs.Acts.{Answer, Said, Refusal, History, is_refused}
use Rattle.part_core.specs.Acts.Act.{First, Next}
use Rattle.part_core.specs.Acts.Answer.{Replied, Refused}
use Rattle.part_core.specs.Acts.Refusal.{TooSmall, FixLimit, NotFixed, BadKey, CursorOutside}
use Rattle.part_core.specs.Acts.Said.{Nothing, Flag, Objects, AtKey, Found, Counted}
use Rattle.part_core.specs.Ops.{refusal_of}
use Rattle.part_core.specs.Rows.{PartState, has_row}
use Rattle.part_core.specs.Replies.{reply_of}
use Rattle.part_core.proofs.KeyLemmas.{by_test}
use Rattle.tables.specs.Options.{settings_of}
use Rattle.tables.specs.Turns.{Home, Views, TurnedAt, Turned, Follows}
use Rattle.tables.proofs.TurnLemmas.{met, turned_right}
use Rattle.walks.specs.Keys.{Passed, RefusedAt, is_at_key}

pub first_key_said : (o : Settings) (s : PartState) (n : ℕ) → is_at_key (reply_of o s n First) ≡ true
unfolding reply_of
first_key_said o s n = refl

pub first_done : (o : Settings) (s : PartState) (n : ℕ) → is_refused (reply_of o s n First) ≡ false
unfolding reply_of
first_done o s n = refl

-- an answer that the operation `Next` can have
abbrev pub is_next : Answer → Bool
is_next (Replied (AtKey k)) = true
is_next (Refused BadKey) = true
is_next answer = false

pub next_said : (o : Settings) (k : Datum) (s : PartState) (n : ℕ) → is_next (reply_of o s n (Next k)) ≡ true
unfolding reply_of
next_said o k s n =
    by_test (is_ordered o.kind) (is_next (reply_of o s n (Next k)) ≡ true) (λ ordered. rw ordered refl)
    (λ plain. by_test (has_row s.rows k) (is_next (reply_of o s n (Next k)) ≡ true) (λ there. rw (plain, there) refl) (λ missing. rw (plain, missing) refl))

pub next_is_key : (said : Said) → IsTrue (is_next (Replied said)) → IsTrue (is_at_key (Replied said))
next_is_key (AtKey k) is = refl
next_is_key Nothing is = absurd (false≢true is)
next_is_key (Flag b) is = absurd (false≢true is)
next_is_key (Objects os) is = absurd (false≢true is)
next_is_key (Found os c) is = absurd (false≢true is)
next_is_key (Counted n c) is = absurd (false≢true is)

-- `Next` has no other refusal
never : (h : Home) (part : ℕ) (k : Datum) (refusal : Refusal) {v w : Views} → Turned h part (Next k) (Some (Refused refusal)) v w
    → is_next (Refused refusal) ≡ false → ⊥
never h part k refusal t other =
    false≢true (sym other ∙ ap is_next (turned_right h _ _ (Next k) (Refused refusal) t.here) ∙ next_said (settings_of h.options) k (met h _ _ (Next k) (Some (Refused refusal)) t.here) h.number)

-- a refusal at a key's part
pub next_refused : (h : Home) (part : ℕ) (k : Datum) (before now : Views → Type 0) (f : Fault)
    → Follows before now (Turned h part (Next k) (option_map Refused (refusal_of f)))
    → Follows before now (RefusedAt h part k f)
next_refused h part k before now fault.Memory follows = follows
next_refused h part k before now fault.BadKey follows = follows
next_refused h part k before now fault.TooSmall follows = λ v b. absurd (never h part k TooSmall (follows v b).2 refl)
next_refused h part k before now fault.FixLimit follows = λ v b. absurd (never h part k FixLimit (follows v b).2 refl)
next_refused h part k before now fault.NotFixed follows = λ v b. absurd (never h part k NotFixed (follows v b).2 refl)
next_refused h part k before now fault.CursorOutside follows = λ v b. absurd (never h part k CursorOutside (follows v b).2 refl)

-- one more part is passed
pub passed_more : (h : Home) (from part : ℕ) (v w x : Views) → from ≤ part → Passed h from part v w
    → Turned h part First (Some (Replied (AtKey None))) w x → Passed h from (part + 1) v x
passed_more h from part v w x up before t = record { none = none; rest = rest }
  where
    none : (k : ℕ) → from ≤ k → k < part + 1 → TurnedAt h (v k) First (Some (Replied (AtKey None))) (x k)
    none k low high = by_test (k == part) (TurnedAt h (v k) First (Some (Replied (AtKey None))) (x k))
        (λ same. let e : k ≡ part = eqb-true k part same in
        subst (λ (j : ℕ). TurnedAt h (v j) First (Some (Replied (AtKey None))) (x j)) (sym e) (subst (λ (old : History). TurnedAt h old First (Some (Replied (AtKey None))) (x part)) (before.rest part (inr (omega arith))) t.here))
        (λ other. let apart : k ≢ part = eqb-false k part other in
        subst (TurnedAt h (v k) First (Some (Replied (AtKey None)))) (sym (t.rest k apart)) (before.none k low (omega (arith, high, apart))))

    rest : (k : ℕ) → (k < from) ⊎ (part + 1 ≤ k) → x k ≡ v k
    rest k (inl low) = t.rest k (omega (arith, low, up)) ∙ before.rest k (inl low)
    rest k (inr high) = t.rest k (omega (arith, high)) ∙ before.rest k (inr (omega (arith, high)))
