-- Changes of counts of fixes, part by part.
use Rattle.std.proofs.Common.{◌≡◌, ◌≢◌, ℕ, Result, IfErr, ◌+◌, ◌<◌, ◌≤◌, ◌==◌, ◌⊎◌, inl, inr, ◌++◌, [], refl, ap, sym, subst, ◌∙◌, arith, Bool, true, false, if◌then◌else◌, Option, option_map, Some, None, IfSome, IsTrue, IsFalse}
use Rattle.std.specs.Prelude.{nat_lt}
use Rattle.std.specs.Result.{is_ok}
use Rattle.std.proofs.Math.Logic.{∥∥₁_map}
use Rattle.std.proofs.lemmas.Bool.{eqb-true, eqb-false, false≢true}
use Rattle.std.proofs.lemmas.List.{append-nil}
use Rattle.part_core.specs.declared.fault.Fault.{Fault}
use Rattle.part_core.specs.declared.fault.Fault.TheVariants as fault
use Rattle.part_core.specs.declared.reply.Reply.{Reply}
use Rattle.part_core.specs.Ops.{answer_in, refusal_of, takes_no_memory}
use Rattle.part_core.specs.declared.settings.Settings.{Settings}
use Rattle.part_core.specs.Acts.{Act, Answer, Refusal, Said, History, is_refused}
use Rattle.part_core.specs.Acts.Answer.{Replied, Refused}
use Rattle.part_core.specs.Acts.Refusal.{TooSmall, FixLimit, NotFixed, BadKey, CursorOutside}
use Rattle.part_core.specs.Acts.Said.{Nothing}
use Rattle.part_core.specs.Rows.{PartState}
use Rattle.part_core.specs.Replies.{reply_of, fixes_of, most_fixes}
use Rattle.part_core.specs.Legal.{state_after, fix_count}
use Rattle.part_core.proofs.HistoryLemmas.{counts_of}
use Rattle.part_core.proofs.KeyLemmas.{by_test}
use Rattle.tables.specs.declared.fixing.Change.{Change}
use Rattle.tables.specs.declared.fixing.Change.TheVariants as change
use Rattle.tables.specs.Options.{settings_of}
use Rattle.tables.specs.Turns.{Home, Views, TurnedAt, Turned, TurnedEach, Follows}
use Rattle.tables.specs.Calls.{is_granted, IsGranted}
use Rattle.tables.specs.Fixing.{act_of_change, reached, IsGrantedFrom, TurnedFrom}
use Rattle.tables.proofs.TurnLemmas.{count_own, met, turned_right, turned_front, surely_done}

-- turns at the parts from one up to another, and none at the others
pub record TurnedWithin (h : Home) (act : Act) (from part : ℕ) (v w : Views) : Type 0 where
  pub turned : (k : ℕ) → from ≤ k → k < part → TurnedAt h (v k) act (Some (Replied Nothing)) (w k)
  pub rest : (k : ℕ) → (k < from) ⊎ (part ≤ k) → w k ≡ v k

-- a change that a count allows is answered with nothing
pub granted_said : (o : Settings) (s : PartState) (n : ℕ) (c : Change) → is_granted (act_of_change c) (fixes_of s n) ≡ true
    → reply_of o s n (act_of_change c) ≡ Replied Nothing
unfolding reply_of
granted_said o s n change.Fix h = rw h refl
granted_said o s n change.Unfix h = rw h refl
granted_said o s n change.Release h = refl

-- a change that a session's count allows is not refused
pub granted_turn : (h : Home) (old new : History) (c : Change) (answer : Answer) → h.number < (settings_of h.options).sessions
    → is_granted (act_of_change c) (fix_count h.number old) ≡ true
    → TurnedAt h old (act_of_change c) (Some answer) new → answer ≡ Replied Nothing
granted_turn h old new c answer session granted t =
    let o = settings_of h.options in
    let counted : fixes_of (state_after o (old ++ t.between)) h.number ≡ fix_count h.number old = counts_of o (old ++ t.between) h.number (turned_front h old new (act_of_change c) (Some answer) t) session ∙ count_own h.number old t.between t.others.others in
    turned_right h old new (act_of_change c) answer t ∙ granted_said o (state_after o (old ++ t.between)) h.number c (ap (is_granted (act_of_change c)) counted ∙ granted)

-- a change that was made at some parts is made at one more
turned_more : (h : Home) (c : Change) (from part : ℕ) (answer : Answer) (v w x : Views) → h.number < (settings_of h.options).sessions → from ≤ part
    → is_granted (act_of_change c) (fix_count h.number (v part)) ≡ true
    → TurnedWithin h (act_of_change c) from part v w → Turned h part (act_of_change c) (Some answer) w x
    → TurnedWithin h (act_of_change c) from (part + 1) v x
turned_more h c from part answer v w x session up granted before t =
    let here : TurnedAt h (v part) (act_of_change c) (Some answer) (x part) = subst (λ (old : History). TurnedAt h old (act_of_change c) (Some answer) (x part)) (before.rest part (inr (omega arith))) t.here in
    let done : TurnedAt h (v part) (act_of_change c) (Some (Replied Nothing)) (x part) = subst (λ (a : Answer). TurnedAt h (v part) (act_of_change c) (Some a) (x part)) (granted_turn h (v part) (x part) c answer session granted here) here in
    record {
      turned = λ k low high. by_test (k == part) (TurnedAt h (v k) (act_of_change c) (Some (Replied Nothing)) (x k))
          (λ same. subst (λ (j : ℕ). TurnedAt h (v j) (act_of_change c) (Some (Replied Nothing)) (x j)) (sym (eqb-true k part same)) done)
          (λ other. let apart : k ≢ part = eqb-false k part other in subst (TurnedAt h (v k) (act_of_change c) (Some (Replied Nothing))) (sym (t.rest k apart)) (before.turned k low (omega (arith, high, apart))));
      rest = λ k off. t.rest k (apart_from k off) ∙ before.rest k (less k off);
    }
  where
    apart_from : (k : ℕ) → (k < from) ⊎ (part + 1 ≤ k) → k ≢ part
    apart_from k (inl low) = omega (arith, low, up)
    apart_from k (inr high) = omega (arith, high)

    less : (k : ℕ) → (k < from) ⊎ (part + 1 ≤ k) → (k < from) ⊎ (part ≤ k)
    less k (inl low) = inl low
    less k (inr high) = inr (omega (arith, high))

module _ (h : Home) (c : Change) (from part : ℕ) (before now later : Views → Type 0) (session : h.number < (settings_of h.options).sessions) (up : from ≤ part) (inside : part < h.options.parts) (granted : (v : Views) → before v → IsGrantedFrom h from c v) (within : Follows before now (TurnedWithin h (act_of_change c) from part)) where
  -- a change that each count allows is not refused
  not_refused : (v w x : Views) (refusal : Refusal) → before v → TurnedWithin h (act_of_change c) from part v w
      → Turned h part (act_of_change c) (Some (Refused refusal)) w x → ⊥
  not_refused v w x refusal b done t =
      let here : TurnedAt h (v part) (act_of_change c) (Some (Refused refusal)) (x part) = subst (λ (old : History). TurnedAt h old (act_of_change c) (Some (Refused refusal)) (x part)) (done.rest part (inr (omega arith))) t.here in
      false≢true (sym (ap is_refused (granted_turn h (v part) (x part) c (Refused refusal) session (granted v b part up inside) here)))

  -- a change that each count allows is made at one more part
  pub change_step : (answer : Answer) → Follows now later (Turned h part (act_of_change c) (Some answer))
      → Follows before later (TurnedWithin h (act_of_change c) from (part + 1))
  change_step answer turn = λ v b.
      let w = within v b in
      let x = turn w.0 w.1 in
      (x.0, x.1, turned_more h c from part answer v w.0 x.0 session up (granted v b part up inside) w.2 x.2)

  -- one that is not made there is a turn without an entry
  halted : (f : Fault) (v w x : Views) → before v → TurnedWithin h (act_of_change c) from part v w
      → Turned h part (act_of_change c) (option_map Refused (refusal_of f)) w x
      → TurnedFrom h from part (act_of_change c) (Some (Replied Nothing)) v x
  halted fault.Memory v w x b done t = record {
    turned = λ k low high. subst (TurnedAt h (v k) (act_of_change c) (Some (Replied Nothing))) (sym (t.rest k (omega (arith, high)))) (done.turned k low high);
    next = (t.here.between, t.here.others, t.here.grown ∙ append-nil (w part ++ t.here.between) ∙ ap (λ (log : History). log ++ t.here.between) (done.rest part (inr (omega arith))));
    rest = λ k off. t.rest k (apart_from k off) ∙ done.rest k (less k off);
  }
    where
      apart_from : (k : ℕ) → k < from ⊎ part < k → k ≢ part
      apart_from k (inl low) = omega (arith, low, up)
      apart_from k (inr high) = omega (arith, high)

      less : (k : ℕ) → k < from ⊎ part < k → (k < from) ⊎ (part ≤ k)
      less k (inl low) = inl low
      less k (inr high) = inr (omega (arith, high))
  halted fault.TooSmall v w x b done t = absurd (not_refused v w x TooSmall b done t)
  halted fault.FixLimit v w x b done t = absurd (not_refused v w x FixLimit b done t)
  halted fault.NotFixed v w x b done t = absurd (not_refused v w x NotFixed b done t)
  halted fault.BadKey v w x b done t = absurd (not_refused v w x BadKey b done t)
  halted fault.CursorOutside v w x b done t = absurd (not_refused v w x CursorOutside b done t)

  pub change_halts : (f : Fault) → Follows now later (Turned h part (act_of_change c) (option_map Refused (refusal_of f)))
      → Follows before later (TurnedFrom h from part (act_of_change c) (Some (Replied Nothing)))
  change_halts f turn = λ v b.
      let w = within v b in
      let x = turn w.0 w.1 in
      (x.0, x.1, halted f v w.0 x.0 b w.2 x.2)

  -- it is not made only if its turn was put off
  pub change_put_off : (made : Bool) {A : Type 0} (result : Result (Reply A) Fault) → ∥ ((v : Views) × before v) ∥₁
      → Follows now later (Turned h part (act_of_change c) (answer_in result))
      → (IsTrue made → IfErr result (λ f. f ≢ fault.Memory)) → is_ok result ≡ false → made ≡ false
  change_put_off false result seen turn sure failed = refl
  change_put_off true result seen turn sure failed =
      absurd (false≢true (sym failed ∙ surely_done h part (act_of_change c) (λ w. (v : Views) × before v × now w × TurnedWithin h (act_of_change c) from part v w) later result
      (∥∥₁_map seen (λ s. ((within s.0 s.1).0, (s.0, s.1, (within s.0 s.1).1, (within s.0 s.1).2))))
      (λ w b. turn w b.2) (sure refl) (λ w x refusal b t. not_refused b.0 w x refusal b.1 b.3 t)))

-- a change that has reached the end
pub change_ends : (h : Home) (c : Change) (from part : ℕ) (before now : Views → Type 0) → h.options.parts ≤ part → part ≤ h.options.parts
    → Follows before now (TurnedWithin h (act_of_change c) from part)
    → Follows before now (TurnedFrom h from h.options.parts (act_of_change c) (Some (Replied Nothing)))
change_ends h c from part before now low high within = λ v b.
    let w = within v b in (
      w.0,
      w.1,
      record {
        turned = λ k above below. w.2.turned k above (omega (arith, below, low));
        next = ([], record { others = refl; alone = λ alone. refl }, w.2.rest h.options.parts (inr high) ∙ sym (append-nil (v h.options.parts)));
        rest = λ k off. w.2.rest k (less k off);
      },
    )
  where
    less : (k : ℕ) → k < from ⊎ h.options.parts < k → (k < from) ⊎ (part ≤ k)
    less k (inl below) = inl below
    less k (inr above) = inr (omega (arith, above, high))

-- a change from the first part on that is never put off is made at each part
pub change_all : (h : Home) (c : Change) (before now : Views → Type 0) (made : Bool) (at : Option ℕ) → IsTrue made
    → Follows before now (TurnedFrom h 0 (reached h.options at) (act_of_change c) (Some (Replied Nothing)))
    → IfSome at (λ part. (0 ≤ part) × (part < h.options.parts) × IsFalse made)
    → Follows before now (TurnedEach h (act_of_change c) (Some (Replied Nothing)))
change_all h c before now made None sure turned put_off = λ v b. let t = turned v b in (t.0, t.1, λ part inside. t.2.turned part (omega arith) inside)
change_all h c before now made (Some part) sure turned put_off = absurd (false≢true (sym put_off.2 ∙ sure))

-- no change allocates
pub change_sure : (c : Change) → takes_no_memory (act_of_change c) ≡ true
change_sure change.Fix = refl
change_sure change.Unfix = refl
change_sure change.Release = refl

-- ---- a change at one part

-- a change that the session's count at a part allows is made there
pub change_made : {A : Type 0} (h : Home) (c : Change) (part : ℕ) (now later : Views → Type 0) (result : Result (Reply A) Fault)
    → h.number < (settings_of h.options).sessions
    → ∥ ((v : Views) × now v × IsTrue (is_granted (act_of_change c) (fix_count h.number (v part)))) ∥₁
    → Follows now later (Turned h part (act_of_change c) (answer_in result)) → IfErr result (λ f. f ≢ fault.Memory)
    → IsTrue (is_ok result)
change_made h c part now later result session seen turn sure =
    surely_done h part (act_of_change c) (λ v. now v × IsTrue (is_granted (act_of_change c) (fix_count h.number (v part)))) later result (∥∥₁_map seen (λ s. (s.0, (s.1, s.2)))) (λ v b. turn v b.0) sure
    (λ v x refusal b t. false≢true (sym (ap is_refused (granted_turn h (v part) (x part) c (Refused refusal) session b.1 t.here))))

only_nothing : (o : Settings) (s : PartState) (n : ℕ) (c : Change) (said : Said) → Replied said ≡ reply_of o s n (act_of_change c)
    → said ≡ Nothing
unfolding reply_of
only_nothing o s n change.Fix said is = of (nat_lt (fixes_of s n) most_fixes) is
  where
    of : (b : Bool) → Replied said ≡ (if b then Replied Nothing else Refused FixLimit) → said ≡ Nothing
    of true e = cc
    of false e = cc
only_nothing o s n change.Unfix said is = of (nat_lt 0 (fixes_of s n)) is
  where
    of : (b : Bool) → Replied said ≡ (if b then Replied Nothing else Refused NotFixed) → said ≡ Nothing
    of true e = cc
    of false e = cc
only_nothing o s n change.Release said is = cc

-- a change that was not refused answers with nothing
pub change_said : (h : Home) (c : Change) (part : ℕ) (said : Said) (now later : Views → Type 0)
    → Follows now later (Turned h part (act_of_change c) (Some (Replied said)))
    → Follows now later (Turned h part (act_of_change c) (Some (Replied Nothing)))
change_said h c part said now later turn v b =
    let t = turn v b in
    let nothing = only_nothing (settings_of h.options) (met h (v part) (t.0 part) (act_of_change c) (Some (Replied said)) t.2.here) h.number c said (turned_right h (v part) (t.0 part) (act_of_change c) (Replied said) t.2.here) in
    (t.0, t.1, subst (λ (s : Said). Turned h part (act_of_change c) (Some (Replied s)) v t.0) nothing t.2)
