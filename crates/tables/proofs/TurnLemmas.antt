-- The answer of a turn, derived from the history that it leaves.
use Rattle.std.proofs.Common.{arith, length, fold, not, ◌&&◌, ◌==◌, if◌then◌else◌, ◌≡◌, ◌≢◌, ℕ, ◌++◌, [], ◌∷◌, refl, ap, sym, subst, ◌∙◌, Bool, true, false, Result, Ok, Err, Option, option_map, Some, None, IsTrue, IfErr}
use Rattle.std.proofs.Props.{props}
use Rattle.std.proofs.Math.Logic.{∥∥₁_elim}
use Rattle.std.proofs.lemmas.Bool.{false≢true}
use Rattle.std.specs.Result.{is_ok}
use Rattle.std.proofs.lemmas.List.{append-nil}
use Rattle.std.proofs.lemmas.List.Sums.{fold-append}
use Rattle.part_core.specs.declared.fault.Fault.{Fault}
use Rattle.part_core.specs.declared.fault.Fault.TheVariants as fault
use Rattle.part_core.specs.declared.reply.Reply.{Reply}
use Rattle.part_core.specs.Acts.{Act, Answer, Entry, History, Refusal, is_refused}
use Rattle.part_core.specs.Acts.Answer.{Refused}
use Rattle.part_core.specs.Acts.Refusal.{TooSmall, FixLimit, NotFixed, BadKey, CursorOutside}
use Rattle.part_core.specs.Rows.{PartState, opening}
use Rattle.part_core.specs.Replies.{reply_of}
use Rattle.part_core.specs.After.{after}
use Rattle.part_core.specs.Legal.{state_after, IsLegal, fix_count, fixes_after}
use Rattle.part_core.specs.Ops.{answer_in, refusal_of}
use Rattle.part_core.proofs.KeyLemmas.{by_test}
use Rattle.part_core.proofs.HistoryLemmas.{legal_front_from, legal_rest_from, state_more}
use Rattle.gate.specs.Views.{own}
use Rattle.tables.specs.Options.{settings_of}
use Rattle.tables.specs.Turns.{Home, Views, TurnedAt, Turned, Follows}

-- the state before a turn, after the entries of others
abbrev pub met : (h : Home) (old new : History) (act : Act) (answer : Option Answer) → TurnedAt h old act answer new → PartState
met h old new act answer t = state_after (settings_of h.options) (old ++ t.between)

-- the answer of a turn is the reply of that state
pub turned_right : (h : Home) (old new : History) (act : Act) (answer : Answer) (t : TurnedAt h old act (Some answer) new)
    → answer ≡ reply_of (settings_of h.options) (met h old new act (Some answer) t) h.number act
turned_right h old new act answer t =
    let legal : IsLegal (settings_of h.options) ((old ++ t.between) ++ (record { session = h.number; act = act; answer = answer }) ∷ []) = subst (IsLegal (settings_of h.options)) t.grown t.legal in
    (legal_rest_from (settings_of h.options) (opening (settings_of h.options)) (old ++ t.between) _ legal).0.answer

-- the history before a turn, with the entries of others, is legal
pub turned_front : (h : Home) (old new : History) (act : Act) (answer : Option Answer) (t : TurnedAt h old act answer new)
    → IsLegal (settings_of h.options) (old ++ t.between)
turned_front h old new act answer t =
    legal_front_from (settings_of h.options) (opening (settings_of h.options)) (old ++ t.between) _ (subst (IsLegal (settings_of h.options)) t.grown t.legal)

-- a turn has no refusal as its answer if the operation is refused in no state
pub no_refusal : (h : Home) (old new : History) (act : Act) (refusal : Refusal) → TurnedAt h old act (Some (Refused refusal)) new
    → ((s : PartState) → is_refused (reply_of (settings_of h.options) s h.number act) ≡ false) → ⊥
no_refusal h old new act refusal t never =
    false≢true (sym (ap is_refused (turned_right h old new act (Refused refusal) t) ∙ never (met h old new act (Some (Refused refusal)) t)))

-- an operation that is refused in no state can only run out of memory
pub only_memory : (h : Home) (part : ℕ) (act : Act) (before now : Views → Type 0) (f : Fault)
    → Follows before now (Turned h part act (option_map Refused (refusal_of f)))
    → ((s : PartState) → is_refused (reply_of (settings_of h.options) s h.number act) ≡ false)
    → Follows before now (Turned h part act None)
only_memory h part act before now fault.Memory follows never = follows
only_memory h part act before now fault.TooSmall follows never = λ v b. absurd (no_refusal h _ _ act TooSmall (follows v b).2.here never)
only_memory h part act before now fault.FixLimit follows never = λ v b. absurd (no_refusal h _ _ act FixLimit (follows v b).2.here never)
only_memory h part act before now fault.NotFixed follows never = λ v b. absurd (no_refusal h _ _ act NotFixed (follows v b).2.here never)
only_memory h part act before now fault.BadKey follows never = λ v b. absurd (no_refusal h _ _ act BadKey (follows v b).2.here never)
only_memory h part act before now fault.CursorOutside follows never = λ v b. absurd (no_refusal h _ _ act CursorOutside (follows v b).2.here never)

-- what holds of the reply in every state holds of a turn's answer
pub answered_so : (test : Answer → Bool) (h : Home) (part : ℕ) (act : Act) (answer : Answer) (before now : Views → Type 0)
    → ∥ ((v : Views) × before v) ∥₁ → Follows before now (Turned h part act (Some answer))
    → ((s : PartState) → test (reply_of (settings_of h.options) s h.number act) ≡ true) → IsTrue (test answer)
answered_so test h part act answer before now seen follows holds =
    ∥∥₁_elim seen (hlevel props) (λ s. ap test (turned_right h _ _ act answer (follows s.0 s.1).2.here) ∙ holds (met h _ _ act (Some answer) (follows s.0 s.1).2.here))

-- an operation that does not allocate, and is refused in no state, is done
pub surely_done : (h : Home) (part : ℕ) (act : Act) (before now : Views → Type 0) {A : Type 0} (result : Result (Reply A) Fault)
    → ∥ ((v : Views) × before v) ∥₁ → Follows before now (Turned h part act (answer_in result))
    → IfErr result (λ f. f ≢ fault.Memory)
    → ((v w : Views) (refusal : Refusal) → before v → Turned h part act (Some (Refused refusal)) v w → ⊥)
    → IsTrue (is_ok result)
surely_done h part act before now (Ok r) seen follows sure never = refl
surely_done h part act before now (Err fault.Memory) seen follows sure never = absurd (sure refl)
surely_done h part act before now (Err fault.TooSmall) seen follows sure never = absurd (∥∥₁_elim seen (hlevel props) (λ s. never s.0 _ TooSmall s.1 (follows s.0 s.1).2))
surely_done h part act before now (Err fault.FixLimit) seen follows sure never = absurd (∥∥₁_elim seen (hlevel props) (λ s. never s.0 _ FixLimit s.1 (follows s.0 s.1).2))
surely_done h part act before now (Err fault.NotFixed) seen follows sure never = absurd (∥∥₁_elim seen (hlevel props) (λ s. never s.0 _ NotFixed s.1 (follows s.0 s.1).2))
surely_done h part act before now (Err fault.BadKey) seen follows sure never = absurd (∥∥₁_elim seen (hlevel props) (λ s. never s.0 _ BadKey s.1 (follows s.0 s.1).2))
surely_done h part act before now (Err fault.CursorOutside) seen follows sure never = absurd (∥∥₁_elim seen (hlevel props) (λ s. never s.0 _ CursorOutside s.1 (follows s.0 s.1).2))

-- an operation that does not allocate, and is refused in no state, has a reply
pub never_refused : (h : Home) (part : ℕ) (act : Act) (before now : Views → Type 0) {A : Type 0} (result : Result (Reply A) Fault)
    → ∥ ((v : Views) × before v) ∥₁ → Follows before now (Turned h part act (answer_in result))
    → IfErr result (λ f. f ≢ fault.Memory)
    → ((s : PartState) → is_refused (reply_of (settings_of h.options) s h.number act) ≡ false)
    → IsTrue (is_ok result)
never_refused h part act before now result seen follows sure never =
    surely_done h part act before now result seen follows sure (λ v w refusal b t. no_refusal h _ _ act refusal t.here never)

-- an operation that does not allocate, and is refused in no state, fails only if its turn is put off
pub only_put_off : (made : Bool) (h : Home) (part : ℕ) (act : Act) (before now : Views → Type 0) {A : Type 0} (result : Result (Reply A) Fault)
    → ∥ ((v : Views) × before v) ∥₁ → Follows before now (Turned h part act (answer_in result))
    → (IsTrue made → IfErr result (λ f. f ≢ fault.Memory))
    → ((s : PartState) → is_refused (reply_of (settings_of h.options) s h.number act) ≡ false)
    → is_ok result ≡ false → made ≡ false
only_put_off false h part act before now result seen follows sure never failed = refl
only_put_off true h part act before now result seen follows sure never failed =
    absurd (false≢true (sym failed ∙ never_refused h part act before now result seen follows (sure refl) never))

-- an answer that is the reply in every state is a turn's answer
pub answered_as : (h : Home) (part : ℕ) (act : Act) (answer wanted : Answer) (before now : Views → Type 0)
    → Follows before now (Turned h part act (Some answer))
    → ((s : PartState) → reply_of (settings_of h.options) s h.number act ≡ wanted)
    → Follows before now (Turned h part act (Some wanted))
answered_as h part act answer wanted before now follows said = λ v b.
    let t = (follows v b).2 in
    ((follows v b).0, (follows v b).1, subst (λ (a : Answer). Turned h part act (Some a) v (follows v b).0) (turned_right h _ _ act answer t.here ∙ said (met h _ _ act (Some answer) t.here)) t)

-- entries of other sessions don't change a session's count of fixes
pub counts_own : (n : ℕ) (es : History) (count : ℕ) → own n es ≡ []
    → fold (λ count e. if e.session == n && not (is_refused e.answer) then fixes_after e.act count else count) count es ≡ count
counts_own n [] count none = refl
counts_own n (e ∷ es) count none = by_test (e.session == n) _
    (λ same. absurd (cons_nil (sym (ap (λ (b : Bool). if b then e ∷ own n es else own n es) same) ∙ none)))
    (λ other. rw other (counts_own n es count (sym (ap (λ (b : Bool). if b then e ∷ own n es else own n es) other) ∙ none)))
  where
    cons_nil : e ∷ own n es ≡ [] → ⊥
    cons_nil h = omega (arith, ap length h)

pub count_own : (n : ℕ) (old between : History) → own n between ≡ [] → fix_count n (old ++ between) ≡ fix_count n old
count_own n old between none = fold-append _ 0 old between ∙ counts_own n between (fix_count n old) none

-- ---- a turn of a session that is alone

entry : Home → Act → Answer → Entry
entry h act answer = record { session = h.number; act = act; answer = answer }

-- if the session is alone, no entries are between what was seen and the turn
grown_alone : (h : Home) (old new : History) (act : Act) (answer : Answer) → IsTrue h.alone → TurnedAt h old act (Some answer) new → new ≡ old ++ entry h act answer ∷ []
unfolding entry
grown_alone h old new act answer alone t =
    t.grown ∙ ap (λ (es : History). (old ++ es) ++ entry h act answer ∷ []) (t.others.alone alone) ∙ ap (λ (es : History). es ++ entry h act answer ∷ []) (append-nil old)

-- if the session is alone, the answer is that of its state, and the next state is the one after the turn
pub turned_alone : (h : Home) (old new : History) (act : Act) (answer : Answer) → IsTrue h.alone → TurnedAt h old act (Some answer) new → (answer ≡ reply_of (settings_of h.options) (state_after (settings_of h.options) old) h.number act) × (after (settings_of h.options) (state_after (settings_of h.options) old) h.number act ≡ state_after (settings_of h.options) new)
unfolding entry
turned_alone h old new act answer alone t =
    let o = settings_of h.options in
    let grown = grown_alone h old new act answer alone t in
    let legal : IsLegal o (old ++ entry h act answer ∷ []) = subst (IsLegal o) grown t.legal in
    ((legal_rest_from o (opening o) old (entry h act answer ∷ []) legal).0.answer, sym (ap (state_after o) grown ∙ state_more o (opening o) old (entry h act answer ∷ [])))
