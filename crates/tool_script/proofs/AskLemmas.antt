-- The replies to a session's requests, by calls of which the turns are known.
use Rattle.std.proofs.Common.{◌≡◌, ◌≢◌, ℕ, zero, suc, ◌+◌, ◌<◌, ◌≤◌, refl, ap, sym, subst, ◌∙◌, Bool, true, false, Some, arith, get_or}
use Rattle.std.specs.Prelude.{Result, Ok, Err, IfOk, IfErr, IsTrue, ◌&&◌, nat_lt}
use Rattle.std.specs.List.{list_all, range_with_len}
use Rattle.std.proofs.lemmas.Bool.{true≢false}
use Rattle.std.proofs.lemmas.Nat.{mod_below}
use Rattle.std.proofs.lemmas.List.Folds.{list_all_at}
use Rattle.std.proofs.lemmas.List.FromFn.{length-range_with_len, get_or-range_with_len}
use Rattle.term_core.specs.Datum.{Datum}
use Rattle.term_core.specs.KeyHash.{key_hash}
use Rattle.term_operand.specs.Operand.{boolean}
use Rattle.part_core.specs.declared.settings.Settings.{Settings}
use Rattle.part_core.specs.declared.fault.Fault.{Fault}
use Rattle.part_core.specs.declared.fault.Fault.TheVariants as fault
use Rattle.part_core.specs.FaultNumbers.{fault_number}
use Rattle.part_core.specs.Settings.{is_object, key_of, part_of}
use Rattle.part_core.specs.Acts.{Act, Answer, is_refused}
use Rattle.part_core.specs.Acts.Answer.{Replied}
use Rattle.part_core.specs.Acts.Said.{Nothing}
use Rattle.part_core.specs.Rows.{PartState}
use Rattle.part_core.specs.Replies.{reply_of, fixes_of, most_fixes}
use Rattle.part_core.specs.Legal.{state_after, IsLegal}
use Rattle.part_core.proofs.KeyLemmas.{by_test}
use Rattle.part_core.proofs.HistoryLemmas.{counts_of}
use Rattle.tables.specs.declared.options.Options.{Options}
use Rattle.tables.specs.Options.{settings_of}
use Rattle.tables.specs.Turns.{Home, Views, TurnedByKey, TurnedEach, Follows}
use Rattle.tables.specs.Calls.{TurnedByObject, RefusedByObject, is_granted, RefusedEach}
use Rattle.tables.specs.OneThread.{TableState, reply_at, after_at, parts_of}
use Rattle.tool_script.specs.Command.Ask.{DeleteObject, Fix, Unfix, Leave}
use Rattle.tool_script.specs.Script.{error, answer_term, at_key, at_object}
use Rattle.tool_script.specs.State.{IsAt, IsAnswered, IsReplied}
use Rattle.tables.proofs.TurnLemmas.{turned_alone}
use Rattle.tool_script.proofs.LinkLemmas.{turned_at, turned_each}

-- ---- at the part of a key

pub key_answered : (h : Home) (before now : Views → Type 0) (k : Datum) (act : Act) (answer : Answer) (t : TableState) → IsTrue h.alone → 0 < h.options.parts → Follows before now (TurnedByKey h k act (Some answer)) → IsAt h.options before t → (answer_term answer ≡ (at_key t h.number k act).0) × IsAt h.options now (at_key t h.number k act).1
key_answered h before now k act answer t alone some follows at =
    let inside : part_of (settings_of h.options) k < h.options.parts = mod_below (key_hash k) h.options.parts some in
    let same : part_of (settings_of h.options) k ≡ part_of (settings_of t.options) k = ap (λ (x : Options). part_of (settings_of x) k) (sym at.options) in
    let turned = turned_at h before now (part_of (settings_of h.options) k) act answer t alone inside follows at in
    (ap answer_term turned.0 ∙ ap (λ p. answer_term (reply_at t h.number p act)) same, subst (λ p. IsAt h.options now (after_at t h.number p act)) same turned.1)

pub object_answered : (h : Home) (before now : Views → Type 0) (object : Datum) (act : Act) (answer : Answer) (t : TableState) → IsTrue h.alone → 0 < h.options.parts → Follows before now (TurnedByObject h object act (Some answer)) → IsAt h.options before t → (answer_term answer ≡ (at_object t h.number object act).0) × IsAt h.options now (at_object t h.number object act).1
object_answered h before now object act answer t alone some follows at =
    let is : is_object (settings_of t.options) object ≡ true = ap (λ (x : Options). is_object (settings_of x) object) at.options ∙ (follows at.views at.seen).2.0 in
    let same : key_of (settings_of h.options) object ≡ key_of (settings_of t.options) object = ap (λ (x : Options). key_of (settings_of x) object) (sym at.options) in
    let turns : Follows before now (TurnedByKey h (key_of (settings_of h.options) object) act (Some answer)) = λ v b. ((follows v b).0, (follows v b).1, (follows v b).2.1) in
    let answered = key_answered h before now (key_of (settings_of h.options) object) act answer t alone some turns at in
    rw is (subst (λ k. (answer_term answer ≡ (at_key t h.number k act).0) × IsAt h.options now (at_key t h.number k act).1) same answered)

-- ---- rejected

-- a table whose view has not changed stays in its state
stays : (h : Home) (before now : Views → Type 0) (t : TableState) → (at : IsAt h.options before t) → (w : Views) → now w → w ≡ at.views → IsAt h.options now t
stays h before now t at w seen same =
    record { options = at.options; views = w; seen = seen; states = λ k inside. at.states k inside ∙ ap (λ (v : Views). state_after (settings_of h.options) (v k)) (sym same) }

object_refused : (h : Home) (before now : Views → Type 0) (object : Datum) (act : Act) (f : Fault) (t : TableState) → f ≢ fault.Memory → Follows before now (RefusedByObject h object act f) → IsAt h.options before t → (error (fault_number f) ≡ (at_object t h.number object act).0) × IsAt h.options now (at_object t h.number object act).1
object_refused h before now object act fault.Memory t other follows at = absurd (other refl)
object_refused h before now object act fault.TooSmall t other follows at =
    let next = follows at.views at.seen in
    let none : is_object (settings_of t.options) object ≡ false = ap (λ (x : Options). is_object (settings_of x) object) at.options ∙ next.2.0 in
    rw none (refl, stays h before now t at next.0 next.1 next.2.1)
object_refused h before now object act fault.FixLimit t other follows at = absurd (follows at.views at.seen).2
object_refused h before now object act fault.NotFixed t other follows at = absurd (follows at.views at.seen).2
object_refused h before now object act fault.BadKey t other follows at = absurd (follows at.views at.seen).2
object_refused h before now object act fault.CursorOutside t other follows at = absurd (follows at.views at.seen).2

-- ---- at each part

all_in_range : (p : ℕ → Bool) (a n : ℕ) → ((k : ℕ) → a ≤ k → k < a + n → p k ≡ true) → list_all p (range_with_len a n) ≡ true
all_in_range p a zero each = refl
all_in_range p a (suc n) each =
    ap (λ b. b && list_all p (range_with_len (a + 1) n)) (each a (omega arith) (omega arith))
    ∙ all_in_range p (a + 1) n (λ k from to. each k (omega (arith, from)) (omega (arith, to)))

some_in_range : (p : ℕ → Bool) (n k : ℕ) → k < n → p k ≡ false → list_all p (range_with_len 0 n) ≡ false
some_in_range p n k inside fails =
    let place : get_or (range_with_len 0 n) k 0 ≡ k = get_or-range_with_len 0 n k 0 inside ∙ omega arith in
    list_all_at p (range_with_len 0 n) k 0 (omega (arith, inside, length-range_with_len 0 n)) (ap p place ∙ fails)

-- a fix or a release is granted if the reply to it is no fault
grants : (o : Settings) (s : PartState) (n : ℕ) (act : Act) → Replied Nothing ≡ reply_of o s n act → is_granted act (fixes_of s n) ≡ true
unfolding reply_of
grants o s n Act.Fix said =
    by_test (nat_lt (fixes_of s n) most_fixes) (nat_lt (fixes_of s n) most_fixes ≡ true) (λ holds. holds) (λ fails. let wrong = rw fails at said in absurd (true≢false (sym (ap is_refused wrong))))
grants o s n Act.Unfix said =
    by_test (nat_lt 0 (fixes_of s n)) (nat_lt 0 (fixes_of s n) ≡ true) (λ holds. holds) (λ fails. let wrong = rw fails at said in absurd (true≢false (sym (ap is_refused wrong))))
grants o s n act said = refl

-- the session's counts at each part allow the call
abbrev are_granted : TableState → ℕ → Act → Bool
are_granted t n act = list_all (λ part. is_granted act (fixes_of (t.states part) n)) (parts_of t)

all_granted : (h : Home) (before now : Views → Type 0) (act : Act) (t : TableState) → IsTrue h.alone → Follows before now (TurnedEach h act (Some (Replied Nothing))) → IsAt h.options before t → are_granted t h.number act ≡ true
all_granted h before now act t alone follows at =
    let o = settings_of h.options in
    let next = follows at.views at.seen in
    all_in_range _ 0 t.options.parts (λ k from to.
    let inside : k < h.options.parts = subst (λ (x : Options). k < x.parts) at.options (omega (arith, to)) in
    grants o (t.states k) h.number act ((turned_alone h (at.views k) (next.0 k) act (Replied Nothing) alone (next.2 k inside)).0 ∙ ap (λ (s : PartState). reply_of o s h.number act) (sym (at.states k inside))))

not_granted : (h : Home) (before now : Views → Type 0) (act : Act) (t : TableState) → ((v : Views) (part : ℕ) → before v → part < h.options.parts → IsLegal (settings_of h.options) (v part)) → h.number < h.options.sessions → Follows before now (RefusedEach h act) → IsAt h.options before t → are_granted t h.number act ≡ false
not_granted h before now act t legal within follows at =
    let o = settings_of h.options in
    let denied = (follows at.views at.seen).2.0 in
    let part : ℕ = denied.0 in
    let inside : part < t.options.parts = subst (λ (x : Options). part < x.parts) (sym at.options) denied.1 in
    some_in_range _ t.options.parts part inside
    (ap (λ (s : PartState). is_granted act (fixes_of s h.number)) (at.states part denied.1) ∙ ap (is_granted act) (counts_of o (at.views part) h.number (legal at.views part at.seen denied.1) within) ∙ denied.2)

fix_answered : (h : Home) (before now : Views → Type 0) → IsTrue h.alone → Follows before now (TurnedEach h Act.Fix (Some (Replied Nothing))) → IsAnswered h.options h.number before now Fix (boolean true)
fix_answered h before now alone follows = λ t at.
    let granted : are_granted t h.number Act.Fix ≡ true = all_granted h before now Act.Fix t alone follows at in
    rw granted (refl, turned_each h before now Act.Fix (Replied Nothing) t alone follows at)

unfix_answered : (h : Home) (before now : Views → Type 0) → IsTrue h.alone → Follows before now (TurnedEach h Act.Unfix (Some (Replied Nothing))) → IsAnswered h.options h.number before now Unfix (boolean true)
unfix_answered h before now alone follows = λ t at.
    let granted : are_granted t h.number Act.Unfix ≡ true = all_granted h before now Act.Unfix t alone follows at in
    rw granted (refl, turned_each h before now Act.Unfix (Replied Nothing) t alone follows at)

pub leave_answered : (h : Home) (before now : Views → Type 0) → IsTrue h.alone → Follows before now (TurnedEach h Act.Release (Some (Replied Nothing))) → IsAnswered h.options h.number before now Leave (boolean true)
leave_answered h before now alone follows = λ t at.
    (refl, turned_each h before now Act.Release (Replied Nothing) t alone follows at)

fix_refused : (h : Home) (before now : Views → Type 0) → ((v : Views) (part : ℕ) → before v → part < h.options.parts → IsLegal (settings_of h.options) (v part)) → h.number < h.options.sessions → Follows before now (RefusedEach h Act.Fix) → IsAnswered h.options h.number before now Fix (error 51)
fix_refused h before now legal within follows = λ t at.
    let next = follows at.views at.seen in
    let denied : are_granted t h.number Act.Fix ≡ false = not_granted h before now Act.Fix t legal within follows at in
    rw denied (refl, stays h before now t at next.0 next.1 next.2.1)

unfix_refused : (h : Home) (before now : Views → Type 0) → ((v : Views) (part : ℕ) → before v → part < h.options.parts → IsLegal (settings_of h.options) (v part)) → h.number < h.options.sessions → Follows before now (RefusedEach h Act.Unfix) → IsAnswered h.options h.number before now Unfix (error 52)
unfix_refused h before now legal within follows = λ t at.
    let next = follows at.views at.seen in
    let denied : are_granted t h.number Act.Unfix ≡ false = not_granted h before now Act.Unfix t legal within follows at in
    rw denied (refl, stays h before now t at next.0 next.1 next.2.1)

-- ---- the reply to an outcome

-- the reply to a call with an object that was rejected for another reason than out of memory
pub refusal_answered : (h : Home) (before now : Views → Type 0) (object : Datum) (act : Act) (f : Fault) (reply : Datum) (t : TableState) → Follows before now (RefusedByObject h object act f) → IsReplied {U = Unit {0}} (Err f) reply → IsAt h.options before t → (reply ≡ (at_object t h.number object act).0) × IsAt h.options now (at_object t h.number object act).1
refusal_answered h before now object act f reply t follows replied at =
    let refused = object_refused h before now object act f t replied.0 follows at in
    (replied.1 ∙ refused.0, refused.1)

pub deletion_answered : {U : Type 0} (h : Home) (before now : Views → Type 0) (object : Datum) (r : Result U Fault) (reply : Datum) → IsTrue h.alone → 0 < h.options.parts → IfOk r (λ u. Follows before now (TurnedByObject h object (Act.DeleteObject object) (Some (Replied Nothing)))) → IfErr r (λ f. (f ≡ fault.TooSmall) × Follows before now (RefusedByObject h object (Act.DeleteObject object) f)) → IsReplied r reply → IsAnswered h.options h.number before now (DeleteObject object) reply
deletion_answered h before now object (Ok u) reply alone some done refused replied = λ t at.
    let answered = object_answered h before now object (Act.DeleteObject object) (Replied Nothing) t alone some done at in
    (replied ∙ answered.0, answered.1)
deletion_answered h before now object (Err f) reply alone some done refused replied = λ t at.
    refusal_answered h before now object (Act.DeleteObject object) f reply t refused.1 replied at

pub fix_outcome : {U : Type 0} (h : Home) (before now : Views → Type 0) (r : Result U Fault) (reply : Datum) → IsTrue h.alone → ((v : Views) (part : ℕ) → before v → part < h.options.parts → IsLegal (settings_of h.options) (v part)) → h.number < h.options.sessions → IfOk r (λ u. Follows before now (TurnedEach h Act.Fix (Some (Replied Nothing)))) → IfErr r (λ f. (f ≡ fault.FixLimit) × Follows before now (RefusedEach h Act.Fix)) → IsReplied r reply → IsAnswered h.options h.number before now Fix reply
fix_outcome h before now (Ok u) reply alone legal within done refused replied = λ t at.
    let answered = fix_answered h before now alone done t at in
    (replied ∙ answered.0, answered.1)
fix_outcome h before now (Err f) reply alone legal within done refused replied = λ t at.
    let answered = fix_refused h before now legal within refused.1 t at in
    (replied.1 ∙ ap (λ x. error (fault_number x)) refused.0 ∙ answered.0, answered.1)

pub unfix_outcome : {U : Type 0} (h : Home) (before now : Views → Type 0) (r : Result U Fault) (reply : Datum) → IsTrue h.alone → ((v : Views) (part : ℕ) → before v → part < h.options.parts → IsLegal (settings_of h.options) (v part)) → h.number < h.options.sessions → IfOk r (λ u. Follows before now (TurnedEach h Act.Unfix (Some (Replied Nothing)))) → IfErr r (λ f. (f ≡ fault.NotFixed) × Follows before now (RefusedEach h Act.Unfix)) → IsReplied r reply → IsAnswered h.options h.number before now Unfix reply
unfix_outcome h before now (Ok u) reply alone legal within done refused replied = λ t at.
    let answered = unfix_answered h before now alone done t at in
    (replied ∙ answered.0, answered.1)
unfix_outcome h before now (Err f) reply alone legal within done refused replied = λ t at.
    let answered = unfix_refused h before now legal within refused.1 t at in
    (replied.1 ∙ ap (λ x. error (fault_number x)) refused.0 ∙ answered.0, answered.1)
