-- What calls with objects and keys return, by the turns that they make.
use Rattle.std.proofs.Common.{◌≡◌, ℕ, zero, suc, ◌+◌, ◌<◌, ◌≤◌, refl, ap, sym, subst, ◌∙◌, Bool, true, false, Option, Some, None, arith, get_or}
use Rattle.std.specs.Prelude.{IsTrue, ◌&&◌, nat_lt, option_map}
use Rattle.std.specs.List.{list_all, range_with_len}
use Rattle.std.proofs.lemmas.Bool.{true≢false}
use Rattle.std.proofs.lemmas.Nat.{mod_below}
use Rattle.std.proofs.lemmas.List.Folds.{list_all_at}
use Rattle.std.proofs.lemmas.List.FromFn.{length-range_with_len, get_or-range_with_len}
use Rattle.term_core.specs.Datum.{Datum}
use Rattle.term_core.specs.KeyHash.{key_hash}
use Rattle.part_core.specs.declared.settings.Settings.{Settings}
use Rattle.part_core.specs.declared.fault.Fault.{Fault}
use Rattle.part_core.specs.declared.fault.Fault.TheVariants as fault
use Rattle.part_core.specs.Settings.{is_object, key_of, part_of}
use Rattle.part_core.specs.Acts.{Act, Answer, is_refused}
use Rattle.part_core.specs.Acts.Answer.{Replied, Refused}
use Rattle.part_core.specs.Acts.Said.{Nothing}
use Rattle.part_core.specs.Ops.{refusal_of}
use Rattle.part_core.specs.Rows.{PartState}
use Rattle.part_core.specs.Replies.{reply_of, fixes_of, most_fixes}
use Rattle.part_core.specs.Legal.{state_after, IsLegal}
use Rattle.part_core.proofs.KeyLemmas.{by_test}
use Rattle.part_core.proofs.HistoryLemmas.{counts_of}
use Rattle.tables.specs.declared.options.Options.{Options}
use Rattle.tables.specs.Options.{settings_of}
use Rattle.tables.specs.Turns.{Home, Views, TurnedByKey, TurnedEach, Follows}
use Rattle.tables.specs.Calls.{TurnedByObject, RefusedByObject, is_granted, RefusedEach}
use Rattle.tables.specs.OneThread.{TableState, reply_at, after_at, parts_of}
use Rattle.tables.proofs.TurnLemmas.{turned_alone}
use Rattle.open_table.specs.Calls.{Call, at_key, at_object, fixing, releasing, unfixing}
use Rattle.open_table.specs.Parts.{IsAt}
use Rattle.open_table.proofs.LinkLemmas.{stays_at, turned_at, turned_each, unturned_at}

-- a call is made, in terms of what is seen of the table
abbrev pub DoesAt : Options → (before now : Views → Type 0) → Call → Option Answer → Type 0
DoesAt o before now call (Some answer) = (t : TableState) → IsAt o before t → (answer ≡ (call t).0) × IsAt o now (call t).1
DoesAt o before now call None = (t : TableState) → IsAt o before t → IsAt o now t

-- ---- at the part of a key

pub key_done : (h : Home) (before now : Views → Type 0) (k : Datum) (act : Act) (answer : Answer) → IsTrue h.alone → 0 < h.options.parts → Follows before now (TurnedByKey h k act (Some answer)) → DoesAt h.options before now (at_key h.number k act) (Some answer)
key_done h before now k act answer alone some follows = λ t at.
    let inside : part_of (settings_of h.options) k < h.options.parts = mod_below (key_hash k) h.options.parts some in
    let same : part_of (settings_of h.options) k ≡ part_of (settings_of t.options) k = ap (λ (x : Options). part_of (settings_of x) k) (sym at.options) in
    let turned = turned_at h before now (part_of (settings_of h.options) k) act answer t alone inside follows at in
    (turned.0 ∙ ap (λ p. reply_at t h.number p act) same, subst (λ p. IsAt h.options now (after_at t h.number p act)) same turned.1)

pub key_stays : (h : Home) (before now : Views → Type 0) (k : Datum) (act : Act) → IsTrue h.alone → Follows before now (TurnedByKey h k act None) → (t : TableState) → IsAt h.options before t → IsAt h.options now t
key_stays h before now k act alone follows t at = unturned_at h before now (part_of (settings_of h.options) k) act t alone follows at

pub object_done : (h : Home) (before now : Views → Type 0) (object : Datum) (act : Act) (answer : Answer) → IsTrue h.alone → 0 < h.options.parts → Follows before now (TurnedByObject h object act (Some answer)) → DoesAt h.options before now (at_object h.number object act) (Some answer)
object_done h before now object act answer alone some follows = λ t at.
    let is : is_object (settings_of t.options) object ≡ true = ap (λ (x : Options). is_object (settings_of x) object) at.options ∙ (follows at.views at.seen).2.0 in
    let same : key_of (settings_of h.options) object ≡ key_of (settings_of t.options) object = ap (λ (x : Options). key_of (settings_of x) object) (sym at.options) in
    let turns : Follows before now (TurnedByKey h (key_of (settings_of h.options) object) act (Some answer)) = λ v b. ((follows v b).0, (follows v b).1, (follows v b).2.1) in
    let answered = key_done h before now (key_of (settings_of h.options) object) act answer alone some turns t at in
    rw is (subst (λ k. (answer ≡ (at_key h.number k act t).0) × IsAt h.options now (at_key h.number k act t).1) same answered)

pub object_refused : (h : Home) (before now : Views → Type 0) (object : Datum) (act : Act) (f : Fault) → IsTrue h.alone → Follows before now (RefusedByObject h object act f) → DoesAt h.options before now (at_object h.number object act) (option_map Refused (refusal_of f))
object_refused h before now object act fault.Memory alone follows = λ t at.
    key_stays h before now (key_of (settings_of h.options) object) act alone (λ v b. ((follows v b).0, (follows v b).1, (follows v b).2.1)) t at
object_refused h before now object act fault.TooSmall alone follows = λ t at.
    let next = follows at.views at.seen in
    let none : is_object (settings_of t.options) object ≡ false = ap (λ (x : Options). is_object (settings_of x) object) at.options ∙ next.2.0 in
    rw none (refl, stays_at h.options before now t at next.0 next.1 (λ k inside. ap (λ (v : Views). state_after (settings_of h.options) (v k)) next.2.1))
object_refused h before now object act fault.FixLimit alone follows = λ t at. absurd (follows at.views at.seen).2
object_refused h before now object act fault.NotFixed alone follows = λ t at. absurd (follows at.views at.seen).2
object_refused h before now object act fault.BadKey alone follows = λ t at. absurd (follows at.views at.seen).2
object_refused h before now object act fault.CursorOutside alone follows = λ t at. absurd (follows at.views at.seen).2

-- ---- at each part

all_in_range : (p : ℕ → Bool) (a n : ℕ) → ((k : ℕ) → a ≤ k → k < a + n → p k ≡ true) → list_all p (range_with_len a n) ≡ true
all_in_range p a zero each = refl
all_in_range p a (suc n) each =
    ap (λ b. b && list_all p (range_with_len (a + 1) n)) (each a (omega arith) (omega arith))
    ∙ all_in_range p (a + 1) n (λ k from to. each k (omega (arith, from)) (omega (arith, to)))

some_in_range : (p : ℕ → Bool) (n k : ℕ) → k < n → p k ≡ false → list_all p (range_with_len 0 n) ≡ false
some_in_range p n k inside fails =
    let place : get_or (range_with_len 0 n) k 0 ≡ k = get_or-range_with_len 0 n k 0 inside ∙ omega arith in
    list_all_at p (range_with_len 0 n) k 0 (omega (arith, inside, length-range_with_len 0 n)) (ap p place ∙ fails)

-- a fix or a release is granted if the reply to it is no fault
grants : (o : Settings) (s : PartState) (n : ℕ) (act : Act) → Replied Nothing ≡ reply_of o s n act → is_granted act (fixes_of s n) ≡ true
unfolding reply_of
grants o s n Act.Fix said =
    by_test (nat_lt (fixes_of s n) most_fixes) (nat_lt (fixes_of s n) most_fixes ≡ true) (λ holds. holds) (λ fails. let wrong = rw fails at said in absurd (true≢false (sym (ap is_refused wrong))))
grants o s n Act.Unfix said =
    by_test (nat_lt 0 (fixes_of s n)) (nat_lt 0 (fixes_of s n) ≡ true) (λ holds. holds) (λ fails. let wrong = rw fails at said in absurd (true≢false (sym (ap is_refused wrong))))
grants o s n act said = refl

-- the session's counts at each part allow the call
abbrev are_granted : TableState → ℕ → Act → Bool
are_granted t n act = list_all (λ part. is_granted act (fixes_of (t.states part) n)) (parts_of t)

all_granted : (h : Home) (before now : Views → Type 0) (act : Act) (t : TableState) → IsTrue h.alone → Follows before now (TurnedEach h act (Some (Replied Nothing))) → IsAt h.options before t → are_granted t h.number act ≡ true
all_granted h before now act t alone follows at =
    let o = settings_of h.options in
    let next = follows at.views at.seen in
    all_in_range _ 0 t.options.parts (λ k from to.
    let inside : k < h.options.parts = subst (λ (x : Options). k < x.parts) at.options (omega (arith, to)) in
    grants o (t.states k) h.number act ((turned_alone h (at.views k) (next.0 k) act (Replied Nothing) alone (next.2 k inside)).0 ∙ ap (λ (s : PartState). reply_of o s h.number act) (sym (at.states k inside))))

-- the histories that are seen are legal
abbrev pub AreLegal : Home → (Views → Type 0) → Type 0
AreLegal h sees = (v : Views) (part : ℕ) → sees v → part < h.options.parts → IsLegal (settings_of h.options) (v part)

not_granted : (h : Home) (before now : Views → Type 0) (act : Act) (t : TableState) → AreLegal h before → h.number < h.options.sessions → Follows before now (RefusedEach h act) → IsAt h.options before t → are_granted t h.number act ≡ false
not_granted h before now act t legal within follows at =
    let o = settings_of h.options in
    let denied = (follows at.views at.seen).2.0 in
    let part : ℕ = denied.0 in
    let inside : part < t.options.parts = subst (λ (x : Options). part < x.parts) (sym at.options) denied.1 in
    some_in_range _ t.options.parts part inside
    (ap (λ (s : PartState). is_granted act (fixes_of s h.number)) (at.states part denied.1) ∙ ap (is_granted act) (counts_of o (at.views part) h.number (legal at.views part at.seen denied.1) within) ∙ denied.2)

-- a call that was refused at each part leaves the table as it was
each_stays : (h : Home) (before now : Views → Type 0) (act : Act) (t : TableState) → Follows before now (RefusedEach h act) → IsAt h.options before t → IsAt h.options now t
each_stays h before now act t follows at =
    let next = follows at.views at.seen in
    stays_at h.options before now t at next.0 next.1 (λ k inside. ap (λ (v : Views). state_after (settings_of h.options) (v k)) next.2.1)

pub fix_done : (h : Home) (before now : Views → Type 0) → IsTrue h.alone → Follows before now (TurnedEach h Act.Fix (Some (Replied Nothing))) → DoesAt h.options before now (fixing h.number) (Some (Replied Nothing))
fix_done h before now alone follows = λ t at.
    let granted : are_granted t h.number Act.Fix ≡ true = all_granted h before now Act.Fix t alone follows at in
    rw granted (refl, turned_each h before now Act.Fix (Replied Nothing) t alone follows at)

pub unfix_done : (h : Home) (before now : Views → Type 0) → IsTrue h.alone → Follows before now (TurnedEach h Act.Unfix (Some (Replied Nothing))) → DoesAt h.options before now (unfixing h.number) (Some (Replied Nothing))
unfix_done h before now alone follows = λ t at.
    let granted : are_granted t h.number Act.Unfix ≡ true = all_granted h before now Act.Unfix t alone follows at in
    rw granted (refl, turned_each h before now Act.Unfix (Replied Nothing) t alone follows at)

pub release_done : (h : Home) (before now : Views → Type 0) → IsTrue h.alone → Follows before now (TurnedEach h Act.Release (Some (Replied Nothing))) → DoesAt h.options before now (releasing h.number) (Some (Replied Nothing))
release_done h before now alone follows = λ t at. (refl, turned_each h before now Act.Release (Replied Nothing) t alone follows at)

pub fix_refused : (h : Home) (before now : Views → Type 0) (f : Fault) → AreLegal h before → h.number < h.options.sessions → f ≡ fault.FixLimit → Follows before now (RefusedEach h Act.Fix) → DoesAt h.options before now (fixing h.number) (option_map Refused (refusal_of f))
fix_refused h before now f legal within is follows =
    subst (λ (x : Fault). DoesAt h.options before now (fixing h.number) (option_map Refused (refusal_of x))) (sym is) (λ t at.
    let denied : are_granted t h.number Act.Fix ≡ false = not_granted h before now Act.Fix t legal within follows at in
    rw denied (refl, each_stays h before now Act.Fix t follows at))

pub unfix_refused : (h : Home) (before now : Views → Type 0) (f : Fault) → AreLegal h before → h.number < h.options.sessions → f ≡ fault.NotFixed → Follows before now (RefusedEach h Act.Unfix) → DoesAt h.options before now (unfixing h.number) (option_map Refused (refusal_of f))
unfix_refused h before now f legal within is follows =
    subst (λ (x : Fault). DoesAt h.options before now (unfixing h.number) (option_map Refused (refusal_of x))) (sym is) (λ t at.
    let denied : are_granted t h.number Act.Unfix ≡ false = not_granted h before now Act.Unfix t legal within follows at in
    rw denied (refl, each_stays h before now Act.Unfix t follows at))
