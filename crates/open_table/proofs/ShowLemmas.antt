-- From what is seen of a table to its state.
use Rattle.std.proofs.Common.{◌≡◌, ◌<◌, ℕ, refl, ap, sym, subst, [], Option, Some, None, List}
use Rattle.std.specs.Prelude.{Result, IfErr, IsErrAnd, option_map}
use Rattle.std.proofs.lemmas.Result.{IfErr-weaker}
use Rattle.term_core.specs.Datum.{Datum}
use Rattle.term_core.specs.declared.fault.Refused as refused_type
use Rattle.part_core.specs.declared.fault.Fault.{Fault}
use Rattle.part_core.specs.declared.fault.Fault.TheVariants as fault
use Rattle.part_core.specs.declared.part.Part.{Ghosts}
use Rattle.part_core.specs.Acts.{Act, Answer}
use Rattle.part_core.specs.Acts.Act.{Fix, Unfix, Release}
use Rattle.part_core.specs.Acts.Answer.{Replied, Refused}
use Rattle.part_core.specs.Acts.Purpose.{Answers, Counts, Deletes}
use Rattle.part_core.specs.Acts.Said.{Nothing, AtKey}
use Rattle.part_core.specs.Ops.{refusal_of}
use Rattle.tables.specs.Calls.{RefusedByObject, RefusedEach, TurnedByObject}
use Rattle.tables.specs.OneThread.{TableState}
use Rattle.tables.specs.Turns.{Follows, Home, TurnedByKey, TurnedEach}
use Rattle.walk_core.specs.Positions.{position_of}
use Rattle.walk_query.specs.declared.query.Query.{Query}
use Rattle.walks.specs.Asked.{GivesUpOn, Selects, StopsSelecting, Tallies}
use Rattle.walks.specs.Keys.{FoundFirst, FoundNext, RefusedNext, Stopped}
use Rattle.walks.specs.OneThread.{first_key}
use Rattle.walks.specs.Pieces.{Begins, Continues, Keeps}
use Rattle.walks.specs.Query.{kept_of}
use Rattle.walks.specs.declared.continuation.Continuation.{Continuation}
use Rattle.walks.specs.declared.continuation.Step.{Step}
use Rattle.walks.specs.declared.fault.WalkFault.{WalkFault}
use Rattle.walks.specs.declared.fault.WalkFault.TheVariants as walk_fault
use Rattle.open_table.specs.declared.table.OpenTable.{OpenTable}
use Rattle.open_table.specs.Calls.{Call, at_key, at_object, fixing, following, releasing, unfixing}
use Rattle.open_table.specs.Facts.{some_part}
use Rattle.open_table.specs.Parts.{IsAt, Sees, options_in}
use Rattle.open_table.specs.Queries.{answers_by, count_by, start_in, without}
use Rattle.open_table.specs.Shows.{Does, IsSame, Reads, Shows, Stays, home_of}
use Rattle.open_table.specs.Walks.{GoesOn, IsHere, IsStep, left_of}
use Rattle.open_table.proofs.CallLemmas as call
use Rattle.open_table.proofs.CallLemmas.{AreLegal, DoesAt}
use Rattle.open_table.proofs.KeyLemmas as key
use Rattle.open_table.proofs.WalkLemmas as walk
use Rattle.open_table.proofs.WalkLemmas.{StaysAt}

pub is_same : {S O A : Type 0} {s : Ghosts S A} {o : Ghosts O A} (x y : OpenTable S O A s o) → home_of y ≡ home_of x → IsSame x y
is_same x y same = (ap (λ (h : Home). h.options) same, ap (λ (h : Home). h.number) same)

-- ---- from a relation of what is seen to one of states

stays : {S O A : Type 0} {s : Ghosts S A} {o : Ghosts O A} (x y : OpenTable S O A s o) → home_of y ≡ home_of x → StaysAt (home_of x) (Sees x.parts) (Sees y.parts) → Stays x y
stays x y same done t at = subst (λ (h : Home). IsAt h.options (Sees y.parts) t) (sym same) (done t at)

does : {S O A : Type 0} {s : Ghosts S A} {o : Ghosts O A} (x y : OpenTable S O A s o) (made : Call) (answer : Option Answer) → home_of y ≡ home_of x → DoesAt (options_in x.parts) (Sees x.parts) (Sees y.parts) made answer → Does x y made answer
does x y made (Some answer) same done = λ t at. ((done t at).0, subst (λ (h : Home). IsAt h.options (Sees y.parts) (made t).1) (sym same) (done t at).1)
does x y made None same done = stays x y same done

-- a call that finds something, which may depend on the session, and leaves the table in a state
finds : {S O A : Type 0} {s : Ghosts S A} {o : Ghosts O A} (x y : OpenTable S O A s o) (found : Home → TableState → Type 0) (after : TableState → TableState) → home_of y ≡ home_of x
    → ((t : TableState) → IsAt (options_in x.parts) (Sees x.parts) t → found (home_of x) t × IsAt (options_in x.parts) (Sees y.parts) (after t))
    → (t : TableState) → Shows x t → found (home_of y) t × Shows y (after t)
finds x y found after same done t at =
    (subst (λ (h : Home). found h t) (sym same) (done t at).0, subst (λ (h : Home). IsAt h.options (Sees y.parts) (after t)) (sym same) (done t at).1)

-- ---- calls with objects and keys

pub object_does : {S O A : Type 0} {s : Ghosts S A} {o : Ghosts O A} (x y : OpenTable S O A s o) (object : Datum) (act : Act) (answer : Answer) → home_of y ≡ home_of x → Follows (Sees x.parts) (Sees y.parts) (TurnedByObject (home_of x) object act (Some answer)) → Does x y (at_object x.session object act) (Some answer)
object_does x y object act answer same follows =
    does x y (at_object x.session object act) (Some answer) same (call.object_done (home_of x) (Sees x.parts) (Sees y.parts) object act answer refl (some_part x.parts) follows)

pub object_refuses : {S O A : Type 0} {s : Ghosts S A} {o : Ghosts O A} (x y : OpenTable S O A s o) (object : Datum) (act : Act) (f : Fault) → home_of y ≡ home_of x → Follows (Sees x.parts) (Sees y.parts) (RefusedByObject (home_of x) object act f) → Does x y (at_object x.session object act) (option_map Refused (refusal_of f))
object_refuses x y object act f same follows =
    does x y (at_object x.session object act) (option_map Refused (refusal_of f)) same (call.object_refused (home_of x) (Sees x.parts) (Sees y.parts) object act f refl follows)

pub key_does : {S O A : Type 0} {s : Ghosts S A} {o : Ghosts O A} (x y : OpenTable S O A s o) (k : Datum) (act : Act) (answer : Answer) → home_of y ≡ home_of x → Follows (Sees x.parts) (Sees y.parts) (TurnedByKey (home_of x) k act (Some answer)) → Does x y (at_key x.session k act) (Some answer)
key_does x y k act answer same follows =
    does x y (at_key x.session k act) (Some answer) same (call.key_done (home_of x) (Sees x.parts) (Sees y.parts) k act answer refl (some_part x.parts) follows)

pub key_stays : {S O A : Type 0} {s : Ghosts S A} {o : Ghosts O A} (x y : OpenTable S O A s o) (k : Datum) (act : Act) → home_of y ≡ home_of x → Follows (Sees x.parts) (Sees y.parts) (TurnedByKey (home_of x) k act None) → Stays x y
key_stays x y k act same follows = stays x y same (call.key_stays (home_of x) (Sees x.parts) (Sees y.parts) k act refl follows)

pub fix_does : {S O A : Type 0} {s : Ghosts S A} {o : Ghosts O A} (x y : OpenTable S O A s o) → home_of y ≡ home_of x → Follows (Sees x.parts) (Sees y.parts) (TurnedEach (home_of x) Fix (Some (Replied Nothing))) → Does x y (fixing x.session) (Some (Replied Nothing))
fix_does x y same follows = does x y (fixing x.session) (Some (Replied Nothing)) same (call.fix_done (home_of x) (Sees x.parts) (Sees y.parts) refl follows)

pub unfix_does : {S O A : Type 0} {s : Ghosts S A} {o : Ghosts O A} (x y : OpenTable S O A s o) → home_of y ≡ home_of x → Follows (Sees x.parts) (Sees y.parts) (TurnedEach (home_of x) Unfix (Some (Replied Nothing))) → Does x y (unfixing x.session) (Some (Replied Nothing))
unfix_does x y same follows = does x y (unfixing x.session) (Some (Replied Nothing)) same (call.unfix_done (home_of x) (Sees x.parts) (Sees y.parts) refl follows)

pub release_does : {S O A : Type 0} {s : Ghosts S A} {o : Ghosts O A} (x y : OpenTable S O A s o) → home_of y ≡ home_of x → Follows (Sees x.parts) (Sees y.parts) (TurnedEach (home_of x) Release (Some (Replied Nothing))) → Does x y (releasing x.session) (Some (Replied Nothing))
release_does x y same follows = does x y (releasing x.session) (Some (Replied Nothing)) same (call.release_done (home_of x) (Sees x.parts) (Sees y.parts) refl follows)

pub fix_refuses : {S O A : Type 0} {s : Ghosts S A} {o : Ghosts O A} (x y : OpenTable S O A s o) (f : Fault) → AreLegal (home_of x) (Sees x.parts) → home_of y ≡ home_of x → (f ≡ fault.FixLimit) × Follows (Sees x.parts) (Sees y.parts) (RefusedEach (home_of x) Fix) → (f ≡ fault.FixLimit) × Does x y (fixing x.session) (option_map Refused (refusal_of f))
fix_refuses x y f legal same both =
    (both.0, does x y (fixing x.session) (option_map Refused (refusal_of f)) same (call.fix_refused (home_of x) (Sees x.parts) (Sees y.parts) f legal x.inside both.0 both.1))

pub unfix_refuses : {S O A : Type 0} {s : Ghosts S A} {o : Ghosts O A} (x y : OpenTable S O A s o) (f : Fault) → AreLegal (home_of x) (Sees x.parts) → home_of y ≡ home_of x → (f ≡ fault.NotFixed) × Follows (Sees x.parts) (Sees y.parts) (RefusedEach (home_of x) Unfix) → (f ≡ fault.NotFixed) × Does x y (unfixing x.session) (option_map Refused (refusal_of f))
unfix_refuses x y f legal same both =
    (both.0, does x y (unfixing x.session) (option_map Refused (refusal_of f)) same (call.unfix_refused (home_of x) (Sees x.parts) (Sees y.parts) f legal x.inside both.0 both.1))

pub first_reads : {S O A : Type 0} {s : Ghosts S A} {o : Ghosts O A} (x y : OpenTable S O A s o) (k : Option Datum) → home_of y ≡ home_of x → Follows (Sees x.parts) (Sees y.parts) (FoundFirst (home_of x) 0 k) → Reads x y (λ t. k ≡ first_key t)
first_reads x y k same follows = finds x y (λ h t. k ≡ first_key t) (λ t. t) same (key.first_found (home_of x) (Sees x.parts) (Sees y.parts) k refl follows)

pub first_stays : {S O A : Type 0} {s : Ghosts S A} {o : Ghosts O A} (x y : OpenTable S O A s o) → home_of y ≡ home_of x → Follows (Sees x.parts) (Sees y.parts) (Stopped (home_of x) 0 None) → Stays x y
first_stays x y same follows = stays x y same (key.first_stopped (home_of x) (Sees x.parts) (Sees y.parts) refl follows)

pub next_does : {S O A : Type 0} {s : Ghosts S A} {o : Ghosts O A} (x y : OpenTable S O A s o) (k : Datum) (next : Option Datum) → home_of y ≡ home_of x → Follows (Sees x.parts) (Sees y.parts) (FoundNext (home_of x) k next) → Does x y (following x.session k) (Some (Replied (AtKey next)))
next_does x y k next same follows =
    does x y (following x.session k) (Some (Replied (AtKey next))) same (key.next_found (home_of x) (Sees x.parts) (Sees y.parts) k next refl (some_part x.parts) follows)

pub next_refuses : {S O A : Type 0} {s : Ghosts S A} {o : Ghosts O A} (x y : OpenTable S O A s o) (k : Datum) (f : Fault) → home_of y ≡ home_of x → Follows (Sees x.parts) (Sees y.parts) (RefusedNext (home_of x) k f) → Does x y (following x.session k) (option_map Refused (refusal_of f))
next_refuses x y k f same follows =
    does x y (following x.session k) (option_map Refused (refusal_of f)) same (key.next_refused (home_of x) (Sees x.parts) (Sees y.parts) k f refl (some_part x.parts) follows)

-- ---- calls with queries

pub select_reads : {S O A : Type 0} {s : Ghosts S A} {o : Ghosts O A} (x y : OpenTable S O A s o) (q : Query A) (answers : List Datum) → home_of y ≡ home_of x → Follows (Sees x.parts) (Sees y.parts) (Selects (home_of x) q answers) → Reads x y (λ t. answers ≡ answers_by q t)
select_reads x y q answers same follows =
    finds x y (λ h t. answers ≡ answers_by q t) (λ t. t) same (walk.selects (home_of x) (Sees x.parts) (Sees y.parts) q answers refl (some_part x.parts) follows)

pub select_stays : {S O A : Type 0} {s : Ghosts S A} {o : Ghosts O A} (x y : OpenTable S O A s o) (q : Query A) (wanted : ℕ → ℕ) → home_of y ≡ home_of x → Follows (Sees x.parts) (Sees y.parts) (GivesUpOn (home_of x) Answers q wanted) → Stays x y
select_stays x y q wanted same follows = stays x y same (walk.select_stops (home_of x) (Sees x.parts) (Sees y.parts) q wanted refl (some_part x.parts) follows)

pub count_reads : {S O A : Type 0} {s : Ghosts S A} {o : Ghosts O A} (x y : OpenTable S O A s o) (q : Query A) (count : ℕ) → home_of y ≡ home_of x → Follows (Sees x.parts) (Sees y.parts) (Tallies (home_of x) Counts q count) → Reads x y (λ t. count ≡ count_by q t)
count_reads x y q count same follows =
    finds x y (λ h t. count ≡ count_by q t) (λ t. t) same (walk.counts (home_of x) (Sees x.parts) (Sees y.parts) q count refl (some_part x.parts) follows)

pub count_stays : {S O A : Type 0} {s : Ghosts S A} {o : Ghosts O A} (x y : OpenTable S O A s o) (q : Query A) (wanted : ℕ → ℕ) → home_of y ≡ home_of x → Follows (Sees x.parts) (Sees y.parts) (GivesUpOn (home_of x) Counts q wanted) → Stays x y
count_stays x y q wanted same follows = stays x y same (walk.count_stops (home_of x) (Sees x.parts) (Sees y.parts) q wanted refl (some_part x.parts) follows)

pub delete_does : {S O A : Type 0} {s : Ghosts S A} {o : Ghosts O A} (x y : OpenTable S O A s o) (q : Query A) (count : ℕ) → home_of y ≡ home_of x → Follows (Sees x.parts) (Sees y.parts) (Tallies (home_of x) Deletes q count)
    → (t : TableState) → Shows x t → (count ≡ count_by q t) × Shows y (without q t)
delete_does x y q count same follows =
    finds x y (λ h t. count ≡ count_by q t) (without q) same (walk.removes (home_of x) (Sees x.parts) (Sees y.parts) q count refl (some_part x.parts) follows)

-- ---- walks in pieces

pub limit_begins : {S O A : Type 0} {s : Ghosts S A} {o : Ghosts O A} (x y : OpenTable S O A s o) (q : Query A) (limit : ℕ) (step : Step A) → home_of y ≡ home_of x → Follows (Sees x.parts) (Sees y.parts) (Begins (home_of x) q limit step)
    → (t : TableState) → Shows x t → IsStep (home_of y) q limit (start_in q t) [] step t × Shows y t
limit_begins x y q limit step same follows =
    finds x y (λ h t. IsStep h q limit (start_in q t) [] step t) (λ t. t) same (walk.begins (home_of x) (Sees x.parts) (Sees y.parts) q limit step refl (some_part x.parts) follows)

pub limit_refuses : {S O A B : Type 0} {s : Ghosts S A} {o : Ghosts O A} (x y : OpenTable S O A s o) (q : Query A) (limit : ℕ) (r : Result B (refused_type.Refused (Query A) WalkFault)) → home_of y ≡ home_of x
    → ((limit ≡ 0) → IsErrAnd r (λ e. e.fault ≡ walk_fault.BadLimit) × Follows (Sees x.parts) (Sees y.parts) (λ v w. w ≡ v))
    → IfErr r (λ e. (0 < limit) → (e.fault ≡ walk_fault.Memory) × Follows (Sees x.parts) (Sees y.parts) (StopsSelecting (home_of x) q limit))
    → IfErr r (λ e. e.value ≡ q) → IfErr r (λ e. (e.value ≡ q) × Stays x y)
limit_refuses x y q limit r same limited refused back =
    IfErr-weaker r _ _ (λ e both. (both.0, stays x y same both.1)) (walk.unbegun (home_of x) (Sees x.parts) (Sees y.parts) q limit r refl (some_part x.parts) limited refused back)

pub more_continues : {S O A : Type 0} {s : Ghosts S A} {o : Ghosts O A} (x y : OpenTable S O A s o) (c : Continuation A) (step : Step A) → home_of y ≡ home_of x → Follows (Sees x.parts) (Sees y.parts) (Continues (home_of x) c step)
    → IsHere (home_of x) c → Reads x y (IsStep (home_of y) c.query c.limit (position_of c.at) (kept_of c.kept) step)
more_continues x y c step same follows here =
    finds x y (λ h t. IsStep h c.query c.limit (position_of c.at) (kept_of c.kept) step t) (λ t. t) same (walk.continues (home_of x) (Sees x.parts) (Sees y.parts) c step refl (some_part x.parts) here follows)

pub more_stays : {S O A : Type 0} {s : Ghosts S A} {o : Ghosts O A} (x y : OpenTable S O A s o) → home_of y ≡ home_of x → Follows (Sees x.parts) (Sees y.parts) (λ v w. w ≡ v) → Stays x y
more_stays x y same follows = stays x y same (walk.still (home_of x) (Sees x.parts) (Sees y.parts) follows)

pub more_keeps : {S O A : Type 0} {s : Ghosts S A} {o : Ghosts O A} (x y : OpenTable S O A s o) (c d : Continuation A) → home_of y ≡ home_of x → Follows (Sees x.parts) (Sees y.parts) (Keeps (home_of x) c d) → IsHere (home_of x) c
    → (t : TableState) → Shows x t → GoesOn (home_of y) c.query c.limit (left_of c t) t d × Shows y t
more_keeps x y c d same follows here =
    finds x y (λ h t. GoesOn h c.query c.limit (left_of c t) t d) (λ t. t) same (walk.keeps (home_of x) (Sees x.parts) (Sees y.parts) c d refl (some_part x.parts) here follows)
