-- What calls with queries return.
use Rattle.std.proofs.Common.{◌≡◌, ◌<◌, ℕ, List, [], ◌++◌, Option, Some, None, refl, sym, subst, ◌∙◌, ap, arith, flat_map, filter_map}
use Rattle.std.proofs.Math.Path.{fun_ext}
use Rattle.std.specs.Prelude.{IsTrue, Result, Ok, Err, IfErr, IsErrAnd, if◌then◌else◌, nat_lt}
use Rattle.std.proofs.lemmas.Bool.{ltb-true, ltb-false}
use Rattle.std.proofs.lemmas.List.{append_assoc}
use Rattle.std.proofs.lemmas.List.Concat.{flat_map-append}
use Rattle.term_core.specs.Datum.{Datum}
use Rattle.term_core.specs.declared.fault.Refused.{Refused}
use Rattle.mcode.specs.Answer.{answer_of}
use Rattle.part_core.specs.Acts.Purpose.{Answers, Counts, Deletes}
use Rattle.part_core.specs.Legal.{state_after}
use Rattle.part_core.specs.Rows.{Row}
use Rattle.part_core.specs.Visits.{is_true}
use Rattle.part_core.proofs.KeyLemmas.{by_test}
use Rattle.tables.specs.declared.options.Options.{Options}
use Rattle.tables.specs.Options.{settings_of}
use Rattle.tables.specs.OneThread.{TableState}
use Rattle.tables.specs.Turns.{Home, Views, Follows}
use Rattle.walk_core.specs.Goes.{up_to, way}
use Rattle.walk_core.specs.Walk.{Position, named_count}
use Rattle.walk_core.specs.Walk.Position.{Over}
use Rattle.walk_core.specs.Positions.{IsThere, position_of}
use Rattle.walk_query.specs.declared.query.Query.{Query}
use Rattle.walks.specs.Alone.{IsAlong, IsPieceOf, IsSeen}
use Rattle.walks.specs.Asked.{GivesUpOn, Selects, StopsSelecting, Tallies}
use Rattle.walks.specs.Pieces.{Begins, Continues, IsWalkOf, Keeps, Steps}
use Rattle.walks.specs.Query.{kept_of, plan_of}
use Rattle.walks.specs.Sights.{Sight, after_removal, answers_in, first_position, number_true, piece_of, rows_seen, selected, sights_from}
use Rattle.walks.specs.declared.continuation.Continuation.{Continuation}
use Rattle.walks.specs.declared.continuation.Step.{Step}
use Rattle.walks.specs.declared.continuation.Step.TheVariants as step
use Rattle.walks.specs.declared.fault.WalkFault.{WalkFault}
use Rattle.walks.specs.declared.fault.WalkFault.TheVariants as fault
use Rattle.walks.proofs.AloneLemmas.{steps_alone}
use Rattle.walks.proofs.DeletedLemmas.{removed_alone}
use Rattle.walks.proofs.GoneLemmas.{Gone, goes_gone}
use Rattle.walks.proofs.PlainLemmas.{starts, first_there, table_of}
use Rattle.walks.proofs.WhollyLemmas.{counted_alone, selected_alone, those_that}
use Rattle.open_table.specs.Parts.{IsAt}
use Rattle.open_table.specs.Queries.{answers_by, count_by, start_in, to_come, without}
use Rattle.open_table.specs.Walks.{GoesOn, IsHere, IsStep, Leaves, left_of}
use Rattle.open_table.proofs.LinkLemmas.{stays_at}
use Rattle.open_table.proofs.StopLemmas.{begun_same, stops_same, wholly_same}

seen_of : (h : Home) (sees : Views → Type 0) (t : TableState) (at : IsAt h.options sees t) → IsSeen h t at.views
seen_of h sees t at = record { options = at.options; states = at.states }

at_seen : (h : Home) (sees : Views → Type 0) (t : TableState) (v : Views) → sees v → IsSeen h t v → IsAt h.options sees t
at_seen h sees t v sees_it seen = record { options = seen.options; views = v; seen = sees_it; states = seen.states }

-- a call leaves the table in the state that it was in
abbrev pub StaysAt : Home → (before now : Views → Type 0) → Type 0
StaysAt h before now = (t : TableState) → IsAt h.options before t → IsAt h.options now t

-- ---- whole walks

pub selects : {A : Type 0} (h : Home) (before now : Views → Type 0) (q : Query A) (answers : List Datum) → IsTrue h.alone → 0 < h.options.parts → Follows before now (Selects h q answers)
    → (t : TableState) → IsAt h.options before t → (answers ≡ answers_by q t) × IsAt h.options now t
selects h before now q answers alone some follows t at =
    let next = follows at.views at.seen in
    let done = selected_alone h t q _ answers at.views next.0 alone some (seen_of h before t at) next.2 in
    (done.0 ∙ ap (λ (o : Options). selected t (plan_of q o) (answer_of q.code)) (sym at.options), at_seen h now t next.0 next.1 done.1)

pub counts : {A : Type 0} (h : Home) (before now : Views → Type 0) (q : Query A) (count : ℕ) → IsTrue h.alone → 0 < h.options.parts → Follows before now (Tallies h Counts q count)
    → (t : TableState) → IsAt h.options before t → (count ≡ count_by q t) × IsAt h.options now t
counts h before now q count alone some follows t at =
    let next = follows at.views at.seen in
    let done = counted_alone h t q count at.views next.0 alone some (seen_of h before t at) next.2 in
    (done.0 ∙ ap (λ (o : Options). number_true t (plan_of q o) (answer_of q.code)) (sym at.options), at_seen h now t next.0 next.1 done.1)

pub removes : {A : Type 0} (h : Home) (before now : Views → Type 0) (q : Query A) (count : ℕ) → IsTrue h.alone → 0 < h.options.parts → Follows before now (Tallies h Deletes q count)
    → (t : TableState) → IsAt h.options before t → (count ≡ count_by q t) × IsAt h.options now (without q t)
removes h before now q count alone some follows t at =
    let next = follows at.views at.seen in
    let done = removed_alone h t q count at.views next.0 alone some (seen_of h before t at) next.2 in (
      done.0 ∙ ap (λ (o : Options). number_true t (plan_of q o) (answer_of q.code)) (sym at.options),
      subst (λ (o : Options). IsAt h.options now (after_removal t (plan_of q o) (answer_of q.code))) (sym at.options) (at_seen h now _ next.0 next.1 done.1),
    )

pub select_stops : {A : Type 0} (h : Home) (before now : Views → Type 0) (q : Query A) (wanted : ℕ → ℕ) → IsTrue h.alone → 0 < h.options.parts → Follows before now (GivesUpOn h Answers q wanted) → StaysAt h before now
select_stops h before now q wanted alone some follows t at =
    let next = follows at.views at.seen in
    record {
      options = at.options;
      views = next.0;
      seen = next.1;
      states = wholly_same (answer_of q.code) h Answers q.code t.states (plan_of q h.options) wanted next.2.0 next.2.1 at.views next.0 refl (λ s scope n. refl) alone some at.states next.2.2;
    }

pub count_stops : {A : Type 0} (h : Home) (before now : Views → Type 0) (q : Query A) (wanted : ℕ → ℕ) → IsTrue h.alone → 0 < h.options.parts → Follows before now (GivesUpOn h Counts q wanted) → StaysAt h before now
count_stops h before now q wanted alone some follows t at =
    let next = follows at.views at.seen in
    record {
      options = at.options;
      views = next.0;
      seen = next.1;
      states = wholly_same (λ x. if is_true q.code x then Some x else None) h Counts q.code t.states (plan_of q h.options) wanted next.2.0 next.2.1 at.views next.0 (fun_ext (those_that (is_true q.code))) (λ s scope n. refl) alone some at.states next.2.2;
    }

-- ---- walks in pieces

answers_on : (f : Datum → Option Datum) (vs ws : List Sight) → answers_in f (vs ++ ws) ≡ answers_in f vs ++ answers_in f ws
answers_on f vs ws =
    ap (flat_map (λ (r : Row). filter_map f r.1)) (flat_map-append (λ (v : Sight). v.rows) vs ws)
    ∙ flat_map-append (λ (r : Row). filter_map f r.1) (rows_seen vs) (rows_seen ws)

-- visits hand over what they found: the same answers are to come before and after them
same_due : {A : Type 0} (h : Home) (t : TableState) (q : Query A) (wanted : ℕ → ℕ) (v u : Views) (at later : Position) (kept more : List Datum) → t.options ≡ h.options
    → Gone (answer_of q.code) h t.states (plan_of q h.options) wanted (way v at kept) (way u later more)
    → to_come q at kept t ≡ to_come q later more t
same_due h t q wanted v u at later kept more is g =
    let f = answer_of q.code in
    let x : TableState = table_of h t.states in
    let plan : Option (List Datum) = plan_of q h.options in
    let whole : t ≡ x = ap (λ (o : Options). record { options = o; states = t.states }) is in
    let due : to_come q at kept x ≡ to_come q later more x =
    ap (λ (vs : List Sight). kept ++ answers_in f vs) g.splits
    ∙ ap (λ (xs : List Datum). kept ++ xs) (answers_on f g.front (sights_from x plan later))
    ∙ sym (append_assoc kept (answers_in f g.front) (answers_in f (sights_from x plan later)))
    ∙ ap (λ (xs : List Datum). xs ++ answers_in f (sights_from x plan later)) (sym g.gains) in
    subst (λ (y : TableState). to_come q at kept y ≡ to_come q later more y) (sym whole) due

-- the walk that goes on: its own answers are those to come
goes_on : {A : Type 0} (h : Home) (t : TableState) (q : Query A) (limit : ℕ) (c : Continuation A) → IsWalkOf h q limit c
    → IsAlong h q (position_of c.at) → GoesOn h q limit (to_come q (position_of c.at) (kept_of c.kept) t) t c
goes_on h t q limit c own along = (
  own.0,
  own.1,
  ((own.2.0, own.2.1), subst (λ (x : Query _). IsThere h.options.parts (named_count (plan_of x h.options)) (position_of c.at)) (sym own.0) along),
  ap (λ (x : Query _). to_come x (position_of c.at) (kept_of c.kept) t) own.0,
)

steps_left : {A : Type 0} (h : Home) (t : TableState) (q : Query A) (limit : ℕ) (at : Position) (kept : List Datum) (s : Step A) (v u : Views) → IsTrue h.alone → 0 < h.options.parts → IsSeen h t v → IsAlong h q at → Steps h q limit at kept s v u
    → Leaves h q limit (to_come q at kept t) t s
steps_left h t q limit at kept (step.Piece answers c) v u alone some seen along steps =
    let f = answer_of q.code in
    let gone = (goes_gone f h Answers q.code t.states (plan_of q h.options) (up_to limit) (way v at kept) (way u (position_of c.at) (answers.items ++ kept_of c.kept)) refl (λ s scope n. refl) alone some seen.states along steps.0).0 in (
      to_come q (position_of c.at) (kept_of c.kept) t,
      same_due h t q (up_to limit) v u at (position_of c.at) kept (answers.items ++ kept_of c.kept) seen.options gone
          ∙ append_assoc answers.items (kept_of c.kept) (answers_in f (sights_from t (plan_of q t.options) (position_of c.at))),
      goes_on h t q limit c steps.3 gone.there,
    )
steps_left h t q limit at kept (step.End p) v u alone some seen along steps =
    let gone = (goes_gone (answer_of q.code) h Answers q.code t.states (plan_of q h.options) (up_to limit) (way v at kept) (way u Over []) refl (λ s scope n. refl) alone some seen.states along steps.0).0 in
    (same_due h t q (up_to limit) v u at Over kept [] seen.options gone, steps.1)

pub steps_on : {A : Type 0} (h : Home) (before now : Views → Type 0) (q : Query A) (limit : ℕ) (at : Position) (kept : List Datum) (s : Step A) → IsTrue h.alone → 0 < h.options.parts → IsAlong h q at → Follows before now (Steps h q limit at kept s)
    → (t : TableState) → IsAt h.options before t → IsStep h q limit at kept s t × IsAt h.options now t
steps_on h before now q limit at kept s alone some along follows t there =
    let next = follows there.views there.seen in
    let seen = seen_of h before t there in
    let done = steps_alone h t q limit at kept s there.views next.0 alone some seen along next.2 in (
      (
        subst (λ (o : Options). IsPieceOf (piece_of (answer_of q.code) limit kept at (sights_from t (plan_of q o) at)) s) (sym there.options) done.0,
        steps_left h t q limit at kept s there.views next.0 alone some seen along next.2,
      ),
      at_seen h now t next.0 next.1 done.2,
    )

-- a walk that begins
pub begins : {A : Type 0} (h : Home) (before now : Views → Type 0) (q : Query A) (limit : ℕ) (s : Step A) → IsTrue h.alone → 0 < h.options.parts → Follows before now (Begins h q limit s)
    → (t : TableState) → IsAt h.options before t → IsStep h q limit (start_in q t) [] s t × IsAt h.options now t
begins h before now q limit s alone some follows t at =
    let plan : Option (List Datum) = plan_of q h.options in
    let steps : Follows before now (Steps h q limit (first_position plan) [] s) = subst (λ (p : Position). Follows before now (Steps h q limit p [] s)) (starts h Answers q.code plan some) (λ v b. ((follows v b).0, (follows v b).1, (follows v b).2.0)) in
    let done = steps_on h before now q limit (first_position plan) [] s alone some (first_there h.options.parts plan some) steps t at in
    (subst (λ (o : Options). IsStep h q limit (first_position (plan_of q o)) [] s t) (sym at.options) done.0, done.1)

-- a walk that goes on
pub continues : {A : Type 0} (h : Home) (before now : Views → Type 0) (c : Continuation A) (s : Step A) → IsTrue h.alone → 0 < h.options.parts → IsHere h c → Follows before now (Continues h c s)
    → (t : TableState) → IsAt h.options before t → IsStep h c.query c.limit (position_of c.at) (kept_of c.kept) s t × IsAt h.options now t
continues h before now c s alone some here follows =
    steps_on h before now c.query c.limit (position_of c.at) (kept_of c.kept) s alone some here.1 (λ v b. ((follows v b).0, (follows v b).1, (follows v b).2.0))

-- ---- walks in pieces that ran out of memory

begin_stops : {A : Type 0} (h : Home) (before now : Views → Type 0) (q : Query A) (limit : ℕ) → IsTrue h.alone → 0 < h.options.parts → Follows before now (StopsSelecting h q limit) → StaysAt h before now
begin_stops h before now q limit alone some follows t at =
    let next = follows at.views at.seen in
    record {
      options = at.options;
      views = next.0;
      seen = next.1;
      states = begun_same (answer_of q.code) h Answers q.code t.states (plan_of q h.options) (up_to limit) at.views next.0 next.2.0 next.2.1 refl (λ s scope n. refl) alone some at.states next.2.2;
    }

-- nothing is turned, so the table stays
pub still : (h : Home) (before now : Views → Type 0) → Follows before now (λ v w. w ≡ v) → StaysAt h before now
still h before now follows t at =
    let next = follows at.views at.seen in
    stays_at h.options before now t at next.0 next.1 (λ k inside. ap (λ (v : Views). state_after (settings_of h.options) (v k)) next.2)

-- a walk that doesn't begin hands its query back, and leaves the table
pub unbegun : {A B : Type 0} (h : Home) (before now : Views → Type 0) (q : Query A) (limit : ℕ) (r : Result B (Refused (Query A) WalkFault)) → IsTrue h.alone → 0 < h.options.parts
    → ((limit ≡ 0) → IsErrAnd r (λ x. x.fault ≡ fault.BadLimit) × Follows before now (λ v w. w ≡ v))
    → IfErr r (λ x. (0 < limit) → (x.fault ≡ fault.Memory) × Follows before now (StopsSelecting h q limit))
    → IfErr r (λ x. x.value ≡ q) → IfErr r (λ x. (x.value ≡ q) × StaysAt h before now)
unbegun h before now q limit (Ok s) alone some limited refused back = tt
unbegun h before now q limit (Err x) alone some limited refused back = (
  back,
  by_test (nat_lt 0 limit) (StaysAt h before now)
      (λ more. begin_stops h before now q limit alone some (refused (ltb-true 0 limit more)).1)
      (λ none. still h before now (limited (omega (arith, ltb-false 0 limit none))).1),
)

-- a walk that ran out of memory goes on from where it came, with the same answers to come
pub keeps : {A : Type 0} (h : Home) (before now : Views → Type 0) (c d : Continuation A) → IsTrue h.alone → 0 < h.options.parts → IsHere h c → Follows before now (Keeps h c d)
    → (t : TableState) → IsAt h.options before t → GoesOn h c.query c.limit (left_of c t) t d × IsAt h.options now t
keeps h before now c d alone some here follows t at =
    let next = follows at.views at.seen in
    let q = c.query in
    let stopped = stops_same (answer_of q.code) h Answers q.code t.states (plan_of q h.options) (up_to c.limit) at.views next.0 (position_of c.at) (position_of d.at) (kept_of c.kept) (kept_of d.kept) refl (λ s scope n. refl) alone some at.states here.1 next.2.0 in
    let due = same_due h t q (up_to c.limit) at.views next.2.0.0 (position_of c.at) (position_of d.at) (kept_of c.kept) (kept_of d.kept) at.options stopped.0 in
    let on = goes_on h t q c.limit d next.2.1 stopped.0.there in (
      (on.0, on.1, on.2, on.3 ∙ sym due),
      record { options = at.options; views = next.0; seen = next.1; states = stopped.1 },
    )
