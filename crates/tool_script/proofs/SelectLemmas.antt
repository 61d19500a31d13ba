-- The reply to a session that walks its table.
use Rattle.std.proofs.Common.{◌≡◌, ◌≢◌, ℕ, ℤ, pos, ◌<◌, List, [], ◌∷◌, ◌++◌, refl, ap, sym, subst, ◌∙◌, Option, Some, None, arith, length, get_or, set, option_map}
use Rattle.std.specs.Prelude.{IsTrue, negsuc, if◌then◌else◌}
use Rattle.std.proofs.lemmas.Option.{none-some}
use Rattle.std.proofs.lemmas.Bool.{lt-ltb}
use Rattle.term_core.specs.Datum.{Datum, cells}
use Rattle.term_core.specs.Datum.Datum.{integer, nil}
use Rattle.mcode.specs.Answer.{answer_of}
use Rattle.mspec_syntax.specs.Faults.{IsRefusal}
use Rattle.mspec_syntax.specs.declared.fault.SpecFault.{SpecFault}
use Rattle.mspec_syntax.specs.declared.fault.SpecFault.TheVariants as spec_fault
use Rattle.part_core.specs.Acts.Purpose.{Answers, Counts, Deletes}
use Rattle.part_core.specs.Rows.{is_empty}
use Rattle.tables.specs.declared.options.Options.{Options}
use Rattle.tables.specs.OneThread.{TableState}
use Rattle.tables.specs.Turns.{Home, Views, Follows}
use Rattle.walk_core.specs.Walk.{Position, named_count, start_by, start_of}
use Rattle.walk_query.specs.declared.query.Query.{Query}
use Rattle.walks.specs.Alone.{IsAlong, IsPieceOf, IsSeen, StepsArePieces, WholeWalksSelect, WholeWalksCount, WholeWalksRemove}
use Rattle.walks.specs.Counting.{FinishesCount}
use Rattle.walks.specs.declared.continuation.Continuation.{Continuation}
use Rattle.walks.specs.declared.continuation.Step as step_type
use Rattle.walks.specs.declared.continuation.Step.TheVariants as step
use Rattle.walks.specs.Pieces.{IsOwn, IsWalkOf, Steps}
use Rattle.walk_core.specs.Positions.{IsThere, position_of}
use Rattle.walks.specs.Query.{IsWithin, kept_of, plan_of, walk_of}
use Rattle.walks.specs.Sights.{Piece, first_position, piece_of, sights_from}
use Rattle.walks.specs.Whole.{Finishes}
use Rattle.tool_script.specs.Command.Selection.{Select, SelectMore, SelectCount, SelectDelete}
use Rattle.tool_script.specs.declared.continuations.Continuations.{Continuations}
use Rattle.tool_script.specs.Continuations.{held_of, IsPlace, AreHeld, IsKept, IsSpent, own_at, walk_at}
use Rattle.tool_script.specs.Course.{Step, Takes}
use Rattle.tool_script.specs.Course.Course.{Judging}
use Rattle.tool_script.specs.Held.{Held, held_by}
use Rattle.tool_script.specs.Script.{error, key_or_end}
use Rattle.tool_script.specs.State.{AreAt, IsAt, IsDone, IsSelected}
use Rattle.tool_script.specs.Verdict.{IsMeant}
use Rattle.tool_script.specs.Verdict.Verdict.{Meant, Faulty}
use Rattle.tool_script.specs.Walks.{Walked, begun, behind_piece, fault_term, judged, piece_step, piece_term}
use Rattle.tool_script.proofs.ContinuationLemmas.{held_more, held_spent, own_is, own_there, Own}

-- ---- what a term is

-- the reply to a term that is no specification is its fault, and nothing changes
pub faulty : {A : Type 0} (o : Options) (sees : Views → Type 0) (walks : Continuations A) (d : Datum) (f : SpecFault) (go : Walked → (Datum → Option Datum) → Option (List Datum) → Step Walked) (reply : Datum) (count : ℕ) (w : Walked)
    → (f ≢ spec_fault.Memory) × (reply ≡ fault_term f) → IsRefusal f d → AreAt o sees count walks w
    → Takes (Judging w.table.options d (judged w (go w))) reply (AreAt o sees count walks)
faulty o sees walks d f go reply count w told refused at = (Faulty f, (told.0, refused), told.1, at)

-- the reply to a term that is a specification depends on what it means
pub meant : {A : Type 0} (o : Options) (before now : Views → Type 0) (old new : Continuations A) (d : Datum) (answer : Datum → Option Datum) (plan : Option (List Datum)) (go : Walked → (Datum → Option Datum) → Option (List Datum) → Step Walked) (reply : Datum) (count : ℕ) (w : Walked)
    → IsMeant o d answer plan → IsDone o before now old new (λ x. go x answer plan) reply → AreAt o before count old w
    → Takes (Judging w.table.options d (judged w (go w))) reply (AreAt o now count new)
meant o before now old new d answer plan go reply count w means done at =
    let is = done count w at in
    (Meant answer plan, subst (λ (x : Options). IsMeant x d answer plan) (sym at.table.options) means, is.0, is.1)

-- ---- whole walks

seen_of : (h : Home) (sees : Views → Type 0) (t : TableState) (at : IsAt h.options sees t) → IsSeen h t at.views
seen_of h sees t at = record { options = at.options; states = at.states }

at_seen : (h : Home) (sees : Views → Type 0) (t : TableState) (v : Views) → sees v → IsSeen h t v → IsAt h.options sees t
at_seen h sees t v sees_it seen = record { options = seen.options; views = v; seen = sees_it; states = seen.states }

pub selected : {A : Type 0} (law : WholeWalksSelect A) (h : Home) (before now : Views → Type 0) (walks : Continuations A) (d : Datum) (q : Query A) (wanted : ℕ → ℕ) (answers : List Datum)
    → IsTrue h.alone → 0 < h.options.parts → IsMeant h.options d (answer_of q.code) (plan_of q h.options)
    → Follows before now (Finishes h (walk_of h Answers q) wanted answers)
    → IsSelected h.options h.number before now walks walks (Select d) (cells answers nil)
selected law h before now walks d q wanted answers alone some means follows = λ count w at.
    let next = follows at.table.views at.table.seen in
    let done = law h w.table q wanted answers at.table.views next.0 alone some (seen_of h before w.table at.table) next.2 in (
      Meant (answer_of q.code) (plan_of q h.options),
      subst (λ (x : Options). IsMeant x d (answer_of q.code) (plan_of q h.options)) (sym at.table.options) means,
      ap (λ xs. cells xs nil) done.0,
      record { table = at_seen h now w.table next.0 next.1 done.1; named = at.named; walks = at.walks },
    )

pub counted : {A : Type 0} (law : WholeWalksCount A) (h : Home) (before now : Views → Type 0) (walks : Continuations A) (d : Datum) (q : Query A) (number : ℕ)
    → IsTrue h.alone → 0 < h.options.parts → IsMeant h.options d (answer_of q.code) (plan_of q h.options)
    → Follows before now (FinishesCount h (walk_of h Counts q) number)
    → IsSelected h.options h.number before now walks walks (SelectCount d) (integer (pos number))
counted law h before now walks d q number alone some means follows = λ count w at.
    let next = follows at.table.views at.table.seen in
    let done = law h w.table q number at.table.views next.0 alone some (seen_of h before w.table at.table) next.2 in (
      Meant (answer_of q.code) (plan_of q h.options),
      subst (λ (x : Options). IsMeant x d (answer_of q.code) (plan_of q h.options)) (sym at.table.options) means,
      ap (λ n. integer (pos n)) done.0,
      record { table = at_seen h now w.table next.0 next.1 done.1; named = at.named; walks = at.walks },
    )

pub removed : {A : Type 0} (law : WholeWalksRemove A) (h : Home) (before now : Views → Type 0) (walks : Continuations A) (d : Datum) (q : Query A) (number : ℕ)
    → IsTrue h.alone → 0 < h.options.parts → IsMeant h.options d (answer_of q.code) (plan_of q h.options)
    → Follows before now (FinishesCount h (walk_of h Deletes q) number)
    → IsSelected h.options h.number before now walks walks (SelectDelete d) (integer (pos number))
removed law h before now walks d q number alone some means follows = λ count w at.
    let next = follows at.table.views at.table.seen in
    let done = law h w.table q number at.table.views next.0 alone some (seen_of h before w.table at.table) next.2 in (
      Meant (answer_of q.code) (plan_of q h.options),
      subst (λ (x : Options). IsMeant x d (answer_of q.code) (plan_of q h.options)) (sym at.table.options) means,
      ap (λ n. integer (pos n)) done.0,
      record { table = at_seen h now _ next.0 next.1 done.1; named = at.named; walks = at.walks },
    )

-- ---- walks in pieces

-- the walk of a query by this session at this table
abbrev walk_held : {A : Type 0} → Home → Query A → ℕ → Position → List Datum → Held
walk_held h q limit at kept =
    record { table = h.options.name; session = h.number; answer = answer_of q.code; plan = plan_of q h.options; limit = limit; at = at; kept = kept }

-- the continuation that is kept after a piece
behind_place : {A : Type 0} (h : Home) (q : Query A) (limit : ℕ) (at : Position) (kept : List Datum) (piece : Piece) (c : Continuation A) (count : ℕ)
    → IsWalkOf h q limit c → kept_of c.kept ≡ piece.kept → position_of c.at ≡ piece.at → IsAlong h q piece.at → h.options.name < count
    → IsPlace (Some h.options) count (Some c) (Some (behind_piece (walk_held h q limit at kept) piece))
behind_place h q limit at kept piece c count own kept_is at_is along named =
    let query_is = sym own.0 in
    let limit_is = sym own.1 in
    let table_is = sym own.2.0 in
    let session_is = sym own.2.1 in
    let there = sym at_is in
    let rest = sym kept_is in
    record {
      earlier = subst (λ n. n < count) table_is named;
      table = table_is;
      own = λ same. (
        λ i. record { table = table_is i; session = session_is i; answer = answer_of (query_is i).code; plan = plan_of (query_is i) h.options; limit = limit_is i; at = there i; kept = rest i },
        subst (λ (x : Query _). IsThere h.options.parts (named_count (plan_of x h.options)) (position_of c.at)) query_is (subst (IsThere h.options.parts (named_count (plan_of q h.options))) there along),
      );
    }

-- the reply to a step is what the definitions say of its piece
kept_step : {A : Type 0} (h : Home) (now : Views → Type 0) (old new : Continuations A) (q : Query A) (limit : ℕ) (at : Position) (kept : List Datum) (s : step_type.Step A) (v u : Views) (reply : Datum) (count : ℕ) (w : Walked) (given rest : List Datum) (later : Position)
    → Steps h q limit at kept s v u → IsPieceOf (record { given = given; kept = rest; at = later }) s → IsAlong h q later
    → IsKept s old new reply → IsAt h.options now w.table → h.options.name < count → AreHeld (Some h.options) count old w.walks
    → let go : Step Walked = if is_empty given then (key_or_end None, w) else (piece_term given (length w.walks), record { table = w.table; walks = w.walks ++ Some (behind_piece (walk_held h q limit at kept) (record { given = given; kept = rest; at = later })) ∷ [] }) in
    (reply ≡ go.0) × AreAt h.options now count new go.1
kept_step h now old new q limit at kept (step.Piece answers c) v u reply count w [] rest later steps is along kept_is there named held =
    absurd (omega (arith, is.0))
kept_step h now old new q limit at kept (step.Piece answers c) v u reply count w (d ∷ ds) rest later steps is along kept_is there named held = (
  kept_is.0 ∙ ap (λ xs. piece_term xs old.next) is.1 ∙ ap (piece_term (d ∷ ds)) held.next,
  record {
    table = there;
    named = named;
    walks = held_more (Some h.options) count old new w.walks c (Some (behind_piece (walk_held h q limit at kept) (record { given = d ∷ ds; kept = rest; at = later }))) held kept_is.1
        (behind_place h q limit at kept (record { given = d ∷ ds; kept = rest; at = later }) c count steps.3 is.2 is.3 along named);
  },
)
kept_step h now old new q limit at kept (step.End p) v u reply count w [] rest later steps is along kept_is there named held = (
  kept_is.0,
  record { table = there; named = named; walks = subst (λ cs. AreHeld (Some h.options) count cs w.walks) (sym kept_is.1) held },
)
kept_step h now old new q limit at kept (step.End p) v u reply count w (d ∷ ds) rest later steps is along kept_is there named held =
    absurd (omega (arith, ap length is.0))

pub piece_done : {A : Type 0} (law : StepsArePieces A) (h : Home) (before now : Views → Type 0) (old new : Continuations A) (q : Query A) (limit : ℕ) (at : Position) (kept : List Datum) (s : step_type.Step A) (reply : Datum)
    → IsTrue h.alone → 0 < h.options.parts → IsAlong h q at → Follows before now (Steps h q limit at kept s) → IsKept s old new reply
    → IsDone h.options before now old new (λ w. piece_step w (walk_held h q limit at kept)) reply
piece_done law h before now old new q limit at kept s reply alone some along follows kept_is = λ count w there.
    let next = follows there.table.views there.table.seen in
    let done = law h w.table q limit at kept s there.table.views next.0 alone some (seen_of h before w.table there.table) along next.2 in
    let piece = piece_of (answer_of q.code) limit kept at (sights_from w.table (plan_of q h.options) at) in
    kept_step h now old new q limit at kept s there.table.views next.0 reply count w piece.given piece.kept piece.at next.2 done.0 done.1 kept_is (at_seen h now w.table next.0 next.1 done.2) there.named there.walks

-- ---- a walk that begins

starts_by : (plan : Option (List Datum)) (parts : ℕ) → 0 < parts → start_by plan 0 parts ≡ first_position plan
starts_by None parts some = ap (λ b. if b then Position.InPart 0 None else Position.Over) (lt-ltb 0 parts some)
starts_by (Some []) parts some = refl
starts_by (Some (k ∷ ks)) parts some =
    ap (λ b. if b then Position.AtNamed 0 else Position.Over) (lt-ltb 0 (length (k ∷ ks)) (omega arith))

first_there : (plan : Option (List Datum)) (parts : ℕ) → 0 < parts → IsThere parts (named_count plan) (first_position plan)
first_there None parts some = some
first_there (Some []) parts some = tt
first_there (Some (k ∷ ks)) parts some = omega arith

pub begun_done : {A : Type 0} (law : StepsArePieces A) (h : Home) (before now : Views → Type 0) (old new : Continuations A) (q : Query A) (limit : ℕ) (s : step_type.Step A) (reply : Datum)
    → IsTrue h.alone → 0 < h.options.parts → Follows before now (Steps h q limit (start_of (walk_of h Answers q)) [] s) → IsKept s old new reply
    → IsDone h.options before now old new (λ w. piece_step w (begun w.table.options h.number limit (answer_of q.code) (plan_of q h.options))) reply
begun_done law h before now old new q limit s reply alone some follows kept_is = λ count w there.
    let plan = plan_of q h.options in
    let start = starts_by plan h.options.parts some in
    let done = piece_done law h before now old new q limit (first_position plan) [] s reply alone some (first_there plan h.options.parts some) (subst (λ (at : Position). Follows before now (Steps h q limit at [] s)) start follows) kept_is count w there in
    subst (λ (o : Options). (reply ≡ (piece_step w (begun o h.number limit (answer_of q.code) plan)).0) × AreAt h.options now count new (piece_step w (begun o h.number limit (answer_of q.code) plan)).1) (sym there.table.options) done

-- ---- a walk that goes on

-- the continuation does not exist
pub stranger : {A : Type 0} (o : Options) (n : ℕ) (sees : Views → Type 0) (old new : Continuations A) (number : ℤ)
    → own_at old o.name n number ≡ None → new ≡ old → IsSelected o n sees sees old new (SelectMore number) (error 62)
stranger o n sees old new (pos i) none same = λ count w at.
    let held = own_is o count n (walk_at old i) (get_or w.walks i None) (at.walks.places i) ∙ ap (option_map (held_of o)) none in
    let named = ap (λ (x : Options). held_by x.name n (get_or w.walks i None)) at.table.options ∙ held in
    rw named (refl, record { table = at.table; named = at.named; walks = subst (λ cs. AreHeld (Some o) count cs w.walks) (sym same) at.walks })
stranger o n sees old new (negsuc i) none same = λ count w at.
    (refl, record { table = at.table; named = at.named; walks = subst (λ cs. AreHeld (Some o) count cs w.walks) (sym same) at.walks })

-- the walk in the place of a continuation
place_is : {A : Type 0} (o : Options) (count : ℕ) (c : Continuation A) (held : Option Held) → IsPlace (Some o) count (Some c) held → c.table ≡ o.name → IsWithin o c.query c.at
place_is o count c None is same = absurd is
place_is o count c (Some held) is same = (is.own (sym same)).1

own_held : (h : Home) {A : Type 0} (c : Continuation A) → c.table ≡ h.options.name → c.session ≡ h.number → held_of h.options c ≡ walk_held h c.query c.limit (position_of c.at) (kept_of c.kept)
own_held h c table_is session_is =
    λ i. record { table = table_is i; session = session_is i; answer = answer_of c.query.code; plan = plan_of c.query h.options; limit = c.limit; at = position_of c.at; kept = kept_of c.kept }

-- a session takes only its own walks
pub own_walk : {A : Type 0} (h : Home) (old : Continuations A) (number : ℤ) (c : Continuation A) → own_at old h.options.name h.number number ≡ Some c → IsOwn h c
own_walk h old (negsuc i) c own = absurd (none-some c own)
own_walk h old (pos i) c own =
    let is : Own h.options.name h.number (walk_at old i) c = own_there h.options.name h.number (walk_at old i) c own in
    (is.table_is, is.session_is)

pub gone_on : {A : Type 0} (law : StepsArePieces A) (h : Home) (before now : Views → Type 0) (old mid new : Continuations A) (number : ℤ) (c : Continuation A) (s : step_type.Step A) (reply : Datum)
    → IsTrue h.alone → 0 < h.options.parts → own_at old h.options.name h.number number ≡ Some c → IsSpent old number mid
    → Follows before now (Steps h c.query c.limit (position_of c.at) (kept_of c.kept) s) → IsKept s mid new reply
    → IsSelected h.options h.number before now old new (SelectMore number) reply
gone_on law h before now old mid new (negsuc i) c s reply alone some own spent follows kept_is = absurd spent
gone_on law h before now old mid new (pos i) c s reply alone some own spent follows kept_is = λ count w at.
    let o = h.options in
    let n : ℕ = h.number in
    let is : Own o.name n (walk_at old i) c = own_there o.name n (walk_at old i) c own in
    let there = at.walks.places i in
    let within = place_is o count c (get_or w.walks i None) (subst (λ x. IsPlace (Some o) count x (get_or w.walks i None)) is.there there) is.table_is in
    let held : held_by o.name n (get_or w.walks i None) ≡ Some (walk_held h c.query c.limit (position_of c.at) (kept_of c.kept)) =
    own_is o count n (walk_at old i) (get_or w.walks i None) there ∙ ap (option_map (held_of o)) own ∙ ap Some (own_held h c is.table_is is.session_is) in
    let named = ap (λ (x : Options). held_by x.name n (get_or w.walks i None)) at.table.options ∙ held in
    let left : Walked = record { table = w.table; walks = set w.walks i None } in
    let between : AreAt o before count mid left = record { table = at.table; named = at.named; walks = held_spent (Some o) count old mid w.walks i at.walks spent } in
    rw named (piece_done law h before now mid new c.query c.limit (position_of c.at) (kept_of c.kept) s reply alone some within follows kept_is count left between)
