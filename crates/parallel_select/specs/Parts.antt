-- Walks through one part each, which workers divide among themselves, and how a worker's walks change what its session sees.
use Rattle.std.specs.Prelude.{ℕ, ◌≡◌, ◌<◌, ◌≤◌, ◌+◌, ◌%◌, ◌==◌, ◌⊎◌, Bool, IsTrue, MatchBool, Option, Some, option_map, filter, if◌then◌else◌, zero, suc, List, [], length, min, get_or}
use Rattle.term_core.specs.Datum.{Datum}
use Rattle.part_core.specs.declared.fault.Fault.{Fault}
use Rattle.part_core.specs.declared.fault.Fault.TheVariants.{Memory}
use Rattle.mcode.specs.Program.{Program}
use Rattle.part_core.specs.Acts.{Act, Cursor, Purpose, Said, Scope, next_in}
use Rattle.part_core.specs.Acts.Act.{Fix, Unfix, Visit}
use Rattle.part_core.specs.Acts.Answer.{Replied, Refused}
use Rattle.part_core.specs.Acts.Said.{Nothing}
use Rattle.part_core.specs.Ops.{refusal_of}
use Rattle.part_core.specs.Replies.{most_counted}
use Rattle.part_core.specs.Settings.{part_of}
use Rattle.tables.specs.declared.options.Options.{Options}
use Rattle.tables.specs.Options.{settings_of}
use Rattle.tables.specs.Turns.{Home, Views, Turned}
use Rattle.walk_core.specs.Goes.{way, whole, Goes, Stops}
use Rattle.walk_core.specs.Walk.{Walk, Position, start_of}
use Rattle.walk_core.specs.Walk.Position.{Over}
use Rattle.walk_query.specs.declared.query.Query.{Query}
use Rattle.walks.specs.Own.{is_fixed_first}
use Rattle.walks.specs.Query.{plan_of}
use Rattle.parallel_select.specs.declared.gained.Gained.{Gained}
use Rattle.parallel_select.specs.Gained.{Gains, Adds, IsCounted, TakesIn}

-- the key is in the part
abbrev pub stands_in : Options → ℕ → Datum → Bool
stands_in options part k = part_of (settings_of options) k == part

-- the keys of a plan that are in a part, in their order
abbrev pub plan_in : Options → ℕ → Option (List Datum) → Option (List Datum)
plan_in options part plan = option_map (filter (stands_in options part)) plan

-- the walk of a session with this number through one part of a table, or through the named keys in this part
abbrev pub walk_through : {A : Type 0} → Options → ℕ → Purpose → Query A → ℕ → Walk
walk_through options number purpose query part = record {
  options = options;
  number = number;
  purpose = purpose;
  program = query.code;
  plan = plan_in options part (plan_of query options);
  from = part;
  to = part + 1;
}

-- the walk of a session through one part of its own table, or through the named keys in this part
abbrev pub part_walk : {A : Type 0} → Home → Purpose → Query A → ℕ → Walk
part_walk h purpose query part = walk_through h.options h.number purpose query part

-- ---- one visit

-- a visit at a part that was not refused: where the walk goes on, and what it adds to what was gained
abbrev pub Visited : {A : Type 0} → Home → ℕ → Purpose → Program → Scope → Option Cursor → Gained A → Gained A → Views → Views → Type 0
Visited h part purpose program scope next before after v u =
    (said : Said) × Turned h part (Visit purpose program scope most_counted) (Some (Replied said)) v u
    × (next_in said ≡ next) × TakesIn said before after

-- a visit at a part that was refused or ran out of memory, or whose answers could not be stored
abbrev pub Missed : {A : Type 0} → Home → ℕ → Purpose → Program → Scope → Fault → Gained A → Gained A → Views → Views → Type 0
Missed h part purpose program scope fault before after v u =
    (Turned h part (Visit purpose program scope most_counted) (option_map Refused (refusal_of fault)) v u × (after ≡ before))
    ⊎ ((fault ≡ Memory) × ((said : Said) × Turned h part (Visit purpose program scope most_counted) (Some (Replied said)) v u)
    × ((found : List Datum) → IsCounted after found))

-- ---- one walk

-- visits, and what they found is gained in addition to what was gained before
abbrev pub GoesGaining : {A : Type 0} → Home → Walk → Position → Position → Gained A → Gained A → Views → Views → Type 0
GoesGaining h w first at before after v u =
    (found : List Datum) × Goes h w whole (way v first []) (way u at found) × Gains before after found

-- visits, and then one that ran out of memory, or none; a count includes what they found
abbrev pub StopsGaining : {A : Type 0} → Home → Walk → Position → Gained A → Gained A → Views → Views → Type 0
StopsGaining h w first before after v u =
    (at : Position) × (found : List Datum) × Stops h w whole (way v first []) at found u × Adds before after found

-- a change of the session's fixes of a part, or nothing
abbrev pub ChangesFix : Home → Act → ℕ → Bool → Views → Views → Type 0
ChangesFix h act part here v u = MatchBool here (Turned h part act (Some (Replied Nothing)) v u) (u ≡ v)

-- A walk through one part. The part is fixed if it is one of a set or bag that the session doesn't fix. Then visits are
-- made from the beginning of the walk on, and this fix is released.
pub record Selects (h : Home) (w : Walk) (at : Position) (gained : List Datum) (v u : Views) : Type 0 where
  pub fixed : Views
  pub fixes : ChangesFix h Fix w.from (is_fixed_first h v w.from) v fixed
  pub last : Views
  pub visits : Stops h w whole (way fixed (start_of w) []) at gained last
  pub releases : ChangesFix h Unfix w.from (is_fixed_first h v w.from) last u

-- whether the part is fixed first, and that it was fixed in this case
abbrev pub FixesFirst : Home → ℕ → Bool → Views → Views → Type 0
FixesFirst h part own v u = (own ≡ is_fixed_first h v part) × ChangesFix h Fix part own v u

-- a walk through one part to its end, and what it found is gained in addition to what was gained before
abbrev pub SelectsGaining : {A : Type 0} → Home → Walk → Gained A → Gained A → Views → Views → Type 0
SelectsGaining h w before after v u =
    (found : List Datum) × Selects h w Over found v u × Gains before after found

-- a walk through one part that ran out of memory on its way; a count includes what it found
abbrev pub CeasesGaining : {A : Type 0} → Home → Walk → Gained A → Gained A → Views → Views → Type 0
CeasesGaining h w before after v u =
    (at : Position) × (found : List Datum) × Selects h w at found v u × Adds before after found

-- ---- one worker

-- the part belongs to the worker with this number
abbrev pub is_share : ℕ → ℕ → ℕ → Bool
is_share workers number part = (part % workers) == number

-- at one part: one walk, if the part is the worker's own, else nothing
abbrev pub Passes : Home → (ℕ → Walk) → (ℕ → Bool) → ℕ → List Datum → Views → Views → Type 0
Passes h walk own part gained v u = MatchBool (own part) (Selects h (walk part) Over gained v u) (u ≡ v)

-- The worker's passes over the parts below a number, one after the other in ascending order.
pub data Works (h : Home) (walk : ℕ → Walk) (own : ℕ → Bool) (gained : ℕ → List Datum) (v : Views) : ℕ → Views → Type 0 where
  begins : Works h walk own gained v 0 v
  passes : {part : ℕ} {u w : Views} → Works h walk own gained v part u → Passes h walk own part (gained part) u w
      → Works h walk own gained v (part + 1) w

-- A walk through one of a worker's own parts that ran out of memory on its way.
pub record CeasesAt (h : Home) (walk : ℕ → Walk) (own : ℕ → Bool) (part : ℕ) (gained : List Datum) (v u : Views) : Type 0 where
  pub mine : IsTrue (own part)
  pub at : Position
  pub selects : Selects h (walk part) at gained v u

-- a pass over one part, and a walk of one that ran out of memory, each with what was gained before it and after it
abbrev pub PassesCounting : {A : Type 0} → Home → (ℕ → Walk) → (ℕ → Bool) → ℕ → Gained A → Gained A → Views → Views → Type 0
PassesCounting h walk own part before after v u =
    MatchBool (own part) (SelectsGaining h (walk part) before after v u) ((u ≡ v) × (after ≡ before))

abbrev pub CeasesCounting : {A : Type 0} → Home → (ℕ → Walk) → (ℕ → Bool) → ℕ → Gained A → Gained A → Views → Views → Type 0
CeasesCounting h walk own part before after v u = IsTrue (own part) × CeasesGaining h (walk part) before after v u

-- A worker that ran out of memory: it walked through its own parts below one, and through this one up to some visit.
pub record Ceases (h : Home) (walk : ℕ → Walk) (own : ℕ → Bool) (gained : ℕ → List Datum) (part : ℕ) (v u : Views) : Type 0 where
  pub inside : part < h.options.parts
  pub before : Views
  pub works : Works h walk own gained v part before
  pub last : CeasesAt h walk own part (gained part) before u

-- A worker of a selection that failed: it walked through its own parts below one, and maybe through this one up to some visit.
abbrev pub Broken : Home → (ℕ → Walk) → (ℕ → Bool) → Views → Views → Type 0
Broken h walk own v u =
    (gained : ℕ → List Datum) × (part : ℕ)
    × (((part ≤ h.options.parts) × Works h walk own gained v part u) ⊎ Ceases h walk own gained part v u)

-- ---- numbers

-- how many objects were gained from a worker's own parts below a number
abbrev pub number_gained : (ℕ → Bool) → (ℕ → List Datum) → ℕ → ℕ
number_gained own gained zero = 0
number_gained own gained (suc part) =
    number_gained own gained part + (if own part then length (gained part) else 0)

-- the count of a number of objects, up to the greatest number that is counted
abbrev pub IsTotal : ℕ → ℕ → Type 0
IsTotal number count = count ≡ min number most_counted

-- a worker that came to its end, with the number of objects that it counted or deleted
abbrev pub Counted : Home → (ℕ → Walk) → (ℕ → Bool) → ℕ → Views → Views → Type 0
Counted h walk own count v u =
    (gained : ℕ → List Datum) × Works h walk own gained v h.options.parts u
    × IsTotal (number_gained own gained h.options.parts) count

-- a worker that ran out of memory, with the number counted or deleted up to then
abbrev pub BrokenAt : Home → (ℕ → Walk) → (ℕ → Bool) → ℕ → Views → Views → Type 0
BrokenAt h walk own count v u =
    (gained : ℕ → List Datum) × (part : ℕ) × Ceases h walk own gained part v u
    × IsTotal (number_gained own gained (part + 1)) count

-- the answers of a part, among those of all parts
abbrev pub answers_of : List (List Datum) → ℕ → List Datum
answers_of lists part = get_or lists part []
