-- The walks that can go on, as the code has them in memory.
use Rattle.std.specs.Prelude.{ℕ, ℤ, pos, ◌≡◌, ◌≢◌, ◌<◌, ◌+◌, ◌==◌, Bool, ◌&&◌, if◌then◌else◌}
use Rattle.std.specs.Prelude.{Option, Some, None, IfSome, get_or, List, length}
use Rattle.std.specs.Ordering.{nat_cmp}
use Rattle.std.specs.BTreeMap.{get}
use Rattle.term_core.specs.Datum.{Datum}
use Rattle.mcode.specs.Answer.{answer_of}
use Rattle.tables.specs.declared.options.Options.{Options}
use Rattle.walks.specs.declared.continuation.Continuation.{Continuation}
use Rattle.walks.specs.declared.continuation.Step.{Step}
use Rattle.walks.specs.declared.continuation.Step.TheVariants as step
use Rattle.walk_core.specs.Positions.{position_of}
use Rattle.walks.specs.Query.{IsWithin, kept_of, plan_of}
use Rattle.tool_script.specs.declared.continuations.Continuations.{Continuations}
use Rattle.tool_script.specs.Held.{Held}
use Rattle.tool_script.specs.Script.{key_or_end}
use Rattle.tool_script.specs.Walks.{piece_term}

-- the walk that a continuation means, in a table with these options
abbrev pub held_of : {A : Type 0} → Options → Continuation A → Held
held_of o c =
    record {
      table = c.table;
      session = c.session;
      answer = answer_of c.query.code;
      plan = plan_of c.query o;
      limit = c.limit;
      at = position_of c.at;
      kept = kept_of c.kept;
    }

-- A continuation belongs to a table that was opened, and so does its walk. If that table is the open one, the walk is
-- the one that the continuation means, at a position that the table has.
pub record IsHeld {A : Type 0} (open_options : Option Options) (count : ℕ) (c : Continuation A) (held : Held) : Type 0
  where
    pub earlier : c.table < count
    pub table : held.table ≡ c.table
    pub own : IfSome open_options (λ o. o.name ≡ c.table → (held ≡ held_of o c) × IsWithin o c.query c.at)

-- A number with a continuation also has a walk. A number without a continuation may still have a walk of a table that is
-- closed.
abbrev pub IsPlace : {A : Type 0} → Option Options → ℕ → Option (Continuation A) → Option Held → Type 0
IsPlace open_options count None None = Unit {0}
IsPlace open_options count None (Some held) = (held.table < count) × IfSome open_options (λ o. o.name ≢ held.table)
IsPlace open_options count (Some c) (Some held) = IsHeld open_options count c held
IsPlace open_options count c held = ⊥

-- the continuation of a number, if it is not spent
abbrev pub walk_at : {A : Type 0} → Continuations A → ℕ → Option (Continuation A)
walk_at cs i = get nat_cmp cs.open i

-- The continuations in memory are the walks of the state, number by number, given the options of the open table and the
-- number of tables opened so far.
pub record AreHeld {A : Type 0} (open_options : Option Options) (count : ℕ) (cs : Continuations A) (walks : List (Option Held)) : Type 0
  where
    pub next : cs.next ≡ length walks
    pub places : (i : ℕ) → IsPlace open_options count (walk_at cs i) (get_or walks i None)

-- ---- all are dropped

-- no number has a continuation any more, and none is used again
abbrev pub AreDropped : {A : Type 0} → (old new : Continuations A) → Type 0
AreDropped old new = (new.next ≡ old.next) × ((i : ℕ) → walk_at new i ≡ None)

-- ---- a walk that goes on is taken out, and kept by a new number

-- a continuation belongs to this table and session
abbrev pub is_own : {A : Type 0} → ℕ → ℕ → Continuation A → Bool
is_own table n c = c.table == table && c.session == n

-- the continuation of a number, if it belongs to this table and session
abbrev pub own_by : {A : Type 0} → ℕ → ℕ → Option (Continuation A) → Option (Continuation A)
own_by table n (Some c) = if is_own table n c then Some c else None
own_by table n None = None

abbrev pub own_at : {A : Type 0} → Continuations A → ℕ → ℕ → ℤ → Option (Continuation A)
own_at cs table n (pos i) = own_by table n (walk_at cs i)
own_at cs table n i = None

-- one number has this continuation now, or none; all other numbers have what they had
pub record IsSet {A : Type 0} (old : Continuations A) (i : ℕ) (c : Option (Continuation A)) (new : Continuations A) : Type 0
  where
    pub there : walk_at new i ≡ c
    pub others : (k : ℕ) → k ≢ i → walk_at new k ≡ walk_at old k
    pub next : new.next ≡ old.next

-- the continuation of this number is spent
abbrev pub IsSpent : {A : Type 0} → (old : Continuations A) → ℤ → (new : Continuations A) → Type 0
IsSpent old (pos i) new = IsSet old i None new
IsSpent old i new = ⊥

-- a continuation has the next number
pub record IsMore {A : Type 0} (old : Continuations A) (c : Continuation A) (new : Continuations A) : Type 0 where
  pub there : walk_at new old.next ≡ Some c
  pub others : (k : ℕ) → k ≢ old.next → walk_at new k ≡ walk_at old k
  pub next : new.next ≡ old.next + 1

-- the reply to a step of a walk: a piece with the number of a new continuation, by which the walk goes on, or the end
abbrev pub IsKept : {A : Type 0} → Step A → (old new : Continuations A) → Datum → Type 0
IsKept (step.Piece answers c) old new reply = (reply ≡ piece_term answers.items old.next) × IsMore old c new
IsKept (step.End q) old new reply = (reply ≡ key_or_end None) × (new ≡ old)
