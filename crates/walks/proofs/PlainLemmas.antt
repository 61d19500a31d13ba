-- The walk of a session through all parts of its table or through named keys, and what a visit of it looks at.
use Rattle.std.proofs.Common.{◌≡◌, ◌≢◌, ◌<◌, ◌+◌, ℕ, Option, Some, None, List, [], ◌∷◌, refl, subst, sym, arith, length, lt-ltb}
use Rattle.std.specs.Prelude.{IsTrue, true, nat_lt, filter_map}
use Rattle.std.proofs.lemmas.Bool.{ltb-true}
use Rattle.std.proofs.lemmas.Nat.{mod_below}
use Rattle.term_core.specs.Datum.{Datum}
use Rattle.term_core.specs.KeyHash.{key_hash}
use Rattle.mcode.specs.Program.{Program}
use Rattle.part_core.specs.Acts.{Purpose, Cursor}
use Rattle.part_core.specs.Laws.{LeadsTo}
use Rattle.part_core.specs.Replies.{yield_of}
use Rattle.part_core.specs.Rows.{PartState}
use Rattle.part_core.specs.States.{IsState}
use Rattle.part_core.specs.Visits.{is_inside, next_of, yields}
use Rattle.part_core.proofs.KeyLemmas.{by_test}
use Rattle.tables.specs.Options.{settings_of}
use Rattle.tables.specs.OneThread.{TableState}
use Rattle.tables.specs.Turns.{Home}
use Rattle.walk_core.specs.Walk.{Walk, Position, at_key, at_part, named_at, named_count, next_position, part_at, position_in, scope_at, scope_from, start_of}
use Rattle.walk_core.specs.Walk.Position.{InPart, AtNamed, Over}
use Rattle.walk_core.specs.Positions.{IsThere}
use Rattle.walks.specs.Sights.{first_position, goes_on}
use Rattle.walks.proofs.LookLemmas.{Looks}
use Rattle.walks.proofs.NamedLemmas.{key_looks}
use Rattle.walks.proofs.VisitLooks.{visit_looks}

-- the walk of a session through all parts of its table, or through the keys that are named
abbrev pub plain : Home → Purpose → Program → Option (List Datum) → Walk
plain h purpose program plan = record {
  options = h.options;
  number = h.number;
  purpose = purpose;
  program = program;
  plan = plan;
  from = 0;
  to = h.options.parts;
}

abbrev pub table_of : Home → (ℕ → PartState) → TableState
table_of h states = record { options = h.options; states = states }

-- ---- its position

-- the position where it begins
pub starts : (h : Home) (purpose : Purpose) (p : Program) (plan : Option (List Datum)) → 0 < h.options.parts → start_of (plain h purpose p plan) ≡ first_position plan
starts h purpose p None some = rw (lt-ltb 0 h.options.parts some) refl
starts h purpose p (Some []) some = refl
starts h purpose p (Some (k ∷ ks)) some =
    let more : nat_lt 0 (length (k ∷ ks)) ≡ true = lt-ltb 0 (length (k ∷ ks)) (omega arith) in rw more refl

-- it can be at the position where it begins
pub first_there : (parts : ℕ) (plan : Option (List Datum)) → 0 < parts → IsThere parts (named_count plan) (first_position plan)
first_there parts None some = some
first_there parts (Some []) some = tt
first_there parts (Some (k ∷ ks)) some = omega arith

-- it can be at the position after a visit
pub there_next : (h : Home) (purpose : Purpose) (p : Program) (plan : Option (List Datum)) (at : Position) (next : Option Cursor) → IsThere h.options.parts (named_count plan) at
    → IsThere h.options.parts (named_count plan) (next_position (plain h purpose p plan) at next)
there_next h purpose p plan (InPart part cursor) (Some c) there = there
there_next h purpose p plan (InPart part cursor) None there =
    let parts : ℕ = h.options.parts in
    by_test (nat_lt (part + 1) parts) (IsThere parts (named_count plan) (at_part (part + 1) parts)) (λ further. rw further (ltb-true (part + 1) parts further)) (λ last. rw last tt)
there_next h purpose p plan (AtNamed n) next there =
    let count : ℕ = named_count plan in
    by_test (nat_lt (n + 1) count) (IsThere h.options.parts count (at_key (n + 1) count)) (λ further. rw further (ltb-true (n + 1) count further)) (λ last. rw last tt)
there_next h purpose p plan Over next there = tt

-- the part of a visit is one of the table's
pub part_inside : (h : Home) (purpose : Purpose) (p : Program) (plan : Option (List Datum)) (at : Position) → 0 < h.options.parts → IsThere h.options.parts (named_count plan) at → at ≢ Over
    → part_at (plain h purpose p plan) at < h.options.parts
part_inside h purpose p plan (InPart part cursor) some there more = there
part_inside h purpose p plan (AtNamed n) some there more = mod_below (key_hash (named_at plan n)) h.options.parts some
part_inside h purpose p plan Over some there more = absurd (more refl)

-- ---- what a visit looks at

same_next : (h : Home) (states : ℕ → PartState) (part : ℕ) (next : Option Cursor) → position_in h.options.parts part next ≡ goes_on (table_of h states) part next
same_next h states part None = refl
same_next h states part (Some c) = refl

-- what a visit with a target above 0 looks at, in a table with these states
pub walk_looks : (f : Datum → Option Datum) (h : Home) (purpose : Purpose) (p : Program) (states : ℕ → PartState) (wanted : ℕ) (at : Position) (plan : Option (List Datum)) → yields purpose p ≡ filter_map f → 0 < wanted
    → IsThere h.options.parts (named_count plan) at → at ≢ Over
    → IsState (settings_of h.options) (states (part_at (plain h purpose p plan) at))
    → IsTrue (is_inside (settings_of h.options) (states (part_at (plain h purpose p plan) at)) (scope_at (plain h purpose p plan) at))
    → LeadsTo (settings_of h.options) (states (part_at (plain h purpose p plan) at)).base (scope_at (plain h purpose p plan) at) (next_of (settings_of h.options) (states (part_at (plain h purpose p plan) at)) purpose p (scope_at (plain h purpose p plan) at) wanted)
    → Looks f (table_of h states) plan wanted at (next_position (plain h purpose p plan) at (next_of (settings_of h.options) (states (part_at (plain h purpose p plan) at)) purpose p (scope_at (plain h purpose p plan) at) wanted))
    (yield_of (settings_of h.options) (states (part_at (plain h purpose p plan) at)) purpose p (scope_at (plain h purpose p plan) at) wanted)
walk_looks f h purpose p states wanted (InPart part cursor) plan same some there more state inside leads =
    let o = settings_of h.options in
    subst (λ (later : Position). Looks f (table_of h states) plan wanted (InPart part cursor) later (yield_of o (states part) purpose p (scope_from cursor) wanted)) (sym (same_next h states part (next_of o (states part) purpose p (scope_from cursor) wanted)))
    (visit_looks f purpose p (table_of h states) plan part wanted cursor same some state inside leads)
walk_looks f h purpose p states wanted (AtNamed n) None same some there more state inside leads = absurd (omega (arith, there))
walk_looks f h purpose p states wanted (AtNamed n) (Some ks) same some there more state inside leads =
    key_looks f purpose p (table_of h states) ks n wanted same some there
walk_looks f h purpose p states wanted Over plan same some there more state inside leads = absurd (more refl)
