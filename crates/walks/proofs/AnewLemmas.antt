-- What a visit of a walk that deletes looks at when objects are deleted already, and which keys are done after it.
use Rattle.std.proofs.Common.{◌≡◌, ◌≢◌, ◌<◌, ◌+◌, ◌∙◌, ℕ, Option, Some, None, List, [], ◌∷◌, refl, sym, ap, arith, get_or}
use Rattle.std.proofs.Math.Path.{fun_ext}
use Rattle.std.specs.Prelude.{IsTrue, Bool, true, false, ◌&&◌, ◌||◌, ◌==◌, if◌then◌else◌, nat_lt}
use Rattle.std.proofs.lemmas.Bool.{le-ltb}
use Rattle.term_core.specs.Datum.{Datum}
use Rattle.term_core.specs.Datum.Datum.{nil}
use Rattle.mcode.specs.Program.{Program}
use Rattle.part_core.specs.declared.settings.Settings.{Settings}
use Rattle.part_core.specs.Acts.{Cursor, History}
use Rattle.part_core.specs.Acts.Purpose.{Deletes}
use Rattle.part_core.specs.Covers.{covers}
use Rattle.part_core.specs.Laws.{LeadsTo}
use Rattle.part_core.specs.Legal.{state_after}
use Rattle.part_core.specs.Rows.{PartState}
use Rattle.part_core.specs.Settings.{part_of}
use Rattle.part_core.specs.States.{IsState}
use Rattle.part_core.specs.Visits.{is_inside}
use Rattle.tables.specs.Options.{settings_of}
use Rattle.tables.specs.Turns.{Home}
use Rattle.walk_core.specs.Walk.{IsPlan, Position, at_key, at_part, is_passed, named_count, next_position, part_at, scope_at, scope_from}
use Rattle.walk_core.specs.Walk.Position.{InPart, AtNamed, Over}
use Rattle.part_core.proofs.KeyLemmas.{by_test}
use Rattle.walk_core.specs.Positions.{IsThere}
use Rattle.walks.specs.Sights.{first_position}
use Rattle.walks.proofs.CutLemmas.{cut_state}
use Rattle.walks.proofs.DoneLemmas.{SameVisit, done_at, done_elsewhere, done_in, done_more, left_more, same_named, same_visit}
use Rattle.walks.proofs.NamedDone.{named_anew, named_elsewhere, named_more}
use Rattle.walks.proofs.PlainLemmas.{plain}

-- a position that a walk can reach from its beginning: it goes through parts only if no keys are named
abbrev pub IsOnWay : Option (List Datum) → Position → Type 0
IsOnWay plan (InPart part cursor) = plan ≡ None
IsOnWay plan (AtNamed n) = Unit {0}
IsOnWay plan Over = Unit {0}

pub first_on_way : (plan : Option (List Datum)) → IsOnWay plan (first_position plan)
first_on_way None = refl
first_on_way (Some []) = tt
first_on_way (Some (k ∷ ks)) = tt

pub next_on_way : (h : Home) (p : Program) (plan : Option (List Datum)) (at : Position) (next : Option Cursor) → IsOnWay plan at → IsOnWay plan (next_position (plain h Deletes p plan) at next)
next_on_way h p plan (InPart part cursor) (Some c) way = way
next_on_way h p plan (InPart part cursor) None way =
    let parts : ℕ = h.options.parts in
    by_test (nat_lt (part + 1) parts) (IsOnWay plan (at_part (part + 1) parts)) (λ further. rw further way) (λ last. rw last tt)
next_on_way h p plan (AtNamed n) next way =
    let count : ℕ = named_count plan in
    by_test (nat_lt (n + 1) count) (IsOnWay plan (at_key (n + 1) count)) (λ further. rw further tt) (λ last. rw last tt)
next_on_way h p plan Over next way = tt

unnamed : (k : List Datum) → Some k ≡ None → ⊥
unnamed k e = cc

-- at the beginning of a walk no key is done
pub none_done : (o : Settings) (plan : Option (List Datum)) (k : ℕ) → done_in o plan (first_position plan) k ≡ (λ j. false)
none_done o None k = of (nat_lt k 0) (k == 0) (le-ltb k 0 (omega arith))
  where
    of : (a b : Bool) → a ≡ false → (if a then (λ (j : Datum). true) else if b then is_passed o None else (λ (j : Datum). false)) ≡ (λ (j : Datum). false)
    of false true h = refl
    of false false h = refl
    of true b h = cc
none_done o (Some []) k = fun_ext (λ (j : Datum). of (part_of o j == k))
  where
    of : (b : Bool) → (b && false) ≡ false
    of true = refl
    of false = refl
none_done o (Some (i ∷ ks)) k = fun_ext (λ (j : Datum). of (part_of o j == k))
  where
    of : (b : Bool) → (b && false) ≡ false
    of true = refl
    of false = refl

-- a visit looks at keys that aren't done, and so finds what it would find if nothing were deleted
pub same_at : (h : Home) (p : Program) (states : ℕ → PartState) (x : PartState) (wanted : ℕ) (at : Position) (plan : Option (List Datum)) → IsPlan plan → IsThere h.options.parts (named_count plan) at → at ≢ Over
    → IsState (settings_of h.options) (states (part_at (plain h Deletes p plan) at))
    → x ≡ cut_state (settings_of h.options) p (done_in (settings_of h.options) plan at (part_at (plain h Deletes p plan) at)) (states (part_at (plain h Deletes p plan) at))
    → SameVisit (settings_of h.options) p (states (part_at (plain h Deletes p plan) at)) x (scope_at (plain h Deletes p plan) at) wanted
same_at h p states x wanted (InPart part cursor) plan distinct there more state is =
    same_visit (settings_of h.options) p (states part) x cursor wanted state
    (is ∙ ap (λ (d : Datum → Bool). cut_state (settings_of h.options) p d (states part)) (done_at (settings_of h.options) plan part cursor))
same_at h p states x wanted (AtNamed n) None distinct there more state is = absurd (omega (arith, there))
same_at h p states x wanted (AtNamed n) (Some ks) distinct there more state is =
    let o = settings_of h.options in
    let part : ℕ = part_of o (get_or ks n nil) in
    same_named o p (states part) x (get_or ks n nil) (done_in o (Some ks) (AtNamed n) part) wanted state is (named_anew o ks n part distinct there)
same_at h p states x wanted Over plan distinct there more state is = absurd (more refl)

-- the keys of its part that a visit covers are done after it
pub more_at : (h : Home) (p : Program) (base : ℕ) (old : History) (next : Option Cursor) (at : Position) (plan : Option (List Datum)) → IsOnWay plan at → IsThere h.options.parts (named_count plan) at → at ≢ Over
    → IsTrue (is_inside (settings_of h.options) (state_after (settings_of h.options) old) (scope_at (plain h Deletes p plan) at))
    → LeadsTo (settings_of h.options) base (scope_at (plain h Deletes p plan) at) next
    → done_in (settings_of h.options) plan (next_position (plain h Deletes p plan) at next) (part_at (plain h Deletes p plan) at)
    ≡ (λ j. done_in (settings_of h.options) plan at (part_at (plain h Deletes p plan) at) j || covers (settings_of h.options) (scope_at (plain h Deletes p plan) at) next j)
more_at h p base old next (InPart part cursor) None way there more inside leads =
    let o = settings_of h.options in
    done_more o h.options.parts part cursor next (λ j. left_more h.options p base cursor next old j inside leads)
    ∙ ap {B = Datum → Bool} (λ (d : Datum → Bool) (j : Datum). d j || covers o (scope_from cursor) next j) (sym (done_at o None part cursor))
more_at h p base old next (InPart part cursor) (Some ks) way there more inside leads = absurd (unnamed ks way)
more_at h p base old next (AtNamed n) None way there more inside leads = absurd (omega (arith, there))
more_at h p base old next (AtNamed n) (Some ks) way there more inside leads = named_more (settings_of h.options) ks n there
more_at h p base old next Over plan way there more inside leads = absurd (more refl)

-- at the other parts, the same keys are done after a visit as before
pub elsewhere_at : (h : Home) (p : Program) (k : ℕ) (next : Option Cursor) (at : Position) (plan : Option (List Datum)) → IsOnWay plan at → IsThere h.options.parts (named_count plan) at → at ≢ Over → k < h.options.parts
    → k ≢ part_at (plain h Deletes p plan) at
    → done_in (settings_of h.options) plan (next_position (plain h Deletes p plan) at next) k ≡ done_in (settings_of h.options) plan at k
elsewhere_at h p k next (InPart part cursor) None way there more inside other = done_elsewhere (settings_of h.options) h.options.parts part k cursor next inside other
elsewhere_at h p k next (InPart part cursor) (Some ks) way there more inside other = absurd (unnamed ks way)
elsewhere_at h p k next (AtNamed n) None way there more inside other = absurd (omega (arith, there))
elsewhere_at h p k next (AtNamed n) (Some ks) way there more inside other = named_elsewhere (settings_of h.options) ks n k there other
elsewhere_at h p k next Over plan way there more inside other = absurd (more refl)
