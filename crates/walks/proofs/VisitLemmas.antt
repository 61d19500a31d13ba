-- The answers of visits.
use Rattle.std.proofs.Common.{◌≡◌, ℕ, ◌-◌, refl, ap, sym, subst, ◌∙◌, IsTrue, Option, Some, List, [], ◌++◌, length}
use Rattle.std.specs.Prelude.{Bool, true, false, ◌||◌}
use Rattle.std.proofs.lemmas.List.{append-nil}
use Rattle.term_core.specs.Datum.{Datum}
use Rattle.mcode.specs.Program.{Program}
use Rattle.part_core.specs.declared.settings.Settings.{Settings}
use Rattle.part_core.specs.Acts.{Answer, Cursor, Purpose, Scope, Said, is_refused}
use Rattle.part_core.specs.Acts.Act.{Visit}
use Rattle.part_core.specs.Acts.Answer.{Replied}
use Rattle.part_core.specs.Acts.Purpose.{Answers}
use Rattle.part_core.specs.Acts.Said.{Found, Counted}
use Rattle.part_core.specs.Replies.{most_counted, reply_of, said_by_visit}
use Rattle.part_core.specs.Rows.{PartState}
use Rattle.part_core.specs.Visits.{is_inside}
use Rattle.part_core.proofs.KeyLemmas.{by_test}
use Rattle.tables.specs.Options.{settings_of}
use Rattle.tables.specs.Turns.{Home, Views, Turned, Follows}
use Rattle.tables.proofs.TurnLemmas.{answered_so}
use Rattle.walk_core.specs.Goes.{way, whole, Visits}
use Rattle.walk_core.specs.Walk.{Walk, Position, next_position, part_at, scope_at}
use Rattle.walk_core.proofs.TurnLemmas.{turn_visits}
use Rattle.walk_query.specs.declared.query.Query.{Query}
use Rattle.walks.specs.Query.{walk_of}
use Rattle.walk_core.specs.Counting.{purpose_of}
use Rattle.walks.specs.Counting.{IsCount, CountsMore}
use Rattle.walks.specs.Visits.{is_found, is_counted}
use Rattle.walk_core.specs.declared.counting.Counting.{Counting}
use Rattle.walk_core.specs.declared.counting.Counting.TheVariants as counting

or_none : (b : Bool) → (b || false) ≡ true → b ≡ true
or_none true h = refl
or_none false h = h

found_or_refused : (o : Settings) (s : PartState) (n : ℕ) (p : Program) (scope : Scope) (wanted : ℕ) → (is_found (reply_of o s n (Visit Answers p scope wanted)) || is_refused (reply_of o s n (Visit Answers p scope wanted))) ≡ true
unfolding reply_of
found_or_refused o s n p scope wanted =
    by_test (is_inside o s scope) _ (λ inside. rw inside refl) (λ outside. rw outside refl)

-- a visit that was not refused returns what it found
pub visit_found : (h : Home) (part : ℕ) (p : Program) (scope : Scope) (wanted : ℕ) (said : Said) (before now : Views → Type 0) → ∥ ((v : Views) × before v) ∥₁ → Follows before now (Turned h part (Visit Answers p scope wanted) (Some (Replied said))) → IsTrue (is_found (Replied said))
visit_found h part p scope wanted said before now seen follows =
    or_none (is_found (Replied said)) (answered_so (λ a. is_found a || is_refused a) h part (Visit Answers p scope wanted) (Replied said) before now seen follows (λ s. found_or_refused (settings_of h.options) s h.number p scope wanted))

counted_or_refused : (o : Settings) (s : PartState) (n : ℕ) (c : Counting) (p : Program) (scope : Scope) (wanted : ℕ) → (is_counted (reply_of o s n (Visit (purpose_of c) p scope wanted)) || is_refused (reply_of o s n (Visit (purpose_of c) p scope wanted))) ≡ true
unfolding reply_of
counted_or_refused o s n counting.Count p scope wanted =
    by_test (is_inside o s scope) _ (λ inside. rw inside refl) (λ outside. rw outside refl)
counted_or_refused o s n counting.Delete p scope wanted =
    by_test (is_inside o s scope) _ (λ inside. rw inside refl) (λ outside. rw outside refl)

-- a visit that counts and was not refused returns the number
pub visit_counted : (h : Home) (part : ℕ) (c : Counting) (p : Program) (scope : Scope) (wanted : ℕ) (said : Said) (before now : Views → Type 0) → ∥ ((v : Views) × before v) ∥₁ → Follows before now (Turned h part (Visit (purpose_of c) p scope wanted) (Some (Replied said))) → IsTrue (is_counted (Replied said))
visit_counted h part c p scope wanted said before now seen follows =
    or_none (is_counted (Replied said)) (answered_so (λ a. is_counted a || is_refused a) h part (Visit (purpose_of c) p scope wanted) (Replied said) before now seen follows (λ s. counted_or_refused (settings_of h.options) s h.number c p scope wanted))

said_count : (c : Counting) (found : List Datum) (count : ℕ) (next : Option Cursor) → Counted count next ≡ said_by_visit (purpose_of c) found next → IsCount count found
said_count counting.Count found count next is = cc
said_count counting.Delete found count next is = cc

-- a turn at the walk's position, written with the walk's own part and scope
pub turned_there : (h : Home) (w : Walk) (at : Position) (part : ℕ) (purpose : Purpose) (p : Program) (scope : Scope) (wanted : ℕ) (answer : Option Answer) (before now : Views → Type 0) → part ≡ part_at w at → scope ≡ scope_at w at → Follows before now (Turned h part (Visit purpose p scope wanted) answer) → Follows before now (Turned h (part_at w at) (Visit purpose p (scope_at w at) wanted) answer)
turned_there h w at part purpose p scope wanted answer before now part_is scope_is follows =
    subst (λ (n : ℕ). Follows before now (Turned h n (Visit purpose p (scope_at w at) wanted) answer)) part_is
    (subst (λ (x : Scope). Follows before now (Turned h part (Visit purpose p x wanted) answer)) scope_is follows)

-- a turn at the walk's position is a visit of the walk, which gains what was counted
pub visit_more : {A : Type 0} (h : Home) (q : Query A) (c : Counting) (part count : ℕ) (scope : Scope) (next : Option Cursor) (at later : Position) (before now : Views → Type 0) → part ≡ part_at (walk_of h (purpose_of c) q) at → scope ≡ scope_at (walk_of h (purpose_of c) q) at → later ≡ next_position (walk_of h (purpose_of c) q) at next → Follows before now (Turned h part (Visit (purpose_of c) q.code scope most_counted) (Some (Replied (Counted count next)))) → Follows before now (CountsMore h (walk_of h (purpose_of c) q) at later count)
visit_more h q c part count scope next at later before now part_is scope_is later_is follows =
    let w = walk_of h (purpose_of c) q in
    let turned = turned_there h w at part (purpose_of c) q.code scope most_counted (Some (Replied (Counted count next))) before now part_is scope_is follows in
    subst (λ (p : Position). Follows before now (CountsMore h w at p count)) (sym later_is)
    (λ v b. let f = turned v b in (
      f.0,
      f.1,
      λ gained.
          let made = turn_visits h w whole at gained v f.0 (Counted count next) (record { options = refl; number = refl }) f.2 in
          (made.0, made.1, said_count c made.0 count next made.2),
    ))

found_same : (xs ys : List Datum) (next : Option Cursor) → Found xs next ≡ Found ys next → xs ≡ ys
found_same xs ys next e = cc

-- a turn at the walk's position is a visit of the walk, which gains what was found
visit_made : {A : Type 0} (h : Home) (q : Query A) (by_count : ℕ → ℕ) (wanted : ℕ) (at : Position) (next : Option Cursor) (gained found : List Datum) (before now : Views → Type 0) → wanted ≡ by_count (length gained) → Follows before now (Turned h (part_at (walk_of h Answers q) at) (Visit Answers q.code (scope_at (walk_of h Answers q) at) wanted) (Some (Replied (Found found next)))) → Follows before now (λ v w. Visits h (walk_of h Answers q) by_count (way v at gained) (way w (next_position (walk_of h Answers q) at next) (gained ++ found)))
visit_made h q by_count wanted at next gained found before now is follows v b =
    let w = walk_of h Answers q in
    let f = follows v b in
    let made = turn_visits h w by_count at gained v f.0 (Found found next) (record { options = refl; number = refl }) (subst (λ (n : ℕ). Turned h (part_at w at) (Visit Answers q.code (scope_at w at) n) (Some (Replied (Found found next))) v f.0) is f.2) in (
      f.0,
      f.1,
      subst (λ (ys : List Datum). Visits h w by_count (way v at gained) (way f.0 (next_position w at next) (gained ++ ys))) (sym (found_same found made.0 next made.2)) made.1,
    )

pub visit_kept : {A : Type 0} (h : Home) (q : Query A) (by_count : ℕ → ℕ) (part wanted : ℕ) (scope : Scope) (next : Option Cursor) (gained found more : List Datum) (at later : Position) (before now : Views → Type 0) → part ≡ part_at (walk_of h Answers q) at → scope ≡ scope_at (walk_of h Answers q) at → later ≡ next_position (walk_of h Answers q) at next → more ≡ gained ++ found → wanted ≡ by_count (length gained) → Follows before now (Turned h part (Visit Answers q.code scope wanted) (Some (Replied (Found found next)))) → Follows before now (λ v w. Visits h (walk_of h Answers q) by_count (way v at gained) (way w later more))
visit_kept h q by_count part wanted scope next gained found more at later before now part_is scope_is later_is more_is is follows =
    let w = walk_of h Answers q in
    let turned = turned_there h w at part Answers q.code scope wanted (Some (Replied (Found found next))) before now part_is scope_is follows in
    subst (λ (p : Position). Follows before now (λ v u. Visits h w by_count (way v at gained) (way u p more))) (sym later_is)
    (subst (λ (ys : List Datum). Follows before now (λ v u. Visits h w by_count (way v at gained) (way u (next_position w at next) ys))) (sym more_is)
    (visit_made h q by_count wanted at next gained found before now is turned))

-- what is missing to a limit, given the answers that are kept
pub rest_wanted : (limit n : ℕ) (earlier last : List Datum) → n ≡ length earlier → last ≡ [] → limit - n ≡ limit - length (earlier ++ last)
rest_wanted limit n earlier last is none =
    ap (λ (m : ℕ). limit - m) (is ∙ ap length (sym (ap (λ (ys : List Datum). earlier ++ ys) none ∙ append-nil earlier)))
