-- How a command is replied to: at once, or after a term has been judged as a specification.
use Rattle.std.specs.Prelude.{◌≡◌}
use Rattle.term_core.specs.Datum.{Datum}
use Rattle.tables.specs.declared.options.Options.{Options}
use Rattle.tool_script.specs.Verdict.{Verdict, IsVerdict}

-- a reply, and the state after it
abbrev pub Step : Type 0 → Type 0
Step X = Datum × X

-- how a command is replied to: at once; or by the verdict on a term, as a specification for a table with these options
pub data Course (X : Type 0) : Type 0 where
  Settled : Step X → Course X
  Judging : Options → Datum → (Verdict → Step X) → Course X

-- a step gives this reply and this state after it
abbrev pub Gives : {X : Type 0} → Step X → Datum → X → Type 0
Gives s reply after = (reply ≡ s.0) × (after ≡ s.1)

-- a course gives this reply and this state after it, for some verdict where a term is judged
abbrev pub Comes : {X : Type 0} → Course X → Datum → X → Type 0
Comes (Settled s) reply after = Gives s reply after
Comes (Judging o d go) reply after =
    (verdict : Verdict) × IsVerdict o d verdict × Gives (go verdict) reply after

-- a course is taken: it gives this reply, and `P` is true of the state after it
abbrev pub Takes : {X : Type 0} → Course X → Datum → (X → Type 0) → Type 0
Takes (Settled s) reply P = (reply ≡ s.0) × P s.1
Takes (Judging o d go) reply P =
    (verdict : Verdict) × IsVerdict o d verdict × (reply ≡ (go verdict).0) × P (go verdict).1

-- a course of a part of the state as a course of the whole state
abbrev pub course_in : {X Y : Type 0} → (X → Y) → Course X → Course Y
course_in whole (Settled s) = Settled (s.0, whole s.1)
course_in whole (Judging o d go) =
    Judging o d (λ verdict. ((go verdict).0, whole (go verdict).1))
