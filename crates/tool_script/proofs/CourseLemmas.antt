-- Courses that are taken.
use Rattle.std.proofs.Common.{refl}
use Rattle.std.specs.Prelude.{Result, Ok, Err, IfOk}
use Rattle.term_core.specs.Datum.{Datum}
use Rattle.tool_script.specs.Course.{Course, Comes, Takes, course_in}
use Rattle.tool_script.specs.Course.Course.{Settled, Judging}

-- a course that is taken gives its reply and a state after it
pub told : {X : Type 0} (c : Course X) (reply : Datum) (P : X → Type 0) → Takes c reply P → (after : X) × Comes c reply after × P after
told (Settled s) reply P taken = (s.1, (taken.0, refl), taken.1)
told (Judging o d go) reply P (v, is, replied, holds) = ((go v).1, (v, is, (replied, refl)), holds)

pub takes_weaker : {X : Type 0} (c : Course X) (reply : Datum) (P Q : X → Type 0) → ((x : X) → P x → Q x) → Takes c reply P → Takes c reply Q
takes_weaker (Settled s) reply P Q each taken = (taken.0, each s.1 taken.1)
takes_weaker (Judging o d go) reply P Q each (v, is, replied, holds) = (v, is, replied, each (go v).1 holds)

pub takes_in : {X Y : Type 0} (whole : X → Y) (c : Course X) (reply : Datum) (P : X → Type 0) (Q : Y → Type 0) → ((x : X) → P x → Q (whole x)) → Takes c reply P → Takes (course_in whole c) reply Q
takes_in whole (Settled s) reply P Q each taken = (taken.0, each s.1 taken.1)
takes_in whole (Judging o d go) reply P Q each (v, is, replied, holds) = (v, is, replied, each (go v).1 holds)

-- two clauses about the same result
pub ok_both : {T E : Type 0} (r : Result T E) (P Q : T → Type 0) → IfOk r P → IfOk r Q → IfOk r (λ x. P x × Q x)
ok_both (Ok x) P Q p q = (p, q)
ok_both (Err e) P Q p q = tt
