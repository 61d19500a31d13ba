-- The keys that a query keeps, as a walk visits them.
use Rattle.std.proofs.Common.{◌≡◌, ◌≢◌, ℕ, ◌==◌, Bool, true, false, if◌then◌else◌, Option, Some, None, List, refl, sym, ap, subst, ◌∙◌, option_map, IfSome}
use Rattle.std.specs.List.{IsDistinct}
use Rattle.std.proofs.lemmas.Bool.{eqb-true, eqb-false}
use Rattle.std.proofs.lemmas.Cmp.{eq_by_cmp_equiv}
use Rattle.std.proofs.lemmas.List.Sorted.{list_any-IsPermutation}
use Rattle.std.proofs.lemmas.Map.Keys.{IsDistinct-IsPermutation}
use Rattle.std.proofs.lemmas.Option.{none-some, same_Some}
use Rattle.term_core.specs.Datum.{Datum}
use Rattle.term_core.specs.OrderLaws.{datum_cmp_total}
use Rattle.term_operand.specs.Order.{is_same}
use Rattle.mcode.specs.Machine.{field_of}
use Rattle.mcode.specs.Program.{Program}
use Rattle.mspec_syntax.specs.Specification.{Specification}
use Rattle.walk_query.specs.Named.{named_by}
use Rattle.walk_query.specs.Plan.{Plan, IsPlanned, IsSilent, AreVisited, IsPlanFor, IsPlanOf, AreInOrder, keys_at, plan_at}
use Rattle.walk_query.proofs.OrderLemmas.{rising_alike}

same_flips : (j k : Datum) → is_same j k ≡ is_same k j
same_flips j k = (eq_by_cmp_equiv datum_cmp_total).symm j k

-- ---- code has no answer for objects that a walk skips

rising_differ : (p : Plan) → IsPlanned p → IsDistinct is_same p.rising
rising_differ p planned = IsDistinct-IsPermutation is_same same_flips p.keys p.rising planned.moved planned.distinct

visited : (code : Program) (p : Plan) (keypos : ℕ) (ordered : Bool) → IsPlanned p → IsSilent code p → p.keypos ≡ keypos → AreVisited code keypos (Some (if ordered then p.rising else p.keys))
visited code p keypos true planned silent at = (
  rising_differ p planned,
  λ o k here unnamed. silent o k (subst (λ (n : ℕ). field_of n o ≡ Some k) (sym at) here) (list_any-IsPermutation (is_same k) p.keys p.rising planned.moved ∙ unnamed),
)
visited code p keypos false planned silent at =
    (planned.distinct, λ o k here unnamed. silent o k (subst (λ (n : ℕ). field_of n o ≡ Some k) (sym at) here) unnamed)

visited_at : (code : Program) (p : Plan) (keypos : ℕ) (ordered : Bool) → IsPlanned p → IsSilent code p → (b : Bool) → (p.keypos == keypos) ≡ b → AreVisited code keypos (if b then Some (if ordered then p.rising else p.keys) else None)
visited_at code p keypos ordered planned silent true at = visited code p keypos ordered planned silent (eqb-true p.keypos keypos at)
visited_at code p keypos ordered planned silent false at = tt

pub plan_kept : (code : Program) (named : Option Plan) → IfSome named IsPlanned → IfSome named (IsSilent code) → IsPlanFor code named
plan_kept code None planned silent keypos ordered = tt
plan_kept code (Some p) planned silent keypos ordered =
    visited_at code p keypos ordered planned silent (p.keypos == keypos) refl

-- ---- the plan of a specification

in_order : (p : Plan) (ordered : Bool) → IsPlanned p → AreInOrder ordered p.keys (if ordered then p.rising else p.keys)
in_order p true planned = (planned.moved, planned.sorted)
in_order p false planned = refl

here_by : (p : Plan) (keypos : ℕ) (ordered : Bool) → p.keypos ≡ keypos → keys_at p keypos ordered ≡ Some (if ordered then p.rising else p.keys)
here_by p keypos ordered at = of (p.keypos == keypos) refl
  where
    of : (b : Bool) → (p.keypos == keypos) ≡ b → (if b then Some (if ordered then p.rising else p.keys) else None) ≡ Some (if ordered then p.rising else p.keys)
    of true is = refl
    of false is = absurd (eqb-false p.keypos keypos is at)

pub planned_here : (keypos : ℕ) (spec : Specification) (named : Option Plan) (ordered : Bool) → IfSome named IsPlanned → option_map (λ p. p.keys) named ≡ named_by keypos spec → IfSome named (λ p. p.keypos ≡ keypos) → IsPlanOf keypos ordered spec (plan_at named keypos ordered)
planned_here keypos spec None ordered planned is at = sym is
planned_here keypos spec (Some p) ordered planned is at =
    subst (IsPlanOf keypos ordered spec) (sym (here_by p keypos ordered at)) (p.keys, sym is, in_order p ordered planned)

pub unplanned_elsewhere : (keypos : ℕ) (named : Option Plan) (other : ℕ) (ordered : Bool) → IfSome named (λ p. p.keypos ≡ keypos) → other ≢ keypos → plan_at named other ordered ≡ None
unplanned_elsewhere keypos None other ordered at apart = refl
unplanned_elsewhere keypos (Some p) other ordered at apart = of (p.keypos == other) refl
  where
    of : (b : Bool) → (p.keypos == other) ≡ b → (if b then Some (if ordered then p.rising else p.keys) else None) ≡ None
    of true is = absurd (apart (sym (eqb-true p.keypos other is) ∙ at))
    of false is = refl

-- ---- one plan

order_once : (ordered : Bool) (named js ks : List Datum) → AreInOrder ordered named js → AreInOrder ordered named ks → js ≡ ks
order_once true named js ks first second = rising_alike named js ks first.0 first.1 second.0 second.1
order_once false named js ks first second = first ∙ sym second

pub one_plan : (keypos : ℕ) (ordered : Bool) (spec : Specification) (a b : Option (List Datum)) → IsPlanOf keypos ordered spec a → IsPlanOf keypos ordered spec b → a ≡ b
one_plan keypos ordered spec None None first second = refl
one_plan keypos ordered spec None (Some ks) first second = absurd (none-some second.0 (sym first ∙ second.1))
one_plan keypos ordered spec (Some js) None first second = absurd (none-some first.0 (sym second ∙ first.1))
one_plan keypos ordered spec (Some js) (Some ks) first second =
    let same : first.0 ≡ second.0 = same_Some first.0 second.0 (sym first.1 ∙ second.1) in
    ap Some (order_once ordered second.0 js ks (subst (λ (named : List Datum). AreInOrder ordered named js) same first.2) second.2)
