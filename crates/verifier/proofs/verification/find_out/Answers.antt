use Rattle.std.proofs.Common.{arith, ap, length, ◌<◌, ◌≡◌, ◌==◌, ◌∙◌, Bool, false, List, [], ◌∷◌, inr}
use Rattle.verifier.specs.Pass.{shape_at}
use Rattle.verifier.proofs.BodyLemmas.{typed_forward}
use Rattle.verifier.proofs.VerifiedLemmas.{walked_shapes, found_all, over_limit}
use Rattle.verifier.proofs.verification.find_out.Goals as goal

-- a list that is not empty has a positive length
not_empty : {X : Type 0} (xs : List X) (b : Bool) → b ≡ (length xs == 0) → b ≡ false → 0 < length xs
not_empty [] b is false_one = absurd (cc)
not_empty (x ∷ xs) b is false_one = omega arith

pub budget_of-requires : goal.budget_of-requires
budget_of-requires g c =
    let p = c.args.body.now in
    let walk = c.in_ok-walk.walk in
    let some : 0 < length p.instructions = not_empty p.instructions _ (c.is_empty.ensures ∙ ap (λ is. length is == 0) c.instructions.ensures.value) c.if-is_empty.false in
    typed_forward p c.args.depths.now (shape_at p) (walked_shapes p c.args.depths.now walk.falls walk.shape walk.depths.items walk.own walk.inner c.in_ok-check_frames.ensures.fit some c.in_ok-walk.ensures.typed)

pub returns-in_default-clause-fault : goal.returns-in_default-clause-fault
returns-in_default-clause-fault g c =
    let p = c.args.body.now in
    let walk = c.in_ok-walk.walk in
    let some : 0 < length p.instructions = not_empty p.instructions _ (c.is_empty.ensures ∙ ap (λ is. length is == 0) c.instructions.ensures.value) c.if-is_empty.false in
    let typing = walked_shapes p c.args.depths.now walk.falls walk.shape walk.depths.items walk.own walk.inner c.in_ok-check_frames.ensures.fit some c.in_ok-walk.ensures.typed in
    inr (inr (over_limit p c.args.depths.now c.args.budgets.now (shape_at p) c.in_ok-budget.field-0 typing c.in_ok-budget.ensures c.in_default.not-Some))

pub returns-clause-typed : goal.returns-clause-typed
returns-clause-typed g c =
    let p = c.args.body.now in
    let walk = c.in_ok-walk.walk in
    let some : 0 < length p.instructions = not_empty p.instructions _ (c.is_empty.ensures ∙ ap (λ is. length is == 0) c.instructions.ensures.value) c.if-is_empty.false in
    let limit = rw c.in-Some.is at c.in_ok-budget.ensures in
    found_all p c.args.depths.now c.args.budgets.now walk.falls walk.shape walk.depths.items walk.own walk.inner c.max.result c.in-Some.budget c.new.result c.instructions.ensures.within c.in_ok-check_frames.ensures.fit some c.in_ok-walk.ensures.typed c.max.ensures c.new.ensures limit.0 limit.1
