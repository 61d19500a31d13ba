-- Code without routines is typed if its main body is: its budget is at most the number of its instructions.
use Rattle.std.specs.Prelude.{ℕ, zero, suc, ◌≡◌, ◌+◌, ◌<◌, ◌≤◌, IsSome, Option, Some, None, List, [], ◌∷◌, length, replicate, set, slice_get, slice_index}
use Rattle.std.proofs.Common.{arith, refl, sym, ap, subst, inl, inr, get_or}
use Rattle.std.proofs.lemmas.List.{length-replicate, get_or_past}
use Rattle.std.proofs.lemmas.Option.{slice_get-get_or}
use Rattle.budget.specs.Paths.{IsBodyBudget, IsForward, IsCallForward, weight, weight_of, counted, most_budget}
use Rattle.budget.specs.Pass.{AreLongest, onward_number}
use Rattle.budget.proofs.PathLemmas.{path_fits}
use Rattle.budget.proofs.PassLemmas.{longest_none, longest_more, longest_step, budget_first}
use Rattle.budget.proofs.BodyLemmas.{budget_agrees}
use Rattle.mcode.specs.Program.{Program, alone, body_of, routine_at}
use Rattle.mcode.specs.declared.instr.Instr.{Instr}
use Rattle.mcode.specs.declared.instr.Instr.TheVariants as instr
use Rattle.verifier_types.specs.Shape.{Shape}
use Rattle.verifier_types.specs.Inner.{inner_depth}
use Rattle.verifier_types.specs.Fit.{IsPlaced}
use Rattle.verifier.specs.Typing.{HasShapes, IsGreatest, IsOwnDepthAt, IsDepthAt, IsBodyDepth, IsTyped, IsPlain}
use Rattle.verifier.specs.Pass.{IsGreatestBelow}
use Rattle.verifier.proofs.PassLemmas.{own_more}
use Rattle.verifier.proofs.VerifiedLemmas.{own_all}
use Rattle.verifier.proofs.BodyLemmas.{typed_forward}

-- there is no routine
none_there : (p : Program) (r : ℕ) → p.around ≡ alone → IsSome (routine_at p r) → ⊥
none_there p zero plain some = absurd (cc)
none_there p (suc r) plain some =
    let none : slice_get p.around.routines r ≡ None = ap (λ a. slice_get a.routines r) plain in
    absurd (cc)

-- without routines no instruction takes places for one, nor counts more than itself
plain_inner : (p : Program) (ds : List ℕ) (i : Instr) (s : Shape) → p.around ≡ alone → IsPlaced p i → inner_depth p ds i s ≡ 0
plain_inner p ds (instr.Invoke r l) s plain placed = absurd (none_there p r plain placed.1)
plain_inner p ds i s plain placed = refl

plain_weight : (p : Program) (budgets : List ℕ) (i : Instr) → p.around ≡ alone → IsCallForward p i → weight budgets i ≡ 1
plain_weight p budgets (instr.Invoke r l) plain call = absurd (none_there p r plain call.1)
plain_weight p budgets i plain call = refl

plain_counted : (p : Program) (budgets : List ℕ) (path : List ℕ) → p.around ≡ alone → IsForward p → counted p budgets path ≤ length path
plain_counted p budgets [] plain forward = omega arith
plain_counted p budgets (a ∷ path) plain forward =
    let rest = plain_counted p budgets path plain forward in
    omega (arith, rest, by (slice_get p.instructions a) refl)
  where
    by : (o : Option Instr) → slice_get p.instructions a ≡ o → weight_of budgets o ≤ 1
    by None is = omega arith
    by (Some i) is = omega (arith, plain_weight p budgets i plain (forward.calls a i is))

-- the numbers of the pass from the last instruction to the first
longest_from : (p : Program) (budgets : List ℕ) (left a : ℕ) → IsForward p → a + left ≡ length p.instructions → (numbers : List ℕ) × AreLongest p budgets numbers a
longest_from p budgets zero a forward sum =
    let same : length p.instructions ≡ a = omega (arith, sum) in
    (replicate (length p.instructions) 0, subst (AreLongest p budgets (replicate (length p.instructions) 0)) same (longest_none {p = p} (length-replicate {A = ℕ} (length p.instructions) 0)))
longest_from p budgets (suc left) a forward sum =
    let later = longest_from p budgets left (a + 1) forward (omega (arith, sum)) in
    let inside : a < length p.instructions = omega (arith, sum) in
    let i = get_or p.instructions a instr.Load in
    let here = slice_get-get_or p.instructions a instr.Load inside in
    let n = weight budgets i + onward_number i a later.0 in
    (set later.0 a n, longest_more {p = p} {budgets = budgets} {numbers = later.0} a n inside later.1 (longest_step p budgets a i later.0 forward.jumps later.1 here))

plain_budget : (p : Program) (budgets : List ℕ) → p.around ≡ alone → IsForward p → (n : ℕ) × IsBodyBudget p budgets n × (n ≤ length p.instructions)
plain_budget p budgets plain forward =
    let all = longest_from p budgets (length p.instructions) 0 forward (omega arith) in
    let budget = budget_first {p = p} {budgets = budgets} {numbers = all.0} all.1 in (
      slice_index all.0 0,
      budget,
      elim budget.reached [
        | inl some ↦ omega (arith, some.2, plain_counted p budgets some.0 plain forward, path_fits forward.jumps some.1)
        | inr none ↦ omega (arith, none.1)
      ],
    )

-- the greatest depth before or after the instructions so far
deepest_below : (p : Program) (shapes : ℕ → Shape) (n : ℕ) → n ≤ length p.instructions → (m : ℕ) × IsGreatestBelow p (IsOwnDepthAt p shapes) n m
deepest_below p shapes zero within = (0, record { reached = λ some. absurd (omega (arith, some)); greatest = λ q i m below here found. absurd (omega (arith, below)) })
deepest_below p shapes (suc n) within =
    let before = deepest_below p shapes n (omega (arith, within)) in
    let i = get_or p.instructions n instr.Load in
    let here = slice_get-get_or p.instructions n instr.Load (omega (arith, within)) in
    (_, own_more p shapes n before.0 _ _ i before.1 here refl refl)

plain_shapes : (p : Program) (ds : List ℕ) (shapes : ℕ → Shape) → IsPlain p shapes → HasShapes p ds shapes
plain_shapes p ds shapes plain = record {
  frames = plain.frames;
  some = plain.some;
  each = λ pc i below here. record {
    begins = plain.begins pc i here;
    typed = plain.typed pc i here;
    inner = omega (arith, plain_inner p ds i (shapes pc) plain.around (plain.typed pc i here).placed);
  };
}

plain_depth : (p : Program) (ds : List ℕ) (shapes : ℕ → Shape) → IsPlain p shapes → (n : ℕ) → IsGreatest p (IsOwnDepthAt p shapes) n → IsGreatest p (IsDepthAt p ds shapes) n
plain_depth p ds shapes plain n own = record {
  reached = (own.reached.0, own.reached.1, own.reached.2, inl own.reached.3);
  greatest = λ pc i m here found. elim found [
    | inl h ↦ own.greatest pc i m here h
    | inr h ↦ omega (arith, h, plain_inner p ds i (shapes pc) plain.around (plain.typed pc i here).placed)
  ];
}

-- there is only the main body
one_body : (p : Program) (b : ℕ) → p.around ≡ alone → b ≤ length p.around.routines → b ≡ 0
one_body p b plain inside = omega (arith, inside, ap (λ a. length a.routines) plain)

pub plain_typed : (p : Program) (shapes : ℕ → Shape) → IsPlain p shapes → IsTyped p
plain_typed p shapes plain =
    let deep = deepest_below p shapes (length p.instructions) (omega arith) in
    let ds = deep.0 ∷ [] in
    let own = own_all p shapes deep.0 plain.some deep.1 in
    let forward = typed_forward p ds shapes (plain_shapes p ds shapes plain) in
    let budget = plain_budget p [] plain.around forward in
    let bs = budget.0 ∷ [] in
    let number : p.around.number ≡ 0 = ap (λ a. a.number) plain.around in
    let count : length p.around.routines ≡ 0 = ap (λ a. length a.routines) plain.around in
    record {
      depths = ds;
      budgets = bs;
      bodies = λ b inside.
          let main = sym (one_body p b plain.around inside) in
          subst (λ c. (shapes : ℕ → Shape) × HasShapes (body_of p c) ds shapes) main (shapes, plain_shapes p ds shapes plain);
      deep = record {
        count = omega (arith, count);
        each = λ b low inside.
            let main = sym (one_body p b plain.around inside) in
            subst (λ c. IsBodyDepth (body_of p c) ds (slice_index ds c)) main
            (record { shapes = shapes; typing = plain_shapes p ds shapes plain; most = plain_depth p ds shapes plain deep.0 own });
      };
      limits = record {
        count = omega (arith, count);
        each = λ b low inside.
            let main = sym (one_body p b plain.around inside) in
            subst (λ c. IsBodyBudget (body_of p c) bs (slice_index bs c)) main
            (budget_agrees p [] bs budget.0 (λ c behind. sym (get_or_past {X = ℕ} bs c 0 (omega (arith, behind, number)))) forward budget.1);
      };
      few = λ b. by b budget.0 (omega (arith, budget.2, plain.few));
    }
  where
    by : (b n : ℕ) → n ≤ most_budget → slice_index (n ∷ []) b ≤ most_budget
    by zero n low = low
    by (suc b) n low = omega (arith, get_or_past {X = ℕ} (n ∷ []) (suc b) 0 (omega arith))
