-- What the pass over all instructions says about a body, and what the pass over all bodies says about the code.
use Rattle.std.specs.Prelude.{ℕ, zero, suc, ◌≡◌, ◌≢◌, ◌+◌, ◌<◌, ◌≤◌, ◌++◌, ◌⊎◌, max, Bool, Option, Some, None, List, [], ◌∷◌, length, set, take, replicate, slice_get, slice_index, All}
use Rattle.std.specs.Option.{MatchOption}
use Rattle.std.proofs.Common.{arith, refl, sym, ap, subst, ◌∙◌, inl, inr, get_or}
use Rattle.std.proofs.lemmas.Bool.{cases_lt}
use Rattle.std.proofs.lemmas.List.{take_more, take_all, length-append, length-set, length-replicate, get_or_past, get_or-replicate, get_or-set_same, get_or-set_other}
use Rattle.std.proofs.lemmas.List.Elements.{All-append}
use Rattle.std.proofs.lemmas.Option.{get_or_from_slice_get, slice_get-get_or, slice_get_within}
use Rattle.budget.specs.Paths.{IsForward, IsBodyBudget, most_budget}
use Rattle.budget.proofs.BodyLemmas.{AgreeBehind, ForwardFrom, budgets_none, budgets_more, few_more}
use Rattle.mcode.specs.Program.{Program, Frame, IsProgram, body_of}
use Rattle.mcode.proofs.BodyLemmas.{least_number_of_body}
use Rattle.mcode.specs.declared.instr.Instr.{Instr}
use Rattle.mcode.specs.declared.instr.Instr.TheVariants as instr
use Rattle.verifier_types.specs.Shape.{Shape}
use Rattle.verifier_types.specs.Fit.{IsFrameFit}
use Rattle.verifier.specs.Typing.{HasShapes, IsGreatest, IsOwnDepthAt, IsDepthAt, AreBodyDepths}
use Rattle.verifier.specs.Pass.{shape_at, IsGreatestBelow, IsInnerAt, IsWalked}
use Rattle.verifier.specs.Verified.{Table, IsTable, AreTables, IsFound, IsStart, IsKnown}
use Rattle.verifier.specs.Faults.{IsFirstUnfit, IsBodyOver}
use Rattle.verifier_types.specs.declared.fault.Fault.TheVariants as fault
use Rattle.verifier_types.proofs.FrameLemmas.{frame_found}
use Rattle.verifier.proofs.PassLemmas.{slice_get-front, slice_get-last}
use Rattle.verifier.proofs.BodyLemmas.{shapes_move, body_depth_moves, typed_forward}

-- a property of all elements so far, and of one more
pub all_take_more : {X : Type 0} (P : X → Type 0) (xs : List X) (i : ℕ) (x : X) → i < length xs → x ≡ get_or xs i x → All P (take i xs) → P x → All P (take (i + 1) xs)
all_take_more P xs i x inside is before one =
    rw (take_more xs i x inside) (rw (← is) (All-append P (take i xs) (x ∷ []) before (all_one P x one)))
  where
    all_one : {X : Type 0} (P : X → Type 0) (x : X) → P x → All P (x ∷ [])
    all_one P x one zero d within = one
    all_one P x one (suc k) d within = absurd (omega (arith, within))

-- a property of the first n elements, if these are all
pub all_take_whole : {X : Type 0} (P : X → Type 0) (xs : List X) (n : ℕ) → length xs ≤ n → All P (take n xs) → All P xs
all_take_whole P xs n long each = subst (λ ys. All P ys) (take_all n xs long) each

-- the first frame that is not fit
pub first_unfit : (p : Program) (fs : List Frame) (i : ℕ) (f : Frame) → fs ≡ p.frames → i < length fs → f ≡ get_or fs i f → All (IsFrameFit p) (take i fs) → ¬ IsFrameFit p f → IsFirstUnfit p (fault.Frame f.pc)
first_unfit p fs i f same inside is before unfit = record {
  place = i;
  frame = f;
  here = ap (λ gs. slice_get gs i) (sym same) ∙ slice_get-get_or fs i f inside ∙ ap Some (sym is);
  before = subst (λ gs. All (IsFrameFit p) (take i gs)) same before;
  unfit = unfit;
  is = refl;
}

-- ---- one body

-- the states that the pass computes are those of all instructions
pub walked_shapes : (p : Program) (ds : List ℕ) (falls : Bool) (shape : Shape) (depths : List ℕ) (own inner : ℕ) → All (IsFrameFit p) p.frames → 0 < length p.instructions → IsWalked p ds (length p.instructions) falls shape depths own inner → HasShapes p ds (shape_at p)
walked_shapes p ds falls shape depths own inner frames some walked = record { frames = frames; some = some; each = walked.typed }

-- the greatest of all, if something is found at the first instruction
greatest_all : (p : Program) (At : ℕ → Instr → ℕ → Type 0) (n : ℕ) → 0 < length p.instructions → ((i : Instr) → (m : ℕ) × At 0 i m) → IsGreatestBelow p At (length p.instructions) n → IsGreatest p At n
greatest_all p At n some first most = record {
  reached = attained n most;
  greatest = λ q i m here found. most.greatest q i m (slice_get_within p.instructions q i here) here found;
}
  where
    attained : (n : ℕ) → IsGreatestBelow p At (length p.instructions) n → (q : ℕ) × (i : Instr) × (slice_get p.instructions q ≡ Some i) × At q i n
    attained zero most =
        let i = get_or p.instructions 0 instr.NoAnswer in
        let here = slice_get-get_or p.instructions 0 instr.NoAnswer some in
        let found = first i in
        let low = most.greatest 0 i found.0 some here found.1 in
        let none : found.0 ≡ 0 = omega (arith, low) in
        (0, i, here, subst (At 0 i) none found.1)
    attained (suc n) most = most.reached (omega arith)

pub own_all : (p : Program) (shapes : ℕ → Shape) (n : ℕ) → 0 < length p.instructions → IsGreatestBelow p (IsOwnDepthAt p shapes) (length p.instructions) n → IsGreatest p (IsOwnDepthAt p shapes) n
own_all p shapes n some most = greatest_all p (IsOwnDepthAt p shapes) n some (λ i. (length (shapes 0).kinds, inl refl)) most

-- the greatest depth, including what routines take
depth_all : (p : Program) (ds : List ℕ) (own inner : ℕ) → IsGreatest p (IsOwnDepthAt p (shape_at p)) own → IsGreatestBelow p (IsInnerAt p ds) (length p.instructions) inner → IsGreatest p (IsDepthAt p ds (shape_at p)) (max own inner)
depth_all p ds own inner most deep = record {
  reached = elim (cases_lt own inner) [
    | inl less ↦
        let same : inner ≡ max own inner = omega (arith, less) in
        let at = deep.reached (omega (arith, less)) in
        (at.0, at.1, at.2, inr (sym same ∙ at.3))
    | inr more ↦
        let same : own ≡ max own inner = omega (arith, more) in
        let at = most.reached in
        (at.0, at.1, at.2, inl (subst (IsOwnDepthAt p (shape_at p) at.0 at.1) same at.3))
  ];
  greatest = λ q i m here found. elim found [
    | inl h ↦ let low = most.greatest q i m here h in omega (arith, low)
    | inr h ↦ let low = deep.greatest q i m (slice_get_within p.instructions q i here) here h in omega (arith, low)
  ];
}

-- the findings about a body
pub found_all : (p : Program) (ds bs : List ℕ) (falls : Bool) (shape : Shape) (depths : List ℕ) (own inner deepest budget : ℕ) (table : Table) → IsProgram p → All (IsFrameFit p) p.frames → 0 < length p.instructions → IsWalked p ds (length p.instructions) falls shape depths own inner → deepest ≡ max own inner → table ≡ record { depths = depths; own = own } → IsBodyBudget p bs budget → budget ≤ most_budget → IsFound p ds bs table deepest budget
found_all p ds bs falls shape depths own inner deepest budget table program frames some walked deep is limit few =
    let typing = walked_shapes p ds falls shape depths own inner frames some walked in
    let most = own_all p (shape_at p) own some walked.most in
    record {
      deep = record { shapes = shape_at p; typing = typing; most = rw deep (depth_all p ds own inner most walked.deepest) };
      kept = rw is (record {
        depths = λ pc f framed.
            let found = frame_found p pc f program frames (sym framed) in
            walked.table.each pc f (omega (arith, found.fit.inside, found.here)) framed;
        own = record { depths = ds; shapes = shape_at p; typing = typing; most = most };
      });
      limit = limit;
      few = few;
    }

-- a body whose budget is above the limit
pub over_limit : (p : Program) (ds bs : List ℕ) (shapes : ℕ → Shape) (found : Option ℕ) → HasShapes p ds shapes → MatchOption found ((n : ℕ) × IsBodyBudget p bs n × (most_budget < n)) (λ n. IsBodyBudget p bs n × (n ≤ most_budget)) → ((n : ℕ) → found ≡ Some n → ⊥) → IsBodyOver p ds bs fault.Budget
over_limit p ds bs shapes None typing told none = record { shapes = shapes; typing = typing; budget = told.0; limit = told.1; over = told.2; is = refl }
over_limit p ds bs shapes (Some n) typing told none = absurd (none n refl)

-- ---- all bodies

-- what is known before the last body
pub known_none : (p : Program) (ds bs : List ℕ) (from : ℕ) → length p.around.routines < from → length ds ≡ suc (length p.around.routines) → length bs ≡ suc (length p.around.routines) → ((b : ℕ) → slice_index bs b ≤ most_budget) → IsKnown p from ds bs
known_none p ds bs from past long count few = record {
  typed = record {
    bodies = λ b low inside. absurd (omega (arith, low, inside, past));
    deep = record { count = long; each = λ b low inside. absurd (omega (arith, low, inside, past)) };
    limits = budgets_none p bs from count past;
    few = λ b low. few b;
  };
  few = few;
}

-- zeros are within the limit
pub zeros_few : (n b : ℕ) → slice_index (replicate n 0) b ≤ most_budget
zeros_few n b = elim (cases_lt b n) [
  | inl inside ↦ omega (arith, get_or-replicate {A = ℕ} n b 0 0 inside)
  | inr past ↦ omega (arith, get_or_past {X = ℕ} (replicate n 0) b 0 (omega (arith, past, length-replicate {A = ℕ} n 0)))
]

pub started : (p : Program) (count : ℕ) (ds bs : List ℕ) (tables : List Table) → count ≡ suc (length p.around.routines) → IsStart count ds bs tables → IsKnown p count ds bs
started p count ds bs tables long start =
    known_none p ds bs count (omega (arith, long))
    (ap length start.deep ∙ length-replicate {A = ℕ} count 0 ∙ long)
    (ap length start.limits ∙ length-replicate {A = ℕ} count 0 ∙ long)
    (λ b. omega (arith, ap (λ ns. slice_index ns b) start.limits, zeros_few count b))

module _ (p : Program) (b : ℕ) (ds bs : List ℕ) (table : Table) (d n : ℕ) (inside : b ≤ length p.around.routines) (known : IsKnown p (b + 1) ds bs) (found : IsFound (body_of p b) ds bs table d n) where
  -- changing a body's depth changes nothing for bodies with higher numbers, nor for the body itself
  unseen : (c : ℕ) → b ≤ c → AgreeBehind (body_of p c).around.number ds (set ds b d)
  unseen c low e behind =
      let other : e ≢ b = omega (arith, behind, low, least_number_of_body p c) in
      sym (get_or-set_other ds b e d 0 other)

  forward : ForwardFrom p b
  forward c low within = elim (cases_lt b c) [
    | inl after ↦
        let shapes = known.typed.bodies c (omega (arith, after)) within in
        typed_forward (body_of p c) ds shapes.0 shapes.1
    | inr not_after ↦
        let same : b ≡ c = omega (arith, low, not_after) in
        subst (λ e. IsForward (body_of p e)) same (typed_forward (body_of p b) ds found.deep.shapes found.deep.typing)
  ]

  bodies_more : (c : ℕ) → b ≤ c → c ≤ length p.around.routines → (shapes : ℕ → Shape) × HasShapes (body_of p c) (set ds b d) shapes
  bodies_more c low within = elim (cases_lt b c) [
    | inl after ↦
        let shapes = known.typed.bodies c (omega (arith, after)) within in
        (shapes.0, shapes_move (body_of p c) ds (set ds b d) (unseen c low) shapes.0 shapes.1)
    | inr not_after ↦
        let same : b ≡ c = omega (arith, low, not_after) in
        subst (λ e. (shapes : ℕ → Shape) × HasShapes (body_of p e) (set ds b d) shapes) same
        (found.deep.shapes, shapes_move (body_of p b) ds (set ds b d) (unseen b (omega arith)) found.deep.shapes found.deep.typing)
  ]

  deep_more : AreBodyDepths p b (set ds b d)
  deep_more = record {
    count = length-set ds b d ∙ known.typed.deep.count;
    each = λ c low within. elim (cases_lt b c) [
      | inl after ↦
          let other : c ≢ b = omega (arith, after) in
          rw get_or-set_other (body_depth_moves (body_of p c) ds (set ds b d) (unseen c low) (slice_index ds c) (known.typed.deep.each c (omega (arith, after)) within))
      | inr not_after ↦
          let same : c ≡ b = omega (arith, low, not_after) in
          let long : b < length ds = omega (arith, inside, known.typed.deep.count) in
          let now : slice_index (set ds b d) b ≡ d = get_or-set_same ds b d 0 long in
          rw (same, now) (body_depth_moves (body_of p b) ds (set ds b d) (unseen b (omega arith)) d found.deep)
    ];
  }

  -- what is known with one more body
  pub known_more : IsKnown p b (set ds b d) (set bs b n)
  known_more =
      let few = few_more bs b n (omega (arith, inside, known.typed.limits.count)) known.few found.few in
      record {
        typed = record {
          bodies = bodies_more;
          deep = deep_more;
          limits = budgets_more p bs b n forward inside known.typed.limits found.limit;
          few = λ c low. few c;
        };
        few = few;
      }

-- ---- tables

pub tables_none : (p : Program) (from : ℕ) → from ≡ suc (length p.around.routines) → AreTables p from []
tables_none p from past = record { count = omega (arith, past); each = λ b n low sum. absurd (omega (arith, low, sum, past)) }

pub tables_more : (p : Program) (b : ℕ) (tables : List Table) (table : Table) → b ≤ length p.around.routines → AreTables p (b + 1) tables → IsTable (body_of p b) table → AreTables p b (tables ++ table ∷ [])
tables_more p b tables table inside are here = record {
  count = omega (arith, are.count, length-append tables (table ∷ []));
  each = λ c n low sum. elim (cases_lt b c) [
    | inl after ↦
        let old = are.each c n (omega (arith, after)) sum in
        (old.0, slice_get-front tables table n (omega (arith, sum, after, are.count)) ∙ old.1, old.2)
    | inr not_after ↦
        let same : b ≡ c = omega (arith, low, not_after) in
        let last : length tables ≡ n = omega (arith, sum, same, are.count) in
        (table, slice_get-last tables table n last, subst (λ e. IsTable (body_of p e) table) same here)
  ];
}

-- the table of a routine
pub table_at : (p : Program) (tables : List Table) (b n : ℕ) (t : Table) → AreTables p 1 tables → 0 < b → b + n ≡ length p.around.routines → t ≡ get_or tables n t → IsTable (body_of p b) t
table_at p tables b n t are some sum is =
    let there = are.each b n (omega (arith, some)) sum in
    let same : t ≡ there.0 = is ∙ get_or_from_slice_get tables n there.0 t there.1 in
    rw same there.2
