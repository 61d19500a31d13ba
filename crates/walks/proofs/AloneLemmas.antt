-- Walks in pieces of a session that is alone.
use Rattle.std.proofs.Common.{◌≡◌, ◌<◌, ◌≤◌, ◌-◌, ℕ, zero, suc, List, [], ◌∷◌, ◌++◌, refl, sym, subst, ◌∙◌, ap, arith, length, fold, take, drop, Option}
use Rattle.std.specs.Prelude.{IsTrue, nat_lt}
use Rattle.std.proofs.lemmas.Bool.{ltb-true, ltb-false}
use Rattle.std.proofs.lemmas.List.{append-nil, length-append}
use Rattle.term_core.specs.Datum.{Datum}
use Rattle.mcode.specs.Answer.{answer_of}
use Rattle.part_core.specs.Acts.Purpose.{Answers}
use Rattle.part_core.specs.Rows.{PartState}
use Rattle.part_core.proofs.KeyLemmas.{by_test}
use Rattle.tables.specs.declared.options.Options.{Options}
use Rattle.tables.specs.OneThread.{TableState}
use Rattle.tables.specs.Turns.{Home, Views}
use Rattle.walk_core.specs.Goes.{way, up_to}
use Rattle.walk_core.specs.Walk.{Position}
use Rattle.walk_core.specs.Walk.Position.{Over}
use Rattle.walk_query.specs.declared.query.Query.{Query}
use Rattle.walks.specs.declared.continuation.Step.{Step}
use Rattle.walks.specs.declared.continuation.Step.TheVariants as step
use Rattle.walks.specs.Pieces.{IsPiece, Steps}
use Rattle.walk_core.specs.declared.position.Position as walk_position
use Rattle.walk_core.specs.Positions.{position_of}
use Rattle.walks.specs.Query.{kept_of, plan_of}
use Rattle.walks.specs.Sights.{Piece, Sight, answers_in, made, piece_of, sights_from}
use Rattle.walks.specs.Alone.{IsAlong, IsPieceOf, IsSeen}
use Rattle.walks.proofs.GoneLemmas.{Gone, goes_gone}
use Rattle.walks.proofs.PlainLemmas.{table_of}

-- a table is the one with the session's options and its own states
pub seen_table : (h : Home) (t : TableState) (v : Views) → IsSeen h t v → t ≡ table_of h t.states
seen_table h t v seen = ap (λ (o : Options). record { options = o; states = t.states }) seen.options

taken : {X : Type 0} (n : ℕ) (xs ys : List X) → length xs ≤ n → (length xs < n → ys ≡ []) → (take n (xs ++ ys) ≡ xs) × (drop n (xs ++ ys) ≡ ys)
taken zero [] ys most fewer = (refl, refl)
taken (suc n) [] ys most fewer = let none : ys ≡ [] = fewer (omega arith) in (ap (take (suc n)) none, ap (drop (suc n)) none ∙ sym none)
taken zero (x ∷ xs) ys most fewer = absurd (omega (arith, most))
taken (suc n) (x ∷ xs) ys most fewer =
    let more = taken n xs ys (omega (arith, most)) (λ less. fewer (omega (arith, less))) in (ap (λ zs. x ∷ zs) more.0, more.1)

none_made : (f : Datum → Option Datum) (vs : List Sight) → made f 0 vs ≡ []
none_made f [] = refl
none_made f (v ∷ vs) = refl

-- no visit is left to make after a piece
none_left : (f : Datum → Option Datum) (t : TableState) (plan : Option (List Datum)) (limit : ℕ) (given kept : List Datum) (at : Position) → IsPiece limit given at kept → made f (limit - length (given ++ kept)) (sights_from t plan at) ≡ []
none_left f t plan limit given kept at piece =
    by_test (nat_lt (length given) limit) _
    (λ less. let over = (piece.fewer (ltb-true (length given) limit less)).0 in ap (λ (p : Position). made f (limit - length (given ++ kept)) (sights_from t plan p)) over)
    (λ full. let none : limit - length (given ++ kept) ≡ 0 = omega (arith, ltb-false (length given) limit full, length-append given kept) in
    ap (λ (n : ℕ). made f n (sights_from t plan at)) none ∙ none_made f (sights_from t plan at))

abbrev piece_by : (f : Datum → Option Datum) → ℕ → List Datum → Position → List Sight → Piece
piece_by f limit kept at visits =
    record { given = take limit (kept ++ answers_in f visits); kept = drop limit (kept ++ answers_in f visits); at = fold (λ before v. v.behind) at visits }

-- what visits returned, as a piece
piece_gone : (f : Datum → Option Datum) (h : Home) (states : ℕ → PartState) (plan : Option (List Datum)) (limit : ℕ) (v u : Views) (at later : Position) (kept given rest : List Datum)
    → Gone f h states plan (up_to limit) (way v at kept) (way u later (given ++ rest)) → IsPiece limit given later rest
    → piece_of f limit kept at (sights_from (table_of h states) plan at) ≡ record { given = given; kept = rest; at = later }
piece_gone f h states plan limit v u at later kept given rest g piece =
    let visits : made f (limit - length kept) (sights_from (table_of h states) plan at) ≡ g.front = g.picks limit (λ n. refl) ∙ ap (λ (vs : List Sight). g.front ++ vs) (none_left f (table_of h states) plan limit given rest later piece) ∙ append-nil g.front in
    let cut = taken limit given rest piece.most (λ less. (piece.fewer less).1) in
    ap (piece_by f limit kept at) visits
    ∙ ap (λ (xs : List Datum). record { given = take limit xs; kept = drop limit xs; at = fold (λ (before : Position) (w : Sight). w.behind) at g.front }) (sym g.gains)
    ∙ ap (λ (xs : List Datum). record { given = xs; kept = drop limit (given ++ rest); at = fold (λ (before : Position) (w : Sight). w.behind) at g.front }) cut.0
    ∙ ap (λ (xs : List Datum). record { given = given; kept = xs; at = fold (λ (before : Position) (w : Sight). w.behind) at g.front }) cut.1
    ∙ ap (λ (p : Position). record { given = given; kept = rest; at = p }) g.last

-- one step
step_of_states : {A : Type 0} (h : Home) (states : ℕ → PartState) (q : Query A) (limit : ℕ) (at : Position) (kept : List Datum) (s : Step A) (v u : Views)
    → IsTrue h.alone → 0 < h.options.parts → IsSeen h (table_of h states) v → IsAlong h q at → Steps h q limit at kept s v u
    → IsPieceOf (piece_of (answer_of q.code) limit kept at (sights_from (table_of h states) (plan_of q h.options) at)) s
    × IsAlong h q (piece_of (answer_of q.code) limit kept at (sights_from (table_of h states) (plan_of q h.options) at)).at × IsSeen h (table_of h states) u
step_of_states h states q limit at kept (step.Piece answers c) v u alone some seen there steps =
    let f = answer_of q.code in
    let plan : Option (List Datum) = plan_of q h.options in
    let gone = goes_gone f h Answers q.code states plan (up_to limit) _ _ refl (λ s scope wanted. refl) alone some seen.states there steps.0 in
    let is = sym (piece_gone f h states plan limit v u at (position_of c.at) kept answers.items (kept_of c.kept) gone.0 steps.2) in (
      subst (λ (p : Piece). IsPieceOf p (step.Piece answers c)) is (steps.1, refl, refl, refl),
      subst (λ (p : Piece). IsAlong h q p.at) is gone.0.there,
      record { options = refl; states = gone.1 },
    )
step_of_states h states q limit at kept (step.End p) v u alone some seen there steps =
    let f = answer_of q.code in
    let plan : Option (List Datum) = plan_of q h.options in
    let gone = goes_gone f h Answers q.code states plan (up_to limit) _ _ refl (λ s scope wanted. refl) alone some seen.states there steps.0 in
    let is = sym (piece_gone f h states plan limit v u at Over kept [] [] gone.0 (record { most = omega arith; fewer = λ less. (refl, refl) })) in (
      subst (λ (x : Piece). IsPieceOf x (step.End p)) is (refl, refl, refl),
      subst (λ (x : Piece). IsAlong h q x.at) is tt,
      record { options = refl; states = gone.1 },
    )

pub steps_alone : {A : Type 0} (h : Home) (t : TableState) (q : Query A) (limit : ℕ) (at : Position) (kept : List Datum) (s : Step A) (v u : Views)
    → IsTrue h.alone → 0 < h.options.parts → IsSeen h t v → IsAlong h q at → Steps h q limit at kept s v u
    → IsPieceOf (piece_of (answer_of q.code) limit kept at (sights_from t (plan_of q h.options) at)) s
    × IsAlong h q (piece_of (answer_of q.code) limit kept at (sights_from t (plan_of q h.options) at)).at × IsSeen h t u
steps_alone h t q limit at kept s v u alone some seen there steps =
    let is = seen_table h t v seen in
    subst (λ (x : TableState). IsPieceOf (piece_of (answer_of q.code) limit kept at (sights_from x (plan_of q h.options) at)) s × IsAlong h q (piece_of (answer_of q.code) limit kept at (sights_from x (plan_of q h.options) at)).at × IsSeen h x u) (sym is)
    (step_of_states h t.states q limit at kept s v u alone some (subst (λ (x : TableState). IsSeen h x v) is seen) there steps)
