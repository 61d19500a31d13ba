-- Pieces, in terms of the answers that visits found.
use Rattle.std.proofs.Common.{zero, suc, arith, ◌≡◌, ◌≢◌, ℕ, ◌<◌, ◌≤◌, ◌⊎◌, inl, inr, refl, ap, sym, subst, ◌∙◌, List, [], ◌∷◌, ◌++◌, length, take, drop}
use Rattle.std.proofs.lemmas.List.{append_assoc, append-nil, length-take}
use Rattle.std.proofs.Props.{props}
use Rattle.std.proofs.Math.Logic.{∥∥₁_elim}
use Rattle.std.specs.Prelude.{min, IfOk, IfErr, Result, Ok, Err}
use Rattle.term_core.specs.Datum.{Datum}
use Rattle.part_core.specs.Acts.Purpose.{Answers}
use Rattle.tables.specs.Turns.{Home, Views, Follows}
use Rattle.walk_core.specs.Goes.{way, up_to, Goes, Stops}
use Rattle.walk_core.specs.Moments.{Span, span, Gathers, IsSoFar, ArePlaced, AreLegal}
use Rattle.walk_core.specs.Walk.{Walk, Position, IsPosition, is_done, start_of}
use Rattle.walk_core.specs.Walk.Position.{Over}
use Rattle.walks.specs.declared.continuation.Continuation.{Continuation}
use Rattle.walks.specs.declared.continuation.Step.{Step}
use Rattle.walks.specs.declared.continuation.Step.TheVariants as step
use Rattle.walk_core.specs.declared.position.Position as walk_position
use Rattle.walk_core.specs.declared.position.Position.TheVariants as position
use Rattle.walk_query.specs.declared.query.Query.{Query}
use Rattle.walk_core.proofs.GoesLemmas.{goes_so_far, begins_so_far, ends_answer, stops_so_far}
use Rattle.walks.specs.declared.fault.WalkFault.{WalkFault}
use Rattle.walks.specs.declared.fault.WalkFault.TheVariants as fault
use Rattle.walks.specs.Pieces.{IsPiece, IsStepOf, IsWalkOf, Steps, IsCarriedOn, Begins, Continues, Keeps}
use Rattle.walk_core.specs.Positions.{position_of}
use Rattle.walks.specs.Query.{IsWithin, kept_of, walk_of}
use Rattle.walks.proofs.GoingLemmas.{GoesBy, is_walk}

drop_all : (xs : List Datum) (n : ℕ) → length xs ≤ n → drop n xs ≡ []
drop_all [] zero few = refl
drop_all [] (suc n) few = refl
drop_all (x ∷ xs) zero few = absurd (omega (arith, few))
drop_all (x ∷ xs) (suc n) few = drop_all xs n (omega (arith, few))

-- a piece has enough answers, or the walk is at its end
pub piece_of : (limit : ℕ) (gained piece kept : List Datum) (at : Position) → piece ≡ take limit gained → kept ≡ drop limit gained → (limit ≤ length gained) ⊎ (at ≡ Over) → IsPiece limit piece at kept
piece_of limit gained piece kept at front rest enough =
    let long : length piece ≡ min limit (length gained) = ap length front ∙ length-take limit gained in
    record {
      most = omega (arith, long);
      fewer = λ few. of enough (omega (arith, long, few));
    }
  where
    of : (limit ≤ length gained) ⊎ (at ≡ Over) → length gained < limit → (at ≡ Over) × (kept ≡ [])
    of (inl many) few = absurd (omega (arith, many, few))
    of (inr over) few = (over, rest ∙ drop_all gained limit (omega (arith, few)))

-- a step, in terms of the piece and what is kept
pub steps_of : {A : Type 0} (h : Home) (q : Query A) (limit : ℕ) (first : Position) (begun : List Datum) (c : Continuation A) (piece : List Datum) (s : Step A) (before now : Views → Type 0) → 0 < limit → IsWalkOf h q limit c → IsPiece limit piece (position_of c.at) (kept_of c.kept) → IsStepOf c piece s → Follows before now (GoesBy h (walk_of h Answers q) (up_to limit) first begun (position_of c.at) (piece ++ kept_of c.kept)) → Follows before now (Steps h q limit first begun s)
steps_of h q limit first begun c piece (step.Piece answers d) before now some own is_piece is so_far v b =
    let f = so_far v b in
    subst (λ (e : Continuation _). (u : Views) × now u × Steps h q limit first begun (step.Piece answers e) v u) (sym is.2)
    (f.0, f.1, (subst (λ (ys : List Datum). Goes h (walk_of h Answers q) (up_to limit) (way v first begun) (way f.0 (position_of c.at) (ys ++ kept_of c.kept))) (sym is.0) f.2, subst (λ (ys : List Datum). 0 < length ys) (sym is.0) is.1, subst (λ (ys : List Datum). IsPiece limit ys (position_of c.at) (kept_of c.kept)) (sym is.0) is_piece, own))
steps_of h q limit first begun c piece (step.End p) before now some own is_piece is so_far v b =
    let f = so_far v b in
    let ends = is_piece.fewer (subst (λ (ys : List Datum). length ys < limit) (sym is.0) some) in (
      f.0,
      f.1,
      (subst (λ (at : Position). Goes h (walk_of h Answers q) (up_to limit) (way v first begun) (way f.0 at [])) ends.0 (subst (λ (ys : List Datum). Goes h (walk_of h Answers q) (up_to limit) (way v first begun) (way f.0 (position_of c.at) ys)) (ap (λ (ys : List Datum). ys ++ kept_of c.kept) is.0 ∙ ends.1) f.2), is.1 ∙ own.0),
    )

-- ---- the walk so far

-- a walk so far is continued by what a call returns
carried : {A : Type 0} (h : Home) (q : Query A) (limit : ℕ) (first : Position) (begun : List Datum) (s : Step A) (v w : Views) (calls : List Span) (given : List Datum) → (0 < h.options.parts) × (h.number < h.options.sessions) → AreLegal h.options v → Steps h q limit first begun s v w → IsSoFar (walk_of h Answers q) calls given v first begun → ArePlaced h.options w → IsCarriedOn (walk_of h Answers q) (calls ++ span v w ∷ []) given s w
carried h q limit first begun (step.Piece answers c) v w calls given fits legal steps so_far placed =
    let walk = walk_of h Answers q in
    let there = goes_so_far h walk (up_to limit) calls given (way v first begun) (way w (position_of c.at) (answers.items ++ kept_of c.kept)) (record { options = refl; number = refl }) (is_walk h Answers q fits) legal placed so_far steps.0 in
    record {
      gathers = subst (Gathers walk (calls ++ span v w ∷ []) w (is_done walk (position_of c.at))) (sym (append_assoc given answers.items (kept_of c.kept))) there.gathers;
      position = there.position;
    }
carried h q limit first begun (step.End p) v w calls given fits legal steps so_far placed =
    let walk = walk_of h Answers q in
    ends_answer walk (calls ++ span v w ∷ []) given w (is_walk h Answers q fits)
    (goes_so_far h walk (up_to limit) calls given (way v first begun) (way w Over []) (record { options = refl; number = refl }) (is_walk h Answers q fits) legal placed so_far steps.0)

pub begins_by : {A : Type 0} (h : Home) (q : Query A) (limit : ℕ) (s : Step A) (before now : Views → Type 0) → (0 < h.options.parts) × (h.number < h.options.sessions) → ((v : Views) → before v → AreLegal h.options v) → Follows before now (Steps h q limit (start_of (walk_of h Answers q)) [] s) → Follows before now (Begins h q limit s)
begins_by h q limit s before now fits legal steps v b =
    let f = steps v b in
    let walk = walk_of h Answers q in
    (f.0, f.1, (f.2, λ placed. carried h q limit (start_of walk) [] s v f.0 [] [] fits (legal v b) f.2 (begins_so_far walk v (is_walk h Answers q fits)) placed))

pub continues_by : {A : Type 0} (h : Home) (c : Continuation A) (s : Step A) (before now : Views → Type 0) → (0 < h.options.parts) × (h.number < h.options.sessions) → ((v : Views) → before v → AreLegal h.options v) → Follows before now (Steps h c.query c.limit (position_of c.at) (kept_of c.kept) s) → Follows before now (Continues h c s)
continues_by h c s before now fits legal steps v b =
    let f = steps v b in
    (f.0, f.1, (f.2, λ calls given so_far placed. carried h c.query c.limit (position_of c.at) (kept_of c.kept) s v f.0 calls given fits (legal v b) f.2 so_far placed))

pub keeps_by : {A : Type 0} (h : Home) (c d : Continuation A) (before now : Views → Type 0) → (0 < h.options.parts) × (h.number < h.options.sessions) → ((v : Views) → before v → AreLegal h.options v) → IsWalkOf h c.query c.limit d → Follows before now (λ v w. Stops h (walk_of h Answers c.query) (up_to c.limit) (way v (position_of c.at) (kept_of c.kept)) (position_of d.at) (kept_of d.kept) w) → Follows before now (Keeps h c d)
keeps_by h c d before now fits legal own stops v b =
    let f = stops v b in
    let walk = walk_of h Answers c.query in
    (f.0, f.1, (f.2, own, λ calls given so_far placed. stops_so_far h walk (up_to c.limit) calls given (way v (position_of c.at) (kept_of c.kept)) (position_of d.at) (kept_of d.kept) f.0 (record { options = refl; number = refl }) (is_walk h Answers c.query fits) (legal v b) placed so_far f.2))

-- ---- errors

-- a walk can go on from where it begins
pub starts_well : {A : Type 0} (h : Home) (q : Query A) (v : Views) → (0 < h.options.parts) × (h.number < h.options.sessions) → IsPosition (walk_of h Answers q) v (start_of (walk_of h Answers q))
starts_well h q v fits = (begins_so_far (walk_of h Answers q) v (is_walk h Answers q fits)).position

-- a walk that can go on can only run out of memory
pub only_scarce : {A : Type 0} (h : Home) (q : Query A) (at : Position) (f : WalkFault) (before : Views → Type 0) → ∥ ((v : Views) × before v) ∥₁ → ((v : Views) → before v → IsPosition (walk_of h Answers q) v at) → (f ≢ fault.Memory → (f ≡ fault.StrangerContinuation) × ((v : Views) → before v → IsPosition (walk_of h Answers q) v at → ⊥)) → f ≡ fault.Memory
only_scarce h q at fault.Memory before seen well other = refl
only_scarce h q at fault.StrangerContinuation before seen well other =
    absurd (∥∥₁_elim seen (hlevel props) (λ s. (other (λ e. cc)).1 s.0 s.1 (well s.0 s.1)))
only_scarce h q at fault.BadLimit before seen well other =
    absurd (∥∥₁_elim seen (hlevel props) (λ s. (other (λ e. cc)).1 s.0 s.1 (well s.0 s.1)))

-- a walk that can go on is in one of the parts, or at one of the named keys
pub within_by : {A : Type 0} (h : Home) (q : Query A) (at : walk_position.Position A) (v : Views) → IsPosition (walk_of h Answers q) v (position_of at) → IsWithin h.options q at
within_by h q (position.InPart part cursor) v well = well.2
within_by h q (position.AtNamed n) v well = well
within_by h q position.Over v well = tt

pub err_both : {X Y : Type 0} (r : Result X Y) (P Q R : Y → Type 0) → ((y : Y) → P y → Q y → R y) → IfErr r P → IfErr r Q → IfErr r R
err_both (Ok x) P Q R f p q = tt
err_both (Err y) P Q R f p q = f y p q

pub ok_both : {X Y : Type 0} (r : Result X Y) (P Q R : X → Type 0) → ((x : X) → P x → Q x → R x) → IfOk r P → IfOk r Q → IfOk r R
ok_both (Ok x) P Q R f p q = f x p q
ok_both (Err y) P Q R f p q = tt

-- the number of what is in memory is below the greatest number that is counted
pub few_in_memory : (len cap n : ℕ) → len ≡ n → len ≤ cap → cap < 9223372036854775808 → n < 18446744073709551615
few_in_memory len cap n is within small = omega (arith, is, within, small)

-- a walk from its beginning to its end
pub gathered_by : (h : Home) (w : Walk) (wanted : ℕ → ℕ) (first start at : Position) (begun kept answers : List Datum) (before now : Views → Type 0) → first ≡ start → begun ≡ [] → at ≡ Over → kept ≡ [] → Follows before now (GoesBy h w wanted first begun at (answers ++ kept)) → Follows before now (GoesBy h w wanted start [] Over answers)
gathered_by h w wanted first start at begun kept answers before now is_first is_begun is_at is_kept so_far =
    subst (λ (ys : List Datum). Follows before now (GoesBy h w wanted start [] Over ys)) (ap (λ (ys : List Datum). answers ++ ys) is_kept ∙ append-nil answers)
    (subst (λ (p : Position). Follows before now (GoesBy h w wanted start [] p (answers ++ kept))) is_at
    (subst (λ (ys : List Datum). Follows before now (GoesBy h w wanted start ys at (answers ++ kept))) is_begun
    (subst (λ (p : Position). Follows before now (GoesBy h w wanted p begun at (answers ++ kept))) is_first so_far)))
