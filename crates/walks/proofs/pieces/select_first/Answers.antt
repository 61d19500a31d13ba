use Rattle.std.proofs.Common.{ℕ, ◌≡◌, ◌≢◌, ◌∙◌, [], List, subst}
use Rattle.term_core.specs.Datum.{Datum}
use Rattle.part_core.specs.Acts.Purpose.{Answers}
use Rattle.tables.specs.Turns.{Views, Follows}
use Rattle.walk_core.specs.Goes.{way, up_to, Stops}
use Rattle.walk_core.specs.Walk.{Position, IsPosition, start_of}
use Rattle.walks.specs.declared.fault.WalkFault.TheVariants.{Memory, StrangerContinuation}
use Rattle.walks.specs.Pieces.{Steps}
use Rattle.walk_core.specs.Positions.{position_of}
use Rattle.walk_query.specs.declared.query.Query.{Query}
use Rattle.walks.specs.Query.{kept_of, walk_of}
use Rattle.walks.proofs.PieceLemmas.{begins_by, only_scarce, starts_well}
use Rattle.walks.proofs.pieces.select_first.Goals as goal

pub returns-in-Ok-clause-done : goal.returns-in-Ok-clause-done
returns-in-Ok-clause-done g c =
    let h = g.T.TryTurns.home c.args.turns.now in
    let q = c.args.query in
    let before = g.T.TryTurns.sees c.args.turns.now in
    let now = g.T.TryTurns.sees c.go_on.new.turns in
    let w = c.walk_begun-walk.result in
    let b = c.walk_begun-walk.ensures in
    begins_by h q c.args.limit c.in-Ok.step before now (g.met.T.TryTurns.fits c.args.turns.now c.requires.ready)
    (λ v b part inside. g.met.T.TryTurns.legal c.args.turns.now v part c.requires.ready b inside)
    (subst (λ (p : Position). Follows before now (Steps h q c.args.limit p [] c.in-Ok.step)) b.start
    (subst (λ (ys : List Datum). Follows before now (Steps h q c.args.limit (position_of w.at) ys c.in-Ok.step)) b.none
    (subst (λ (n : ℕ). Follows before now (Steps h q n (position_of w.at) (kept_of w.kept) c.in-Ok.step)) b.walk.1
    (subst (λ (r : Query _). Follows before now (Steps h r w.limit (position_of w.at) (kept_of w.kept) c.in-Ok.step)) b.walk.0 c.in-Ok.ensures.done))))

pub returns-in-Err-clause-refused : goal.returns-in-Err-clause-refused
returns-in-Err-clause-refused g c =
    let h = g.T.TryTurns.home c.args.turns.now in
    let q = c.args.query in
    let before = g.T.TryTurns.sees c.args.turns.now in
    let now = g.T.TryTurns.sees c.go_on.new.turns in
    let fits = g.met.T.TryTurns.fits c.args.turns.now c.requires.ready in
    let w = c.walk_begun-walk.result in
    let b = c.walk_begun-walk.ensures in
    let start = start_of (walk_of h Answers q) in
    let end = position_of c.in-Err.refused.value.at in
    let kept = kept_of c.in-Err.refused.value.kept in
    let scarce : c.in-Err.refused.fault ≡ Memory = only_scarce h q start c.in-Err.refused.fault before (g.met.T.TryTurns.seen c.args.turns.now c.requires.ready) (λ v b. starts_well h q v fits)
    (subst (λ (p : Position). c.in-Err.refused.fault ≢ Memory → (c.in-Err.refused.fault ≡ StrangerContinuation) × ((v : Views) → before v → IsPosition (walk_of h Answers q) v p → ⊥)) b.start
    (subst (λ (r : Query _). c.in-Err.refused.fault ≢ Memory → (c.in-Err.refused.fault ≡ StrangerContinuation) × ((v : Views) → before v → IsPosition (walk_of h Answers r) v (position_of w.at) → ⊥)) b.walk.0 c.in-Err.ensures.foreign)) in
    let stopped : Follows before now (λ x y. Stops h (walk_of h Answers q) (up_to c.args.limit) (way x start []) end kept y) =
    subst (λ (p : Position). Follows before now (λ x y. Stops h (walk_of h Answers q) (up_to c.args.limit) (way x p []) end kept y)) b.start
    (subst (λ (ys : List Datum). Follows before now (λ x y. Stops h (walk_of h Answers q) (up_to c.args.limit) (way x (position_of w.at) ys) end kept y)) b.none
    (subst (λ (n : ℕ). Follows before now (λ x y. Stops h (walk_of h Answers q) (up_to n) (way x (position_of w.at) (kept_of w.kept)) end kept y)) b.walk.1
    (subst (λ (r : Query _). Follows before now (λ x y. Stops h (walk_of h Answers r) (up_to w.limit) (way x (position_of w.at) (kept_of w.kept)) end kept y)) b.walk.0 (c.in-Err.ensures.stopped scarce)))) in (
      c.query_refused.ensures.1 ∙ scarce,
      λ v b. let f = stopped v b in (f.0, f.1, (end, kept, f.2)),
    )
