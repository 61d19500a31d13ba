use Rattle.std.proofs.Common.{refl, ◌≡◌, ◌≢◌, ◌++◌, [], List, subst}
use Rattle.term_core.specs.Datum.{Datum}
use Rattle.part_core.specs.Acts.Purpose.{Answers}
use Rattle.part_core.specs.Replies.{most_counted}
use Rattle.tables.specs.Turns.{Views, Follows}
use Rattle.walk_core.specs.Goes.{way, up_to, Stops}
use Rattle.walk_core.specs.Walk.{Position, IsPosition, start_by}
use Rattle.walk_core.specs.Walk.Position.{Over}
use Rattle.walks.specs.declared.fault.WalkFault.TheVariants.{Memory, StrangerContinuation}
use Rattle.walks.specs.Pieces.{IsPiece}
use Rattle.walks.specs.Visits.{StopsAnywhere}
use Rattle.walk_core.specs.Positions.{position_of}
use Rattle.walks.specs.Query.{kept_of, plan_of, walk_of}
use Rattle.walks.proofs.GoingLemmas.{GoesBy, is_walk}
use Rattle.walks.proofs.PieceLemmas.{err_both, few_in_memory, gathered_by, ok_both, only_scarce, starts_well}
use Rattle.walks.proofs.WholeLemmas.{ends_there}
use Rattle.walks.proofs.whole.gather.Goals as goal

pub returns-clause-done : goal.returns-clause-done
returns-clause-done g c =
    let h = g.T.TryTurns.home c.args.turns.now in
    let w = walk_of h Answers c.args.query.now in
    let before = g.T.TryTurns.sees c.args.turns.now in
    let now = g.T.TryTurns.sees c.next_piece.new.turns in
    let at : position_of c.start-at.result ≡ start_by (plan_of c.args.query.now h.options) 0 h.options.parts = c.start-at.ensures.at in
    ok_both c.next_piece.result
    (λ answers. Follows before now (GoesBy h w (up_to most_counted) (position_of c.start-at.result) (kept_of c.new-kept.result) (position_of c.next_piece.new.at) (answers.items ++ kept_of c.next_piece.new.kept)))
    (λ answers. IsPiece most_counted answers.items (position_of c.next_piece.new.at) (kept_of c.next_piece.new.kept))
    (λ answers. Follows before now (λ v u. Stops h w (up_to most_counted) (way v (start_by (plan_of c.args.query.now h.options) 0 h.options.parts) []) Over answers.items u))
    (λ answers goes piece.
    let ends = piece.fewer (few_in_memory answers.len answers.cap _ answers.ok.0 answers.ok.1 answers.small) in
    ends_there h w (up_to most_counted) (start_by (plan_of c.args.query.now h.options) 0 h.options.parts) answers.items before now (record { options = refl; number = refl }) (is_walk h Answers c.args.query.now (g.met.T.TryTurns.fits c.args.turns.now c.requires)) (λ v b part inside. g.met.T.TryTurns.legal c.args.turns.now v part c.requires b inside) (gathered_by h w (up_to most_counted) (position_of c.start-at.result) (start_by (plan_of c.args.query.now h.options) 0 h.options.parts) (position_of c.next_piece.new.at) (kept_of c.new-kept.result) (kept_of c.next_piece.new.kept) answers.items before now at c.new-kept.ensures.none ends.0 ends.1 goes))
    c.next_piece.ensures.done c.next_piece.ensures.piece

pub returns-clause-stopped : goal.returns-clause-stopped
returns-clause-stopped g c =
    let h = g.T.TryTurns.home c.args.turns.now in
    let q = c.args.query.now in
    let w = walk_of h Answers q in
    let before = g.T.TryTurns.sees c.args.turns.now in
    let now = g.T.TryTurns.sees c.next_piece.new.turns in
    let fits = g.met.T.TryTurns.fits c.args.turns.now c.requires in
    let at : position_of c.start-at.result ≡ start_by (plan_of c.args.query.now h.options) 0 h.options.parts = c.start-at.ensures.at in
    let later = position_of c.next_piece.new.at in
    let kept = kept_of c.next_piece.new.kept in
    err_both c.next_piece.result
    (λ fault. (fault ≡ Memory) → Follows before now (λ x y. Stops h w (up_to most_counted) (way x (position_of c.start-at.result) (kept_of c.new-kept.result)) later kept y))
    (λ fault. fault ≢ Memory → (fault ≡ StrangerContinuation) × ((v : Views) → before v → IsPosition w v (position_of c.start-at.result) → ⊥))
    (λ fault. Follows before now (StopsAnywhere h w (up_to most_counted)))
    (λ fault stops foreign.
    let scarce = only_scarce h q (start_by (plan_of c.args.query.now h.options) 0 h.options.parts) fault before (g.met.T.TryTurns.seen c.args.turns.now c.requires) (λ v b. starts_well h q v fits) (subst (λ (p : Position). fault ≢ Memory → (fault ≡ StrangerContinuation) × ((v : Views) → before v → IsPosition w v p → ⊥)) at foreign) in
    λ v b.
    let f = subst (λ (p : Position). Follows before now (λ x y. Stops h w (up_to most_counted) (way x p []) later kept y)) at (subst (λ (ys : List Datum). Follows before now (λ x y. Stops h w (up_to most_counted) (way x (position_of c.start-at.result) ys) later kept y)) c.new-kept.ensures.none (stops scarce)) v b in
    (f.0, f.1, (later, kept, f.2)))
    c.next_piece.ensures.stopped c.next_piece.ensures.foreign
