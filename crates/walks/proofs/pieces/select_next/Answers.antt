use Rattle.std.proofs.Common.{◌≡◌, ℕ, refl, subst, sym}
use Rattle.std.proofs.lemmas.Result.{IfOk-weaker}
use Rattle.part_core.specs.Acts.Purpose.{Answers}
use Rattle.tables.specs.declared.options.Options.{Options}
use Rattle.tables.specs.Turns.{Follows}
use Rattle.walk_core.specs.Goes.{way, up_to, Stops}
use Rattle.walk_core.specs.Walk.{named_count}
use Rattle.walks.specs.declared.fault.WalkFault.TheVariants.{Memory}
use Rattle.walks.specs.Pieces.{Steps, Continues, Keeps, IsWalkOf}
use Rattle.walk_core.specs.Positions.{IsThere, position_of}
use Rattle.walks.specs.Query.{kept_of, plan_of, walk_of}
use Rattle.walks.proofs.PieceLemmas.{continues_by, keeps_by, within_by, err_both}
use Rattle.walks.proofs.pieces.select_next.Goals as goal

pub returns-then-not-is_there-clause-foreign : goal.returns-then-not-is_there-clause-foreign
returns-then-not-is_there-clause-foreign g c = λ other. (
  refl,
  λ v b position.
      let h = g.T.TryTurns.home c.args.turns.now in
      let walk = c.args.walk in
      let there = within_by h walk.query walk.at v position in
      c.if-not-is_there.ensures (subst (λ (n : ℕ). IsThere c.options-options.result.parts n (position_of walk.at)) (sym c.named_count-count.ensures) (subst (λ (o : Options). IsThere o.parts (named_count (plan_of walk.query h.options)) (position_of walk.at)) (sym c.options-options.ensures) there)),
)

pub returns-clause-done : goal.returns-clause-done
returns-clause-done g c =
    let h = g.T.TryTurns.home c.args.turns.now in
    let walk = c.args.walk in
    let before = g.T.TryTurns.sees c.args.turns.now in
    let now = g.T.TryTurns.sees c.go_on.new.turns in
    IfOk-weaker c.go_on.result (λ step. Follows before now (Steps h walk.query walk.limit (position_of walk.at) (kept_of walk.kept) step)) (λ step. Follows before now (Continues h walk step))
    (λ step steps. continues_by h walk step before now (g.met.T.TryTurns.fits c.args.turns.now c.requires.ready) (λ v b part inside. g.met.T.TryTurns.legal c.args.turns.now v part c.requires.ready b inside) steps)
    c.go_on.ensures.done

pub returns-clause-kept : goal.returns-clause-kept
returns-clause-kept g c =
    let h = g.T.TryTurns.home c.args.turns.now in
    let walk = c.args.walk in
    let before = g.T.TryTurns.sees c.args.turns.now in
    let now = g.T.TryTurns.sees c.go_on.new.turns in
    err_both c.go_on.result
    (λ refused. (refused.fault ≡ Memory) → Follows before now (λ v w. Stops h (walk_of h Answers walk.query) (up_to walk.limit) (way v (position_of walk.at) (kept_of walk.kept)) (position_of refused.value.at) (kept_of refused.value.kept) w))
    (λ refused. IsWalkOf h walk.query walk.limit refused.value)
    (λ refused. (refused.fault ≡ Memory) → Follows before now (Keeps h walk refused.value))
    (λ refused stops own scarce. keeps_by h walk refused.value before now (g.met.T.TryTurns.fits c.args.turns.now c.requires.ready) (λ v b part inside. g.met.T.TryTurns.legal c.args.turns.now v part c.requires.ready b inside) own (stops scarce))
    c.go_on.ensures.stopped c.go_on.ensures.back
