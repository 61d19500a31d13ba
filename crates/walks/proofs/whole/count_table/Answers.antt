use Rattle.std.proofs.Common.{◌∙◌, refl, subst, sym}
use Rattle.std.proofs.lemmas.Result.{IfOk-weaker, IfErr-weaker}
use Rattle.tables.specs.Turns.{Home, Views, Follows}
use Rattle.walk_core.specs.Goes.{whole}
use Rattle.walk_core.specs.Walk.{Position, start_of}
use Rattle.walk_core.specs.Walk.Position.{Over}
use Rattle.walk_core.specs.Counting.{purpose_of}
use Rattle.walks.specs.Counting.{StopsAtCount, FinishesCount, GivesUpCount}
use Rattle.walks.specs.Own.{Releases, AreHeld}
use Rattle.walks.specs.Query.{walk_of}
use Rattle.walks.specs.Visits.{StopsAnywhere}
use Rattle.walks.proofs.CountingLemmas.{tally_stops, counts_wholly, count_given_up}
use Rattle.walks.proofs.GoingLemmas.{is_walk}
use Rattle.walks.proofs.WholeLemmas.{held_own}
use Rattle.walks.proofs.whole.count_table.Goals as goal

pub release_own-requires-clause-held : goal.release_own-requires-clause-held
release_own-requires-clause-held g c =
    let h = g.T.TryTurns.home c.args.turns.now in
    let q = c.args.query.now in
    let purpose = purpose_of c.args.counting in
    let before = g.T.TryTurns.sees c.args.turns.now in
    let fixed = g.T.TryTurns.sees c.fix_own-own.new.turns in
    let last = g.T.TryTurns.sees c.tally-counted.new.turns in
    let there = g.T.TryTurns.home c.fix_own-own.new.turns in
    let stops = subst (λ (home : Home). Follows fixed last (StopsAnywhere home (walk_of home purpose q) whole)) c.fix_own-own.ensures.same
    (tally_stops c.tally-counted.result (λ count. count) there (walk_of there purpose q) (λ refused. refused.value) fixed last c.tally-counted.ensures.done c.tally-counted.ensures.stopped) in
    subst (λ (home : Home). ∥ ((x : Views) × last x × AreHeld home c.fix_own-own.result x) ∥₁) (sym (c.tally-counted.ensures.same ∙ c.fix_own-own.ensures.same))
    (held_own h (walk_of h purpose q) whole c.fix_own-own.result before fixed last (g.met.T.TryTurns.seen c.args.turns.now c.requires) c.fix_own-own.ensures.done stops)

pub returns-clause-done : goal.returns-clause-done
returns-clause-done g c =
    let h = g.T.TryTurns.home c.args.turns.now in
    let q = c.args.query.now in
    let purpose = purpose_of c.args.counting in
    let before = g.T.TryTurns.sees c.args.turns.now in
    let fixed = g.T.TryTurns.sees c.fix_own-own.new.turns in
    let last = g.T.TryTurns.sees c.tally-counted.new.turns in
    let now = g.T.TryTurns.sees c.release_own.new.turns in
    let there = g.T.TryTurns.home c.fix_own-own.new.turns in
    let releases = subst (λ (home : Home). Follows last now (Releases home c.fix_own-own.result)) (c.tally-counted.ensures.same ∙ c.fix_own-own.ensures.same) c.release_own.ensures.done in
    IfOk-weaker c.tally-counted.result (λ count. Follows fixed last (StopsAtCount there (walk_of there purpose q) (start_of (walk_of there purpose q)) Over count)) (λ count. Follows before now (FinishesCount h (walk_of h purpose q) count))
    (λ count stops. counts_wholly h (walk_of h purpose q) c.fix_own-own.result count before fixed last now (record { options = refl; number = refl }) (is_walk h purpose q (g.met.T.TryTurns.fits c.args.turns.now c.requires))
    (λ v b part inside. g.met.T.TryTurns.legal c.args.turns.now v part c.requires b inside) c.fix_own-own.ensures.done
    (subst (λ (home : Home). Follows fixed last (StopsAtCount home (walk_of home purpose q) (start_of (walk_of home purpose q)) Over count)) c.fix_own-own.ensures.same stops) releases)
    c.tally-counted.ensures.done

pub returns-clause-refused : goal.returns-clause-refused
returns-clause-refused g c =
    let h = g.T.TryTurns.home c.args.turns.now in
    let q = c.args.query.now in
    let purpose = purpose_of c.args.counting in
    let before = g.T.TryTurns.sees c.args.turns.now in
    let fixed = g.T.TryTurns.sees c.fix_own-own.new.turns in
    let last = g.T.TryTurns.sees c.tally-counted.new.turns in
    let now = g.T.TryTurns.sees c.release_own.new.turns in
    let there = g.T.TryTurns.home c.fix_own-own.new.turns in
    let releases = subst (λ (home : Home). Follows last now (Releases home c.fix_own-own.result)) (c.tally-counted.ensures.same ∙ c.fix_own-own.ensures.same) c.release_own.ensures.done in
    IfErr-weaker c.tally-counted.result (λ refused. Follows fixed last (λ v w. (at : Position) × StopsAtCount there (walk_of there purpose q) (start_of (walk_of there purpose q)) at refused.value v w)) (λ refused. Follows before now (GivesUpCount h (walk_of h purpose q) refused.value))
    (λ refused stops. count_given_up h (walk_of h purpose q) c.fix_own-own.result refused.value before fixed last now (record { options = refl; number = refl }) (is_walk h purpose q (g.met.T.TryTurns.fits c.args.turns.now c.requires))
    (λ v b part inside. g.met.T.TryTurns.legal c.args.turns.now v part c.requires b inside) c.fix_own-own.ensures.done
    (subst (λ (home : Home). Follows fixed last (λ v w. (at : Position) × StopsAtCount home (walk_of home purpose q) (start_of (walk_of home purpose q)) at refused.value v w)) c.fix_own-own.ensures.same stops) releases)
    c.tally-counted.ensures.stopped
