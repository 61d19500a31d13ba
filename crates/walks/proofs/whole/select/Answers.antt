use Rattle.std.proofs.Common.{◌∙◌, refl, subst, sym, []}
use Rattle.part_core.specs.Acts.Purpose.{Answers}
use Rattle.part_core.specs.Replies.{most_counted}
use Rattle.tables.specs.Turns.{Home, Views, Follows}
use Rattle.walk_core.specs.Goes.{way, up_to, Stops}
use Rattle.walk_core.specs.Walk.{start_of}
use Rattle.walk_core.specs.Walk.Position.{Over}
use Rattle.walks.specs.Own.{Releases, AreHeld}
use Rattle.walks.specs.Query.{walk_of}
use Rattle.walks.specs.Visits.{StopsAnywhere}
use Rattle.walks.proofs.GoingLemmas.{is_walk}
use Rattle.walks.proofs.WholeLemmas.{went, held_own, finishes, gives_up}
use Rattle.walks.proofs.whole.select.Goals as goal

pub release_own-requires-clause-held : goal.release_own-requires-clause-held
release_own-requires-clause-held g c =
    let h = g.T.TryTurns.home c.args.turns.now in
    let q = c.args.query.now in
    let before = g.T.TryTurns.sees c.args.turns.now in
    let fixed = g.T.TryTurns.sees c.fix_own-own.new.turns in
    let last = g.T.TryTurns.sees c.gather-answers.new.turns in
    let stops = subst (λ (home : Home). Follows fixed last (StopsAnywhere home (walk_of home Answers q) (up_to most_counted))) c.fix_own-own.ensures.same
    (went c.gather-answers.result (λ answers. answers.items) (g.T.TryTurns.home c.fix_own-own.new.turns) (walk_of (g.T.TryTurns.home c.fix_own-own.new.turns) Answers q) (up_to most_counted) fixed last c.gather-answers.ensures.done c.gather-answers.ensures.stopped) in
    subst (λ (home : Home). ∥ ((x : Views) × last x × AreHeld home c.fix_own-own.result x) ∥₁) (sym (c.gather-answers.ensures.same ∙ c.fix_own-own.ensures.same))
    (held_own h (walk_of h Answers q) (up_to most_counted) c.fix_own-own.result before fixed last (g.met.T.TryTurns.seen c.args.turns.now c.requires) c.fix_own-own.ensures.done stops)

pub returns-in-Ok-clause-done : goal.returns-in-Ok-clause-done
returns-in-Ok-clause-done g c =
    let h = g.T.TryTurns.home c.args.turns.now in
    let q = c.args.query.now in
    let before = g.T.TryTurns.sees c.args.turns.now in
    let fixed = g.T.TryTurns.sees c.fix_own-own.new.turns in
    let last = g.T.TryTurns.sees c.gather-answers.new.turns in
    let now = g.T.TryTurns.sees c.release_own.new.turns in
    let stops = subst (λ (home : Home). Follows fixed last (λ v u. Stops home (walk_of home Answers q) (up_to most_counted) (way v (start_of (walk_of home Answers q)) []) Over c.in-Ok.answers.items u)) c.fix_own-own.ensures.same c.in-Ok.ensures.done in
    let releases = subst (λ (home : Home). Follows last now (Releases home c.fix_own-own.result)) (c.gather-answers.ensures.same ∙ c.fix_own-own.ensures.same) c.release_own.ensures.done in
    finishes h (walk_of h Answers q) (up_to most_counted) c.fix_own-own.result c.in-Ok.answers.items before fixed last now (record { options = refl; number = refl }) (is_walk h Answers q (g.met.T.TryTurns.fits c.args.turns.now c.requires))
    (λ v b part inside. g.met.T.TryTurns.legal c.args.turns.now v part c.requires b inside) c.fix_own-own.ensures.done stops releases

pub returns-in-Err-clause-refused : goal.returns-in-Err-clause-refused
returns-in-Err-clause-refused g c =
    let h = g.T.TryTurns.home c.args.turns.now in
    let q = c.args.query.now in
    let before = g.T.TryTurns.sees c.args.turns.now in
    let fixed = g.T.TryTurns.sees c.fix_own-own.new.turns in
    let last = g.T.TryTurns.sees c.gather-answers.new.turns in
    let now = g.T.TryTurns.sees c.release_own.new.turns in
    let stops = subst (λ (home : Home). Follows fixed last (StopsAnywhere home (walk_of home Answers q) (up_to most_counted))) c.fix_own-own.ensures.same c.in-Err.ensures.stopped in
    let releases = subst (λ (home : Home). Follows last now (Releases home c.fix_own-own.result)) (c.gather-answers.ensures.same ∙ c.fix_own-own.ensures.same) c.release_own.ensures.done in
    gives_up h (walk_of h Answers q) (up_to most_counted) c.fix_own-own.result before fixed last now (record { options = refl; number = refl }) (is_walk h Answers q (g.met.T.TryTurns.fits c.args.turns.now c.requires))
    (λ v b part inside. g.met.T.TryTurns.legal c.args.turns.now v part c.requires b inside) c.fix_own-own.ensures.done stops releases
