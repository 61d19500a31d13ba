use Rattle.std.proofs.Common.{◌<◌, ◌∙◌, refl, subst, sym}
use Rattle.std.proofs.lemmas.Result.{IfOk-weaker, IfErr-weaker}
use Rattle.std.specs.Prelude.{IfOk, IfErr}
use Rattle.part_core.specs.Acts.Act.{Unfix}
use Rattle.part_core.specs.Legal.{fix_count}
use Rattle.tables.specs.Turns.{Home, Views, Follows}
use Rattle.walk_core.specs.Moments.{AreLegal}
use Rattle.walk_core.specs.Walk.{start_of}
use Rattle.walk_core.specs.Walk.Position.{Over}
use Rattle.parallel_select.specs.Gained.{purpose_of}
use Rattle.parallel_select.specs.Parts.{part_walk, ChangesFix, GoesGaining, StopsGaining, SelectsGaining, CeasesGaining}
use Rattle.parallel_select.proofs.PartLemmas.{held_own, selects, ceases}
use Rattle.parallel_select.proofs.part.select_part.Goals as goal

pub release-requires-clause-held : goal.release-requires-clause-held
release-requires-clause-held g c is_own =
    let h = g.T.TryTurns.home c.args.turns.now in
    let purpose = purpose_of c.args.asking in
    let before = g.T.TryTurns.sees c.args.turns.now in
    let fixed = g.T.TryTurns.sees c.fix_first-own.new.turns in
    let last = g.T.TryTurns.sees c.visit_part-walked.new.turns in
    let same = c.visit_part-walked.ensures.same ∙ c.fix_first-own.ensures.same in
    let goes = subst (λ (home : Home). IfOk c.visit_part-walked.result (λ _. Follows fixed last (GoesGaining home (part_walk home purpose c.args.query.now c.args.part) (start_of (part_walk home purpose c.args.query.now c.args.part)) Over c.args.gained.now c.visit_part-walked.new.gained))) c.fix_first-own.ensures.same c.visit_part-walked.ensures.done in
    let stops = subst (λ (home : Home). IfErr c.visit_part-walked.result (λ _. Follows fixed last (StopsGaining home (part_walk home purpose c.args.query.now c.args.part) (start_of (part_walk home purpose c.args.query.now c.args.part)) c.args.gained.now c.visit_part-walked.new.gained))) c.fix_first-own.ensures.same c.visit_part-walked.ensures.refused in
    let legal = subst (λ (home : Home). (v : Views) → last v → AreLegal home.options v) same (λ v b part inside. g.met.T.TryTurns.legal c.visit_part-walked.new.turns v part c.visit_part-walked.ensures.ready b inside) in
    subst (λ (home : Home). ∥ ((v : Views) × last v × (0 < fix_count home.number (v c.args.part))) ∥₁) (sym same)
    (held_own c.visit_part-walked.result h (part_walk h purpose c.args.query.now c.args.part) c.args.part c.fix_first-own.result c.args.gained.now c.visit_part-walked.new.gained before fixed last c.requires.part (g.met.T.TryTurns.seen c.args.turns.now c.requires.ready) legal c.fix_first-own.ensures.done goes stops is_own)

pub returns-clause-done : goal.returns-clause-done
returns-clause-done g c =
    let h = g.T.TryTurns.home c.args.turns.now in
    let purpose = purpose_of c.args.asking in
    let w = part_walk h purpose c.args.query.now c.args.part in
    let before = g.T.TryTurns.sees c.args.turns.now in
    let fixed = g.T.TryTurns.sees c.fix_first-own.new.turns in
    let last = g.T.TryTurns.sees c.visit_part-walked.new.turns in
    let now = g.T.TryTurns.sees c.release.new.turns in
    let same = c.visit_part-walked.ensures.same ∙ c.fix_first-own.ensures.same in
    let goes = subst (λ (home : Home). IfOk c.visit_part-walked.result (λ _. Follows fixed last (GoesGaining home (part_walk home purpose c.args.query.now c.args.part) (start_of (part_walk home purpose c.args.query.now c.args.part)) Over c.args.gained.now c.visit_part-walked.new.gained))) c.fix_first-own.ensures.same c.visit_part-walked.ensures.done in
    let legal = subst (λ (home : Home). (v : Views) → last v → AreLegal home.options v) same (λ v b part inside. g.met.T.TryTurns.legal c.visit_part-walked.new.turns v part c.visit_part-walked.ensures.ready b inside) in
    let releases = subst (λ (home : Home). Follows last now (ChangesFix home Unfix c.args.part c.fix_first-own.result)) same c.release.ensures.done in
    IfOk-weaker c.visit_part-walked.result (λ _. Follows fixed last (GoesGaining h w (start_of w) Over c.args.gained.now c.visit_part-walked.new.gained)) (λ _. Follows before now (SelectsGaining h w c.args.gained.now c.visit_part-walked.new.gained))
    (λ _ went. selects h w c.args.part c.fix_first-own.result c.args.gained.now c.visit_part-walked.new.gained before fixed last now refl legal c.fix_first-own.ensures.done went releases) goes

pub returns-clause-refused : goal.returns-clause-refused
returns-clause-refused g c =
    let h = g.T.TryTurns.home c.args.turns.now in
    let purpose = purpose_of c.args.asking in
    let w = part_walk h purpose c.args.query.now c.args.part in
    let before = g.T.TryTurns.sees c.args.turns.now in
    let fixed = g.T.TryTurns.sees c.fix_first-own.new.turns in
    let last = g.T.TryTurns.sees c.visit_part-walked.new.turns in
    let now = g.T.TryTurns.sees c.release.new.turns in
    let same = c.visit_part-walked.ensures.same ∙ c.fix_first-own.ensures.same in
    let stops = subst (λ (home : Home). IfErr c.visit_part-walked.result (λ _. Follows fixed last (StopsGaining home (part_walk home purpose c.args.query.now c.args.part) (start_of (part_walk home purpose c.args.query.now c.args.part)) c.args.gained.now c.visit_part-walked.new.gained))) c.fix_first-own.ensures.same c.visit_part-walked.ensures.refused in
    let releases = subst (λ (home : Home). Follows last now (ChangesFix home Unfix c.args.part c.fix_first-own.result)) same c.release.ensures.done in
    IfErr-weaker c.visit_part-walked.result (λ _. Follows fixed last (StopsGaining h w (start_of w) c.args.gained.now c.visit_part-walked.new.gained)) (λ _. Follows before now (CeasesGaining h w c.args.gained.now c.visit_part-walked.new.gained))
    (λ _ went. ceases h w c.args.part c.fix_first-own.result c.args.gained.now c.visit_part-walked.new.gained before fixed last now refl c.fix_first-own.ensures.done went releases) stops
