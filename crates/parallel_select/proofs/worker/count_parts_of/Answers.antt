use Rattle.std.proofs.Common.{◌≡◌, ◌<◌, ◌∙◌, refl, sym, subst, rules}
use Rattle.tables.specs.Turns.{Home, Follows}
use Rattle.parallel_select.specs.Gained.{purpose_of}
use Rattle.parallel_select.specs.Parts.{part_walk, is_share, PassesCounting, CeasesCounting}
use Rattle.parallel_select.proofs.WorkLemmas.{counts_nothing, counts_once, counted, broken_off}
use Rattle.parallel_select.proofs.worker.count_parts_of.Goals as goal

pub loop-part-init : goal.loop-part-init
loop-part-init g c =
    let h = g.T.TryTurns.home c.args.turns.now in
    (c.requires.ready, refl, c.nothing_counted-gained.ensures.counts ∙ sym c.requires.counting, counts_nothing h (part_walk h (purpose_of c.args.asking) c.args.query.now) (is_share c.args.workers c.args.number) c.nothing_counted-gained.result (g.T.TryTurns.sees c.args.turns.now) c.nothing_counted-gained.ensures.none)

pub loop-part-preserved : goal.loop-part-preserved
loop-part-preserved g c =
    let h = g.T.TryTurns.home c.args.turns.now in
    let purpose = purpose_of c.args.asking in
    let before = g.T.TryTurns.sees c.args.turns.now in
    let now = g.T.TryTurns.sees c.loop-part.turns in
    let later = g.T.TryTurns.sees c.count_part.new.turns in
    let own = is_share c.args.workers c.args.number in
    let pass = subst (λ (home : Home). Follows now later (PassesCounting home (part_walk home purpose c.args.query.now) own c.loop-part.part c.loop-part.gained c.count_part.new.gained)) c.loop-part.invariant.1 c.in-Ok.ensures.done in (
      c.count_part.ensures.ready,
      c.count_part.ensures.same ∙ c.loop-part.invariant.1,
      c.count_part.ensures.purpose,
      counts_once h (part_walk h purpose c.args.query.now) own c.loop-part.gained c.count_part.new.gained c.loop-part.part before now later c.loop-part.invariant.3 pass,
    )

pub returns-in-Err-clause-refused : goal.returns-in-Err-clause-refused
returns-in-Err-clause-refused g c =
    let h = g.T.TryTurns.home c.args.turns.now in
    let purpose = purpose_of c.args.asking in
    let before = g.T.TryTurns.sees c.args.turns.now in
    let now = g.T.TryTurns.sees c.loop-part.turns in
    let later = g.T.TryTurns.sees c.count_part.new.turns in
    let own = is_share c.args.workers c.args.number in
    let inside : c.loop-part.part < h.options.parts = search rules in
    let ceases = subst (λ (home : Home). Follows now later (CeasesCounting home (part_walk home purpose c.args.query.now) own c.loop-part.part c.loop-part.gained c.count_part.new.gained)) c.loop-part.invariant.1 c.in-Err.ensures.refused in
    broken_off h (part_walk h purpose c.args.query.now) own c.loop-part.gained c.count_part.new.gained c.loop-part.part c.count.result before now later inside c.count.ensures c.loop-part.invariant.3 ceases

pub returns-clause-done : goal.returns-clause-done
returns-clause-done g c =
    let h = g.T.TryTurns.home c.args.turns.now in
    let purpose = purpose_of c.args.asking in
    let before = g.T.TryTurns.sees c.args.turns.now in
    let now = g.T.TryTurns.sees c.loop-part.turns in
    let own = is_share c.args.workers c.args.number in
    let end : c.loop-part.part ≡ h.options.parts = search rules in
    counted h (part_walk h purpose c.args.query.now) own c.loop-part.gained c.loop-part.part c.count-2.result before now end c.count-2.ensures c.loop-part.invariant.3
