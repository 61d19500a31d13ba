use Rattle.std.proofs.Common.{◌≡◌, ◌+◌, ◌<◌, ◌≤◌, ◌∙◌, ◌++◌, ◌∷◌, [], List, length, map, vec_items, refl, ap, sym, subst, arith, rules}
use Rattle.std.proofs.lemmas.List.{length-append, map-append}
use Rattle.term_core.specs.Datum.{Datum}
use Rattle.part_core.specs.Acts.Purpose.{Answers}
use Rattle.tables.specs.declared.options.Options.{Options}
use Rattle.tables.specs.Turns.{Home, Follows}
use Rattle.parallel_select.specs.Parts.{part_walk, is_share, answers_of, Passes, CeasesAt, Works}
use Rattle.parallel_select.proofs.WorkLemmas.{works_nothing, works_once, works_until, broken_at_once}
use Rattle.parallel_select.proofs.worker.answer_parts.Goals as goal

pub returns-in_default-clause-refused : goal.returns-in_default-clause-refused
returns-in_default-clause-refused g c =
    let h = g.T.TryTurns.home c.args.turns.now in
    broken_at_once h (part_walk h Answers c.args.query.now) (is_share c.args.workers c.args.number) (g.T.TryTurns.sees c.args.turns.now)

pub loop-part-init : goal.loop-part-init
loop-part-init g c =
    let h = g.T.TryTurns.home c.args.turns.now in
    let none : c.in-Ok.lists.items ≡ [] = search rules in
    let room : h.options.parts ≤ c.in-Ok.lists.cap = search rules in
    (c.requires.ready, refl, search rules, room, ap (λ (ls : List _). length (map vec_items ls)) none, works_nothing h (part_walk h Answers c.args.query.now) (is_share c.args.workers c.args.number) (answers_of (map vec_items c.in-Ok.lists.items)) (g.T.TryTurns.sees c.args.turns.now))

pub returns-in-Err-clause-refused : goal.returns-in-Err-clause-refused
returns-in-Err-clause-refused g c =
    let h = g.T.TryTurns.home c.args.turns.now in
    let before = g.T.TryTurns.sees c.args.turns.now in
    let now = g.T.TryTurns.sees c.loop-part.turns in
    let later = g.T.TryTurns.sees c.answer_part.new.turns in
    let own = is_share c.args.workers c.args.number in
    let inside : c.loop-part.part < h.options.parts = omega (arith, c.loop-part-test.true, ap (λ (o : Options). o.parts) c.options-parts.ensures) in
    let ceases = subst (λ (home : Home). Follows now later (λ v u. (found : List Datum) × CeasesAt home (part_walk home Answers c.args.query.now) own c.loop-part.part found v u)) c.loop-part.invariant.1 c.in-Err.ensures.refused in
    works_until h (part_walk h Answers c.args.query.now) own (map vec_items c.loop-part.lists.items) c.loop-part.part before now later c.loop-part.invariant.4 inside c.loop-part.invariant.5 ceases

pub loop-part-preserved : goal.loop-part-preserved
loop-part-preserved g c =
    let h = g.T.TryTurns.home c.args.turns.now in
    let before = g.T.TryTurns.sees c.args.turns.now in
    let now = g.T.TryTurns.sees c.loop-part.turns in
    let later = g.T.TryTurns.sees c.answer_part.new.turns in
    let own = is_share c.args.workers c.args.number in
    let walk = part_walk h Answers c.args.query.now in
    let xs = map vec_items c.loop-part.lists.items in
    let ys = c.in-Ok-answer_part.answers.items in
    let pass = subst (λ (home : Home). Follows now later (Passes home (part_walk home Answers c.args.query.now) own c.loop-part.part ys)) c.loop-part.invariant.1 c.in-Ok-answer_part.ensures.done in
    let lists : map vec_items c.push_reserved.new.self.items ≡ xs ++ ys ∷ [] = ap (map vec_items) c.push_reserved.ensures.items ∙ map-append vec_items c.loop-part.lists.items (c.in-Ok-answer_part.answers ∷ []) in
    let long = length-append xs (ys ∷ []) in (
      c.answer_part.ensures.ready,
      c.answer_part.ensures.same ∙ c.loop-part.invariant.1,
      search rules,
      search rules,
      ap length lists ∙ omega (arith, long, c.loop-part.invariant.4),
      subst (λ (zs : List (List Datum)). Follows before later (λ v u. Works h walk own (answers_of zs) v (c.loop-part.part + 1) u)) (sym lists)
          (works_once h walk own xs ys c.loop-part.part before now later c.loop-part.invariant.4 c.loop-part.invariant.5 pass),
    )
