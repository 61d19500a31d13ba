use Rattle.std.proofs.Common.{◌<◌, ◌∙◌, refl, ap, sym, subst, arith}
use Rattle.std.proofs.Math.Logic.{∥∥₁_map}
use Rattle.std.proofs.lemmas.Bool.{lt-ltb}
use Rattle.part_core.specs.Replies.{most_fixes}
use Rattle.part_core.specs.Settings.{is_ordered}
use Rattle.tables.specs.declared.options.Options.{Options}
use Rattle.walks.proofs.OwnLemmas.{none_yet, count_yet, none_fixed, none_of_ordered}
use Rattle.walks.proofs.own.fix_own.Goals as goal

pub returns-then-is_ordered-clause-done : goal.returns-then-is_ordered-clause-done
returns-then-is_ordered-clause-done g c =
    let h = g.T.TryTurns.home c.args.turns.now in
    none_of_ordered h c.none_own-own.result (g.T.TryTurns.sees c.args.turns.now)
    (ap (λ (o : Options). is_ordered o.kind) (sym c.options-options.ensures) ∙ sym c.is_ordered.ensures ∙ c.if-is_ordered.true) (none_yet 256 c.none_own-own.result c.none_own-own.ensures)

pub loop-part-init : goal.loop-part-init
loop-part-init g c =
    let h = g.T.TryTurns.home c.args.turns.now in
    (c.requires, refl, count_yet 256 c.none_own-own.result c.none_own-own.ensures, λ k above. none_yet 256 c.none_own-own.result c.none_own-own.ensures k, none_fixed h c.none_own-own.result (g.T.TryTurns.sees c.args.turns.now))

pub fix_at-requires-clause-granted : goal.fix_at-requires-clause-granted
fix_at-requires-clause-granted g c =
    ∥∥₁_map (g.met.T.TryTurns.seen c.loop-part.turns c.loop-part.invariant.0) (λ s. (s.0, s.1, lt-ltb _ most_fixes (subst (λ (n : _). n < most_fixes) (sym c.if-fixes-eq0.true ∙ c.fixes.ensures s.0 s.1) (omega arith))))
