use Rattle.std.proofs.Common.{◌<◌, ◌∙◌, sym, subst, arith}
use Rattle.std.proofs.Math.Logic.{∥∥₁_map}
use Rattle.std.proofs.lemmas.Bool.{lt-ltb}
use Rattle.part_core.specs.Replies.{most_fixes}
use Rattle.tests_walks.proofs.plays.fix_below.Goals as goal

pub fix_at-requires-clause-granted : goal.fix_at-requires-clause-granted
fix_at-requires-clause-granted g c =
    ∥∥₁_map (g.met.T.TryTurns.seen c.loop-part.session c.loop-part.invariant.0) (λ s. (s.0, s.1, lt-ltb _ most_fixes (subst (λ (n : _). n < most_fixes) (sym c.if-fixes-eq0.true ∙ c.fixes.ensures s.0 s.1) (omega arith))))
