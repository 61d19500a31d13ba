use Rattle.std.proofs.Common.{refl, sym, subst}
use Rattle.term_core.proofs.LimitLemmas.{binary-IsTerm}
use Rattle.term_core.specs.Limits.{IsTerm}
use Rattle.term_core.proofs.term.Term.binary.Goals as goal

pub invariant_of-result : goal.invariant_of-result
invariant_of-result g c =
    (subst IsTerm (sym c.in-Ok.ensures.value) (binary-IsTerm _ _ refl (rw (← c.byte_count.ensures.count) c.if-byte_count-gt-MAX_BINARY.false) c.byte_count.ensures.sound), c.in-Ok.ensures.kept)
