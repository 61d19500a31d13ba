use Rattle.std.proofs.Common.{sym, subst}
use Rattle.term_core.proofs.MapLemmas.{map-IsTerm}
use Rattle.term_core.specs.Limits.{IsTerm}
use Rattle.term_core.proofs.term.Term.from_rising.Goals as goal

pub invariant_of-result : goal.invariant_of-result
invariant_of-result g c =
    let whole = map-IsTerm c.args.depth c.args.pairs.items c.requires.within c.requires.rising in
    (subst IsTerm (sym c.in_ok-shape.ensures.value) whole.0, c.in_ok-shape.ensures.kept)
