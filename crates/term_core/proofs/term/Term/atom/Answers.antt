use Rattle.std.proofs.Common.{sym, ◌∙◌, subst}
use Rattle.std.proofs.lemmas.Bool.{leb-true}
use Rattle.term_core.specs.Limits.{IsTerm}
use Rattle.term_core.proofs.TextLemmas.{chars-IsTerm}
use Rattle.term_core.proofs.term.Term.atom.Goals as goal

pub invariant_of-result : goal.invariant_of-result
invariant_of-result g c =
    let short = leb-true _ _ (sym c.is_within.ensures ∙ c.if-not-is_within.false) in
    (subst IsTerm (sym c.in-Ok.ensures.value) (chars-IsTerm c.args.text.now c.utf8.text short), c.in-Ok.ensures.kept)
