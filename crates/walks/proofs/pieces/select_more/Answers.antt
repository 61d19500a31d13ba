use Rattle.std.proofs.Common.{refl, sym, ap, ◌∙◌}
use Rattle.std.proofs.lemmas.Result.{IfErr-weaker}
use Rattle.walks.proofs.pieces.select_more.Goals as goal

pub returns-clause-foreign : goal.returns-clause-foreign
returns-clause-foreign g c = IfErr-weaker c.select_next.result _ _ (λ refused foreign other. let f = foreign other in (f.0, λ own. f.1)) c.select_next.ensures.foreign

pub returns-then-not-is_own-clause-foreign : goal.returns-then-not-is_own-clause-foreign
returns-then-not-is_own-clause-foreign g c other = (
  refl,
  λ own v seen at. c.if-not-is_own.ensures (own.0 ∙ sym (ap (λ o. o.name) c.options.ensures), own.1 ∙ sym c.number.ensures),
)

pub returns-clause-stranger : goal.returns-clause-stranger
returns-clause-stranger g c foreign =
    absurd (foreign (c.if-not-is_own.ensures.0 ∙ ap (λ o. o.name) c.options.ensures, c.if-not-is_own.ensures.1 ∙ c.number.ensures))
