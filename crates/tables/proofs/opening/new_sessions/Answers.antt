use Rattle.std.proofs.Common.{◌+◌, [], length, ap, subst, sym, ◌∙◌, refl}
use Rattle.std.proofs.lemmas.List.{length-append}
use Rattle.tables.specs.Opened.{AreDealt}
use Rattle.tables.proofs.OpeningLemmas.{session_more}
use Rattle.tables.proofs.opening.new_sessions.Goals as goal

pub loop-number-preserved : goal.loop-number-preserved
loop-number-preserved g c = (
  ap length c.in-Ok.ensures.items ∙ length-append c.loop-number.sessions.items _ ∙ ap (λ n. n + 1) c.loop-number.invariant.0,
  (λ o. subst (AreDealt o []) (sym c.in-Ok.ensures.items)
      (session_more o c.loop-number.sessions.items c.loop-number.number _ c.loop-number.invariant.0 refl c.new.ensures.items (c.loop-number.invariant.1 o))),
)
