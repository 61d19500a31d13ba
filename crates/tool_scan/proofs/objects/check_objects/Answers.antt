use Rattle.std.proofs.Common.{refl, subst}
use Rattle.std.specs.Prelude.{All}
use Rattle.std.proofs.lemmas.List.{take_all}
use Rattle.std.proofs.lemmas.List.Elements.{All-more}
use Rattle.tool_scan.specs.Options.{IsFit}
use Rattle.tool_scan.proofs.objects.check_objects.Goals as goal

pub loop-term-preserved : goal.loop-term-preserved
loop-term-preserved g c =
    let found = rw c.in-Some.is at c.key_in.ensures in
    let here : IsFit c.args.options c.term-item.result = rw found refl in
    All-more (IsFit c.args.options) c.args.terms.now c.loop-term.term-index c.term-item.result c.loop-term-test.true c.loop-term.invariant
    (subst (IsFit c.args.options) c.term-item.is here)

pub returns-clause-ok : goal.returns-clause-ok
returns-clause-ok g c = subst (λ ts. All (IsFit c.args.options) ts) (take_all c.loop-term.term-index c.args.terms.now c.loop-term-test.false) c.loop-term.invariant
