use Rattle.std.proofs.Common.{sym, ap, ◌∙◌, ◌++◌, List, ℕ, rules}
use Rattle.term_core.specs.Datum.{cells}
use Rattle.term_core.specs.Datum.Datum.{nil}
use Rattle.term_text.specs.Canonical.{codes_of}
use Rattle.term_text.proofs.Bytes.{marked, next_code, past_codes, onto}
use Rattle.term_text.proofs.write.put_string.Goals as goal

pub loop-element-preserved : goal.loop-element-preserved
loop-element-preserved g c =
    let n = next_code _ c.loop-element.element-index c.element-item.result c.loop-element-test.true c.element-item.is c.loop-element.invariant.1 in
    (search rules, n.1, onto _ _ _ _ c.in_ok-put_code.ensures.items ∙ ap (λ (x : List ℕ). c.loop-element.out.items ++ x) (sym n.2) ∙ c.loop-element.invariant.2)

pub returns-clause-items : goal.returns-clause-items
returns-clause-items g c = marked _ (codes_of (cells c.args.elements.now nil)) _ _ _ c.loop-element.invariant.2 (past_codes _ c.loop-element.element-index c.loop-element-test.false) c.in_ok-push-2.ensures.items

pub put_code-requires : goal.put_code-requires
put_code-requires g c =
    (next_code _ c.loop-element.element-index c.element-item.result c.loop-element-test.true c.element-item.is c.loop-element.invariant.1).0
