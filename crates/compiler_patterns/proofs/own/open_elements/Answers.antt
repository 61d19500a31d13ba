use Rattle.std.proofs.Common.{◌≡◌, ℕ, ◌+◌, ◌-◌, true, drop, sym, ◌∙◌, subst, arith}
use Rattle.mspec_syntax.specs.Pattern.{cells_of}
use Rattle.mspec_syntax.specs.PatternView.{tail_pattern}
use Rattle.compiler_patterns.specs.Spelled.{spells}
use Rattle.compiler_patterns.proofs.WriteLemmas.{open-before, open-tail, rest-more}
use Rattle.compiler_patterns.proofs.own.open_elements.Goals as goal

pub returns-then-not-tail_spells-clause-before : goal.returns-then-not-tail_spells-clause-before
returns-then-not-tail_spells-clause-before g c =
    λ j h. open-tail c.args.elements.now (tail_pattern c.args.tail.now) j (sym c.tail_spells.ensures ∙ c.if-not-tail_spells.true)

pub returns-then-not-spells-clause-before : goal.returns-then-not-spells-clause-before
returns-then-not-spells-clause-before g c =
    λ j h. open-before c.args.elements.now (tail_pattern c.args.tail.now) (c.loop-place.place - 1) j c.index-elements-place.result (omega arith) c.index-elements-place.is (sym c.spells.ensures ∙ c.if-not-spells.true) h

pub loop-place-preserved : goal.loop-place-preserved
loop-place-preserved g c =
    let es = c.args.elements.now in
    let tail = tail_pattern c.args.tail.now in
    let i = c.loop-place.place - 1 in
    let next : c.loop-place.place ≡ i + 1 = omega arith in
    let Q : ℕ → Type 0 = λ n. spells (cells_of (drop n es) tail) ≡ true in
    rest-more es tail i c.index-elements-place.result (omega arith) c.index-elements-place.is (sym c.spells.ensures ∙ c.if-not-spells.false) (subst Q next c.loop-place.invariant)
