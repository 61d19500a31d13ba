use Rattle.std.proofs.Common.{sym, subst, ap, ◌∙◌}
use Rattle.std.specs.Option.{option_copied}
use Rattle.term_core.specs.Limits.{depth, IsTerm}
use Rattle.term_build.proofs.RestLemmas.{rest_of-IsTerm, rest_of-slice, rest_of-past, rest_of-end, no_list-end, flat_left}
use Rattle.term_build.proofs.rest.depth_of_rest.Goals as goal

pub returns-in_default : goal.returns-in_default
returns-in_default g c =
    let whole = rest_of-end c.args.count c.args.term.now (no_list-end c.view.result c.args.term.now c.in_default.not-List c.view.ensures.value) in
    c.depth.ensures.value ∙ ap depth (sym whole)

pub depth_of_list-requires-clause-within : goal.depth_of_list-requires-clause-within
depth_of_list-requires-clause-within g c =
    let list = c.in-List in
    let slice = rest_of-slice c.args.count list.elements.now (option_copied list.tail) c.args.term.now list.ensures.split.1 list.ensures.value in
    subst IsTerm (sym slice) (rest_of-IsTerm c.args.count c.args.term.now c.view.ensures.within)

pub returns-then-count-elements : goal.returns-then-count-elements
returns-then-count-elements g c =
    let list = c.in-List in
    let slice = rest_of-slice c.args.count list.elements.now (option_copied list.tail) c.args.term.now list.ensures.split.1 list.ensures.value in
    c.depth_of_list.ensures ∙ ap depth slice

pub returns : goal.returns
returns g c =
    let list = c.in-List in
    let past = rest_of-past c.args.count list.elements.now (option_copied list.tail) c.args.term.now c.if-count-elements.false list.ensures.split.1 list.ensures.value in
    c.depth_of_tail.ensures ∙ ap depth past

pub returns-then-depth-eq-FLAT : goal.returns-then-depth-eq-FLAT
returns-then-depth-eq-FLAT g c =
    let list = c.in-List in
    flat_left c.args.count list.elements.now (option_copied list.tail) c.args.term.now c.if-count-elements.true list.ensures.split.1 list.ensures.value (sym c.depth-then-count-elements.ensures.value ∙ c.if-depth-eq-FLAT.true)
