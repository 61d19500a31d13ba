use Rattle.std.proofs.Common.{◌∙◌, sym, subst}
use Rattle.std.proofs.lemmas.Result.{IfOk-weaker}
use Rattle.std.specs.Option.{option_copied}
use Rattle.term_core.specs.Limits.{IsTerm}
use Rattle.term_build.proofs.RestLemmas.{rest_of-IsTerm, rest_of-slice, rest_of-past, rest_of-end, no_list-end}
use Rattle.term_build.proofs.rest.copy_rest.Goals as goal

pub returns-in_default : goal.returns-in_default
returns-in_default g c =
    let whole = rest_of-end c.args.count c.args.term.now (no_list-end c.view.result c.args.term.now c.in_default.not-List c.view.ensures.value) in
    IfOk-weaker c.copy.result _ _ (λ t is. is ∙ sym whole) c.copy.ensures

pub copy_list-requires : goal.copy_list-requires
copy_list-requires g c =
    let list = c.in-List in
    let slice = rest_of-slice c.args.count list.elements.now (option_copied list.tail) c.args.term.now list.ensures.split.1 list.ensures.value in
    subst IsTerm (sym slice) (rest_of-IsTerm c.args.count c.args.term.now c.view.ensures.within)

pub returns-in-None : goal.returns-in-None
returns-in-None g c =
    let list = c.in-List in
    let slice = rest_of-slice c.args.count list.elements.now (option_copied list.tail) c.args.term.now list.ensures.split.1 list.ensures.value in
    IfOk-weaker c.copy_list.result _ _ (λ t is. is ∙ slice) c.copy_list.ensures

pub returns-in-Some-tail : goal.returns-in-Some-tail
returns-in-Some-tail g c =
    let list = c.in-List in
    let past = rest_of-past c.args.count list.elements.now (option_copied list.tail) c.args.term.now c.if-count-elements.false list.ensures.split.1 list.ensures.value in
    let past = rw c.in-Some-tail.is at past in
    IfOk-weaker c.copy-in-Some-tail.result _ _ (λ t is. is ∙ past) c.copy-in-Some-tail.ensures

pub returns-in-None-tail : goal.returns-in-None-tail
returns-in-None-tail g c =
    let list = c.in-List in
    let past = rest_of-past c.args.count list.elements.now (option_copied list.tail) c.args.term.now c.if-count-elements.false list.ensures.split.1 list.ensures.value in
    let past = rw c.in-None-tail.is at past in
    c.nil.ensures ∙ past
