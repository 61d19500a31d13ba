use Rattle.std.proofs.Common.{◌∙◌}
use Rattle.std.specs.Option.{option_copied}
use Rattle.term_core.specs.Datum.Datum.{tuple, map}
use Rattle.term_core.specs.Datum.{items_of, entries_of}
use Rattle.term_build.proofs.RestLemmas.{rest_of-IsTerm, rest_of-slice, rest_of-past, rest_of-shown}
use Rattle.term_build.proofs.rest.view_rest.Goals as goal

pub returns-then-count-elements-clause-value : goal.returns-then-count-elements-clause-value
returns-then-count-elements-clause-value g c =
    let list = c.in-List in
    rest_of-slice c.args.count list.elements.now (option_copied list.tail) c.args.term.now list.ensures.split.1 list.ensures.value

pub returns-in-Some-clause-value : goal.returns-in-Some-clause-value
returns-in-Some-clause-value g c =
    let list = c.in-List in
    let past = rest_of-past c.args.count list.elements.now (option_copied list.tail) c.args.term.now c.if-count-elements.false list.ensures.split.1 list.ensures.value in
    let past = rw c.in-Some.is at past in
    c.view-in-Some.ensures.value ∙ past

pub returns-in-None-clause-value : goal.returns-in-None-clause-value
returns-in-None-clause-value g c =
    let list = c.in-List in
    let past = rest_of-past c.args.count list.elements.now (option_copied list.tail) c.args.term.now c.if-count-elements.false list.ensures.split.1 list.ensures.value in
    let past = rw c.in-None.is at past in
    past

pub returns-in-Tuple-clause-value : goal.returns-in-Tuple-clause-value
returns-in-Tuple-clause-value g c = rest_of-shown c.args.count (tuple (items_of c.in-Tuple.elements.now)) c.args.term.now tt c.in-Tuple.ensures.value

pub returns-in-Map-clause-value : goal.returns-in-Map-clause-value
returns-in-Map-clause-value g c = rest_of-shown c.args.count (map (entries_of c.in-Map.pairs.now)) c.args.term.now tt c.in-Map.ensures.value

pub returns-then-count-elements-clause-term : goal.returns-then-count-elements-clause-term
returns-then-count-elements-clause-term g c = rest_of-IsTerm c.args.count c.args.term.now c.view.ensures.within

pub returns-in-Some-clause-term : goal.returns-in-Some-clause-term
returns-in-Some-clause-term g c = rest_of-IsTerm c.args.count c.args.term.now c.view.ensures.within

pub returns-in-None-clause-term : goal.returns-in-None-clause-term
returns-in-None-clause-term g c = rest_of-IsTerm c.args.count c.args.term.now c.view.ensures.within

pub returns-in-Tuple-clause-term : goal.returns-in-Tuple-clause-term
returns-in-Tuple-clause-term g c = rest_of-IsTerm c.args.count c.args.term.now c.view.ensures.within

pub returns-in-Map-clause-term : goal.returns-in-Map-clause-term
returns-in-Map-clause-term g c = rest_of-IsTerm c.args.count c.args.term.now c.view.ensures.within
