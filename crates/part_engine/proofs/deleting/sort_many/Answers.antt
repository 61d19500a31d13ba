use Rattle.std.proofs.Common.{rules, ◌≡◌, ◌++◌, List, [], ◌∷◌, length, sym, ap, ◌∙◌}
use Rattle.std.specs.Prelude.{filter, not}
use Rattle.std.proofs.lemmas.List.{append-nil}
use Rattle.term_core.specs.Datum.{Datum}
use Rattle.part_core.specs.Visits.{is_true}
use Rattle.part_engine.proofs.ObjectLemmas.{kept_few, left_none, left_some, others_go}
use Rattle.part_engine.proofs.deleting.sort_many.Goals as goal

pub overflow_sub-count : goal.overflow_sub-count
overflow_sub-count g c =
    let kept : c.keep_others.new.kept.items ≡ filter (λ t. not (is_true c.args.machine.now.code t)) c.args.objects.now = c.in_ok-keep_others.ensures.kept ∙ ap (λ (os : List Datum). os ++ filter (λ t. not (is_true c.args.machine.now.code t)) c.args.objects.now) c.new-kept.ensures.items in
    let count : c.len.result ≡ length c.keep_others.new.kept.items = search rules in
    kept_few c.args.machine.now.code c.args.objects.now c.keep_others.new.kept.items c.len.result kept count

pub returns-then-count-eq0-clause-left : goal.returns-then-count-eq0-clause-left
returns-then-count-eq0-clause-left g c =
    let kept : c.keep_others.new.kept.items ≡ filter (λ t. not (is_true c.args.machine.now.code t)) c.args.objects.now = c.in_ok-keep_others.ensures.kept ∙ ap (λ (os : List Datum). os ++ filter (λ t. not (is_true c.args.machine.now.code t)) c.args.objects.now) c.new-kept.ensures.items in
    let count : c.len.result ≡ length c.keep_others.new.kept.items = search rules in
    let none = left_none c.args.machine.now.code c.args.key.now c.args.objects.now (sym (others_go c.args.machine.now.code c.args.objects.now c.keep_others.new.kept.items c.len.result kept count) ∙ c.if-count-eq0.true) in
    sym (ap (λ rs. c.args.left.now.items ++ rs) none ∙ append-nil c.args.left.now.items)

pub returns-then-count-eq0-clause-count : goal.returns-then-count-eq0-clause-count
returns-then-count-eq0-clause-count g c =
    let kept : c.keep_others.new.kept.items ≡ filter (λ t. not (is_true c.args.machine.now.code t)) c.args.objects.now = c.in_ok-keep_others.ensures.kept ∙ ap (λ (os : List Datum). os ++ filter (λ t. not (is_true c.args.machine.now.code t)) c.args.objects.now) c.new-kept.ensures.items in
    let count : c.len.result ≡ length c.keep_others.new.kept.items = search rules in
    sym c.if-count-eq0.true
    ∙ others_go c.args.machine.now.code c.args.objects.now c.keep_others.new.kept.items c.len.result kept count

pub returns-clause-left : goal.returns-clause-left
returns-clause-left g c =
    let kept : c.keep_others.new.kept.items ≡ filter (λ t. not (is_true c.args.machine.now.code t)) c.args.objects.now = c.in_ok-keep_others.ensures.kept ∙ ap (λ (os : List Datum). os ++ filter (λ t. not (is_true c.args.machine.now.code t)) c.args.objects.now) c.new-kept.ensures.items in
    let count : c.len.result ≡ length c.keep_others.new.kept.items = search rules in
    let some = left_some c.args.machine.now.code c.args.key.now c.args.objects.now (λ none. c.if-count-eq0.false (others_go c.args.machine.now.code c.args.objects.now c.keep_others.new.kept.items c.len.result kept count ∙ none)) in
    c.in_ok-push.ensures.items
    ∙ ap (λ k. c.args.left.now.items ++ (k, c.in_ok-held.held) ∷ []) c.in_ok-key.ensures
    ∙ ap (λ (os : List Datum). c.args.left.now.items ++ (c.args.key.now, os) ∷ []) (c.in_ok-held.ensures ∙ kept)
    ∙ sym (ap (λ rs. c.args.left.now.items ++ rs) some)

pub returns-clause-count : goal.returns-clause-count
returns-clause-count g c =
    let kept : c.keep_others.new.kept.items ≡ filter (λ t. not (is_true c.args.machine.now.code t)) c.args.objects.now = c.in_ok-keep_others.ensures.kept ∙ ap (λ (os : List Datum). os ++ filter (λ t. not (is_true c.args.machine.now.code t)) c.args.objects.now) c.new-kept.ensures.items in
    let count : c.len.result ≡ length c.keep_others.new.kept.items = search rules in
    others_go c.args.machine.now.code c.args.objects.now c.keep_others.new.kept.items c.len.result kept count
