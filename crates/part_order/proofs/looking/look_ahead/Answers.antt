use Rattle.std.proofs.Common.{List, [], ◌∷◌, ◌++◌, take, ap, sym, ◌∙◌, arith}
use Rattle.std.specs.Iterator.Adapters.{take_source, take_count}
use Rattle.std.proofs.lemmas.List.{append-nil}
use Rattle.part_core.specs.Rows.{Row}
use Rattle.part_core.specs.Visits.{most_rows}
use Rattle.part_order.proofs.LookLemmas.{taken_more, none_taken}
use Rattle.part_order.proofs.looking.look_ahead.Goals as goal

pub loop-key-preserved : goal.loop-key-preserved
loop-key-preserved g c = (
  ap (λ (rows : List Row). rows ++ take (take_count c.next.new.self) (take_source c.next.new.self)) (c.push_reserved.ensures.items ∙ ap (λ (r : Row). c.loop-key.into.items ++ r ∷ []) c.new.ensures)
      ∙ taken_more c.loop-key.into.items (c.in-Some.key.now, c.in-Some.held.now) (take_count c.loop-key.key-iterator) (take_count c.next.new.self) (take_source c.loop-key.key-iterator) (take_source c.next.new.self) c.in-Some.ensures.steps.0 c.in-Some.ensures.steps.1
      ∙ c.loop-key.invariant.0,
  omega (arith, c.push_reserved.ensures.len, c.push_reserved.ensures.capacity, c.in-Some.ensures.steps.1, c.loop-key.invariant.1),
)

pub returns : goal.returns
returns g c =
    sym (append-nil c.loop-key.into.items)
    ∙ ap (λ (rows : List Row). c.loop-key.into.items ++ rows) (sym (none_taken (take_count c.loop-key.key-iterator) (take_source c.loop-key.key-iterator) (λ some. (c.in-None.ensures.steps some).0)))
    ∙ c.loop-key.invariant.0
    ∙ ap (λ (rows : List Row). rows ++ take (take_count c.into_iter-key-iterator.result) (take_source c.into_iter-key-iterator.result)) c.in_ok-reserve.ensures.items
    ∙ ap (λ (rows : List Row). c.args.into.now.items ++ rows)
    (ap (λ s. take (take_count s) (take_source s)) c.into_iter-key-iterator.ensures.into_iter_gives
    ∙ ap (λ n. take n (take_source c.take-key-items.result)) c.take-key-items.ensures.count
    ∙ ap (take most_rows) c.take-key-items.ensures.source)
