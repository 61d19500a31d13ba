use Rattle.std.proofs.Common.{ℕ, ◌≡◌, ◌+◌, ◌<◌, ◌∙◌, rules, arith, length, ap, sym, subst, Some, get_or}
use Rattle.std.proofs.lemmas.Option.{slice_get-get_or}
use Rattle.tables.proofs.ObjectLemmas.{Gathered, gathered_more}
use Rattle.tables.proofs.local.LocalTable.objects.Goals as goal

pub loop-part-preserved : goal.loop-part-preserved
loop-part-preserved g c =
    let part = g.P.Part in
    let table = c.args.self.now in
    let inside : c.loop-part.part-index < length table.parts.items = omega (arith, ap length c.deref-part-items.ensures.value, c.loop-part-test.true) in
    let item : get_or table.parts.items c.loop-part.part-index c.part-item.result ≡ c.part-item.result = ap (λ xs. get_or xs c.loop-part.part-index c.part-item.result) (sym c.deref-part-items.ensures.value) ∙ search rules in
    subst (Gathered part.is_after table.options table.parts.items (c.loop-part.part-index + 1)) (sym c.in_ok-append.ensures.items)
    (gathered_more part.settings part.is_after table.options table.parts.items c.loop-part.part-index c.part-item.result c.loop-part.objects.items c.in_ok-more.more.items
    (slice_get-get_or table.parts.items c.loop-part.part-index c.part-item.result inside ∙ ap Some item) table.same c.in_ok-more.ensures c.loop-part.invariant)

pub returns : goal.returns
returns g c =
    let table = c.args.self.now in
    let whole : c.loop-part.part-index ≡ table.options.parts = omega (arith, ap length c.deref-part-items.ensures.value, table.count, c.loop-part-test.false, c.loop-part.auto.part-index-end) in
    subst (λ (n : ℕ). Gathered g.P.Part.is_after table.options table.parts.items n c.loop-part.objects.items) whole c.loop-part.invariant
