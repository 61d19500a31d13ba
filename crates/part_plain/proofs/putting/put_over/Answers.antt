use Rattle.std.proofs.Common.{ap, sym, ◌∙◌}
use Rattle.std.specs.Prelude.{if◌then◌else◌}
use Rattle.part_rows.specs.declared.put.Put.TheVariants.{Kept, Done}
use Rattle.part_plain.proofs.PutLemmas.{put_new, put_dead, put_live}
use Rattle.part_plain.proofs.putting.put_over.Goals as goal

pub returns-then-before-rows : goal.returns-then-before-rows
returns-then-before-rows g c = λ key old is at count.
    put_new key old c.args.rows.now c.args.before c.args.replaces is count c.if-before-rows.true

pub returns-then-not-is_live : goal.returns-then-not-is_live
returns-then-not-is_live g c = λ key old is at count.
    put_dead key old c.args.rows.now c.args.place c.args.before c.index-rows-place.result c.args.replaces is at c.index-rows-place.is count c.if-before-rows.false (sym c.is_live.ensures ∙ c.if-not-is_live.true)

pub returns-then-replaces : goal.returns-then-replaces
returns-then-replaces g c = λ key old is at count.
    ap (λ b. if b then Done else Kept) (sym c.if-replaces.true)
    ∙ put_live key old c.args.rows.now c.args.place c.args.before c.index-rows-place.result c.args.replaces is at c.index-rows-place.is count c.if-before-rows.false (sym c.is_live.ensures ∙ c.if-not-is_live.false)

pub returns-else-replaces : goal.returns-else-replaces
returns-else-replaces g c = λ key old is at count.
    ap (λ b. if b then Done else Kept) (sym c.if-replaces.false)
    ∙ put_live key old c.args.rows.now c.args.place c.args.before c.index-rows-place.result c.args.replaces is at c.index-rows-place.is count c.if-before-rows.false (sym c.is_live.ensures ∙ c.if-not-is_live.false)
