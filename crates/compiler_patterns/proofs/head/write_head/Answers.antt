use Rattle.std.proofs.Common.{◌++◌, sym, ◌∙◌, ap, subst}
use Rattle.std.proofs.lemmas.Result.{on_ok_weaker}
use Rattle.compiler_patterns.specs.Writable.{IsWritable}
use Rattle.compiler_patterns.proofs.WriteLemmas.{head-none, head-written}
use Rattle.compiler_patterns.proofs.head.write_head.Goals as goal

pub returns-then-is_anything : goal.returns-then-is_anything
returns-then-is_anything g c =
    ap (λ l. l ++ c.args.lines.now) (sym (head-none c.args.slots.now c.args.head.now (sym c.is_anything.ensures ∙ c.if-is_anything.true)))

pub write_pattern-requires : goal.write_pattern-requires
write_pattern-requires g c =
    subst (λ s. IsWritable s c.args.head.now) (sym c.new-writer.ensures)
    (record { slotted = c.requires.bound; sound = c.requires.sound; small = c.requires.size })

pub returns : goal.returns
returns g c =
    on_ok_weaker c.prepend_to.result
    (head-written c.new-writer.result c.args.slots.now c.args.head.now c.len.result c.in_ok-draft.draft c.put.new.self c.write_pattern.new.draft c.args.lines.now c.prepend_to.new.lines c.new-writer.ensures c.len.ensures c.in_ok-draft.ensures (sym c.is_anything.ensures ∙ c.if-is_anything.false) c.in_ok-put.ensures c.in_ok-write_pattern.ensures)
    c.prepend_to.ensures
