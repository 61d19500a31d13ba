use Rattle.compiler_clauses.proofs.VariableLemmas.{head_inside}
use Rattle.compiler_clauses.proofs.WriteLemmas.{parts_sound}
use Rattle.compiler_clauses.proofs.clause.write_lines.Goals as goal

pub write_body-requires-clause-sound : goal.write_body-requires-clause-sound
write_body-requires-clause-sound g c =
    let clause = c.args.clause.now in
    parts_sound c.site_of-body.result c.args.slots.now clause _ c.body.result.now clause.body c.site_of-body.ensures.value c.body.ensures c.requires.sound.body

pub write_conditions-requires-clause-sound : goal.write_conditions-requires-clause-sound
write_conditions-requires-clause-sound g c =
    let clause = c.args.clause.now in
    parts_sound c.site_of-conditions.result c.args.slots.now clause _ c.conditions.result.now clause.conditions c.site_of-conditions.ensures.value c.conditions.ensures c.requires.sound.conditions

pub write_head-requires-clause-bound : goal.write_head-requires-clause-bound
write_head-requires-clause-bound g c =
    rw c.head.ensures (head_inside c.args.slots.now c.args.clause.now c.requires.among)
