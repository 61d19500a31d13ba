use Rattle.mspec_syntax.specs.Specification.{specification_variables}
use Rattle.compiler_clauses.specs.Clauses.{blocks_of}
use Rattle.compiler_clauses.proofs.WriteLemmas.{clause_writable, blocks_step, blocks_all}
use Rattle.compiler_clauses.proofs.blocks.write_blocks.Goals as goal

pub write_clause-requires : goal.write_clause-requires
write_clause-requires g c =
    let clauses = c.clauses-clause-items in
    clause_writable c.args.specification.now clauses.result.now c.variables-slots.result.now c.loop-clause.clause-index c.clause-item.result c.variables-slots.ensures clauses.ensures.value c.loop-clause-test.true c.clause-item.is clauses.ensures.sound clauses.ensures.limits

pub loop-clause-preserved : goal.loop-clause-preserved
loop-clause-preserved g c =
    let spec = c.args.specification.now in
    let vs = specification_variables spec in
    blocks_step vs c.variables-slots.result.now c.clauses-clause-items.result.now c.loop-clause.clause-index c.clause-item.result c.in_ok-write_clause.field-0 c.loop-clause.blocks.items c.push.new.self.items (blocks_of vs spec) c.loop-clause-test.true c.clause-item.is c.variables-slots.ensures c.in_ok-write_clause.ensures c.in_ok-push.ensures.items c.loop-clause.invariant

pub returns : goal.returns
returns g c =
    let spec = c.args.specification.now in
    let vs = specification_variables spec in
    blocks_all vs c.clauses-clause-items.result.now c.loop-clause.clause-index c.in_ok-write_end.field-0 c.loop-clause.blocks.items c.push-2.new.self.items (blocks_of vs spec) c.loop-clause-test.false c.in_ok-write_end.ensures c.in_ok-push-2.ensures.items c.loop-clause.invariant
