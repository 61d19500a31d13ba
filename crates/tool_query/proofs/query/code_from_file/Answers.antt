use Rattle.tool_query.proofs.QueryLemmas.{loaded_answers, loads_alone}
use Rattle.tool_query.proofs.query.code_from_file.Goals as goal

pub returns-in-Ok-load-clause-ok : goal.returns-in-Ok-load-clause-ok
returns-in-Ok-load-clause-ok g c =
    let loaded = rw c.as_slice.ensures.value at c.in-Ok-load.ensures.ok in
    loaded_answers c.one_code.ensures c.runs_end_with_the_answer.ensures c.args.specification.now c.in-Ok.file.items c.in-Ok-load.code c.in-Ok.ensures loaded

pub unreachable-requires : goal.unreachable-requires
unreachable-requires g c =
    let refused = rw c.as_slice.ensures.value at c.in-Err.ensures.refused in
    c.in_default-fault.not-Memory (loads_alone c.one_code.ensures c.faulty_code_is_untyped.ensures c.args.specification.now c.in-Ok.file.items c.in-Err.fault c.in-Ok.ensures refused)
