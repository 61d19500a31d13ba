use Rattle.parallel_select.proofs.selecting.count_parts.Goals as goal

pub returns-in-Err-clause-refused : goal.returns-in-Err-clause-refused
returns-in-Err-clause-refused g c other = (c.in-Err.refused.value, c.in-Err.ensures.refused other)
