use Rattle.tool_query.proofs.OneLemmas.{output_once}
use Rattle.tool_query.proofs.laws.output_is_one.Goals as goal

pub returns : goal.returns
returns c =
    output_once c.a_text_spells_one_list.ensures c.one_specification_is_read.ensures c.one_answer_is_meant.ensures c.one_code.ensures c.budget_is_one.ensures c.depth_is_one.ensures
