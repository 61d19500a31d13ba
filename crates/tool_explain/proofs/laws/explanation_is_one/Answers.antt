use Rattle.tool_explain.proofs.OneLemmas.{explanation_once}
use Rattle.tool_explain.proofs.laws.explanation_is_one.Goals as goal

pub returns : goal.returns
returns c =
    explanation_once c.a_text_spells_one_list.ensures c.one_specification_is_read.ensures c.one_code.ensures c.budget_is_one.ensures c.depth_is_one.ensures
