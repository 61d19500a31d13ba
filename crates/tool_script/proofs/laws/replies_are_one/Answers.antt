use Rattle.tool_script.proofs.ReplyLemmas.{replies_one}
use Rattle.tool_script.proofs.laws.replies_are_one.Goals as goal

pub returns : goal.returns
returns c =
    replies_one c.one_specification_is_read.ensures c.one_fault_is_refused.ensures.read c.one_fault_is_refused.ensures.fault c.one_answer_is_meant.ensures c.plans_are_one.ensures
