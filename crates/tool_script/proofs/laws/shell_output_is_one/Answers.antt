use Rattle.tool_script.proofs.OutputLemmas.{goes_once}
use Rattle.tool_script.proofs.ReplyLemmas.{replied_once}
use Rattle.tool_script.proofs.laws.shell_output_is_one.Goals as goal

pub returns : goal.returns
returns c =
    let replied = replied_once c.one_specification_is_read.ensures c.one_fault_is_refused.ensures.read c.one_fault_is_refused.ensures.fault c.one_answer_is_meant.ensures c.plans_are_one.ensures in
    λ st p q begun input a b first second. goes_once replied c.a_text_spells_one_list.ensures c.a_text_has_one_fault.ensures st p q begun input a b first second
