use Rattle.std.proofs.Common.{[], inl}
use Rattle.tool_script.specs.Script.{beginning}
use Rattle.tool_script.proofs.ScriptShellLemmas.{script_answers}
use Rattle.tool_script.proofs.laws.a_script_is_a_shell.Goals as goal

pub returns : goal.returns
returns c = λ input out terms spells unbroken answered.
    script_answers c.a_text_spells_one_list.ensures c.a_text_has_one_fault.ensures beginning answered.0 [] input out terms (inl tt) spells unbroken answered.1
