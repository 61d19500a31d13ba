use Rattle.std.proofs.Common.{ℕ, List, [], flat_map, refl}
use Rattle.term_core.specs.Datum.{Datum}
use Rattle.tool_script.specs.Script.{beginning}
use Rattle.tool_script.proofs.AnswerLemmas.{lines_replied}
use Rattle.tool_script.proofs.laws.lines_are_a_script.Goals as goal

pub returns : goal.returns
returns c = λ rows out are answered.
    lines_replied c.a_text_spells_one_list.ensures beginning answered.0 rows (flat_map (λ (row : List ℕ × List Datum). row.0) rows) out [] refl refl are answered.1
