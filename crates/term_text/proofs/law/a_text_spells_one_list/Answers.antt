use Rattle.term_text.proofs.Publics.{spelled_once}
use Rattle.term_text.proofs.law.a_text_spells_one_list.Goals as goal

pub returns : goal.returns
returns c = λ bytes ds es h k. spelled_once bytes ds es h k
