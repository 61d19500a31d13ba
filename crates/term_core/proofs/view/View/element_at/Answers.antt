use Rattle.term_core.proofs.PartLemmas.{shown-no_field}
use Rattle.term_core.proofs.view.View.element_at.Goals as goal

pub returns-in_default : goal.returns-in_default
returns-in_default g c = shown-no_field _ _ c.requires c.in_default.not-Tuple
