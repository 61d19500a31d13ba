use Rattle.std.proofs.Common.{sym}
use Rattle.term_core.proofs.PartLemmas.{shown-no_map}
use Rattle.term_core.proofs.view.View.is_map.Goals as goal

pub returns-in_default : goal.returns-in_default
returns-in_default g c = sym (shown-no_map _ c.requires c.in_default.not-Map)
