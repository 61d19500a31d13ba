use Rattle.std.proofs.Common.{Option, subst}
use Rattle.term_core.specs.Datum.{Datum}
use Rattle.walk_laws.proofs.KeyLemmas.{contains_it}
use Rattle.walk_laws.proofs.TourLemmas.{IsWhere, toured}
use Rattle.walk_laws.proofs.laws.tours_meet_who_stayed.Goals as goal

pub returns : goal.returns
returns c = λ h t k tour steady ended stayed.
    contains_it t.keys k (subst (λ (last : Option Datum). IsWhere h t.calls t.keys t.views last) ended (toured h t tour steady).1 k stayed)
