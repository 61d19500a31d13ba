-- Walks that count or delete and go on.
use Rattle.std.proofs.Common.{ℕ, ◌≡◌, ◌≢◌, ◌+◌, refl, subst, Err}
use Rattle.std.specs.Prelude.{min}
use Rattle.part_core.specs.Acts.{Purpose}
use Rattle.part_core.specs.Replies.{most_counted}
use Rattle.part_core.specs.declared.fault.Fault.{Fault}
use Rattle.part_core.specs.declared.fault.Fault.TheVariants as fault
use Rattle.tables.specs.Turns.{Follows}
use Rattle.tables.specs.declared.brief.Halt.{Halt}
use Rattle.tables.specs.declared.brief.Halt.TheVariants as halt
use Rattle.walk_core.specs.Counting.{purpose_of}
use Rattle.walk_core.specs.Positions.{position_of}
use Rattle.walk_core.specs.Walk.{Position}
use Rattle.walk_core.specs.Walk.Position.{Over}
use Rattle.walk_query.specs.declared.query.Query.{Query}
use Rattle.walks.specs.Asked.{IsForeign, StopsTallying, TalliesTo}
use Rattle.walks.specs.Query.{IsWithin}
use Rattle.table_sessions.specs.Own.{Does, SeenBy, home_by, home_of}
use Rattle.table_sessions.specs.declared.own.OwnSession.{OwnSession}
use Rattle.host_session.specs.Going.{TalliesOn}
use Rattle.host_session.specs.Stops.{visit_of}
use Rattle.host_session.specs.declared.session.HostSession.{HostSession}
use Rattle.host_session.specs.declared.under.Tally.{Tally}
use Rattle.host_session.specs.declared.under.Under.TheVariants as under
use Rattle.host_session.proofs.DoesLemmas.{does_by}

pub tallied_over : {P A : Type 0} (before begun now : OwnSession P A) (name : ℕ) (purpose : Purpose) (query : Query A) (at later : Position) (more : ℕ)
    → begun ≡ before → later ≡ Over → Follows (SeenBy begun) (SeenBy now) (TalliesTo (home_by begun name) purpose query at later more)
    → Does before now (λ h. TalliesTo h purpose query at Over more)
tallied_over before begun now name purpose query at later more is over follows =
    does_by before begun now name (λ h. TalliesTo h purpose query at Over more) is
    (subst (λ (p : Position). Follows (SeenBy begun) (SeenBy now) (TalliesTo (home_by begun name) purpose query at p more)) over follows)

pub tallies_stopped : {P A : Type 0} (before now : OwnSession P A) (tally next : Tally A) (more : ℕ) (f : Fault) (made : Halt) (new : HostSession P A)
    → new.under ≡ under.Tally next → next.query ≡ tally.query → next.counting ≡ tally.counting
    → next.total ≡ min (tally.total + more) most_counted
    → (f ≡ fault.Memory → Does before now (λ h. StopsTallying h (purpose_of tally.counting) tally.query (position_of tally.at) (position_of next.at) more))
    → (f ≢ fault.Memory → IsForeign (home_of before) (purpose_of tally.counting) tally.query (SeenBy before) (position_of tally.at))
    → TalliesOn before now tally new (Err (visit_of f made))
tallies_stopped before now tally next more fault.Memory halt.Nothing new kept query counting total stops foreign = (tt, next, kept, query, counting, more, total, stops refl)
tallies_stopped before now tally next more fault.Memory halt.Busy new kept query counting total stops foreign = (tt, next, kept, query, counting, more, total, stops refl)
tallies_stopped before now tally next more fault.Memory halt.Bound new kept query counting total stops foreign = (tt, next, kept, query, counting, more, total, stops refl)
tallies_stopped before now tally next more fault.TooSmall made new kept query counting total stops foreign = λ within. foreign (λ e. cc)
tallies_stopped before now tally next more fault.FixLimit made new kept query counting total stops foreign = λ within. foreign (λ e. cc)
tallies_stopped before now tally next more fault.NotFixed made new kept query counting total stops foreign = λ within. foreign (λ e. cc)
tallies_stopped before now tally next more fault.BadKey made new kept query counting total stops foreign = λ within. foreign (λ e. cc)
tallies_stopped before now tally next more fault.CursorOutside made new kept query counting total stops foreign = λ within. foreign (λ e. cc)
