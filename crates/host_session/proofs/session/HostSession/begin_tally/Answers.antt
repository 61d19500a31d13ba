use Rattle.std.proofs.Common.{◌≡◌, refl, subst}
use Rattle.walk_core.specs.Counting.{purpose_of}
use Rattle.walk_core.specs.Positions.{position_of}
use Rattle.walk_core.specs.Walk.{start_of}
use Rattle.walks.specs.Query.{walk_of}
use Rattle.table_sessions.specs.Own.{home_of}
use Rattle.table_sessions.specs.declared.own.OwnSession.{OwnSession}
use Rattle.host_session.proofs.session.HostSession.begin_tally.Goals as goal

pub returns : goal.returns
returns g c = (
  record { free = c.if-not-is_free.ensures; own = c.brief-turns.ensures.session; bounds = refl; answers = refl },
  record { query = c.args.query; counting = c.args.counting; at = c.start-at.result; total = 0 },
  refl,
  refl,
  refl,
  subst (λ (own : OwnSession _ _). position_of c.start-at.result ≡ start_of (walk_of (home_of own) (purpose_of c.args.counting) c.args.query)) c.brief-turns.ensures.session c.start-at.ensures.at,
  refl,
)
