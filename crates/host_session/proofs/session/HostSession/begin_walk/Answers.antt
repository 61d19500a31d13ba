use Rattle.std.proofs.Common.{◌≡◌, refl, inl, subst}
use Rattle.part_core.specs.Acts.Purpose.{Answers}
use Rattle.walk_core.specs.Positions.{position_of}
use Rattle.walk_core.specs.Walk.{start_of}
use Rattle.walks.specs.Pieces.{IsWalkOf}
use Rattle.walks.specs.Query.{walk_of}
use Rattle.table_sessions.specs.Own.{home_of}
use Rattle.table_sessions.specs.declared.own.OwnSession.{OwnSession}
use Rattle.host_session.proofs.session.HostSession.begin_walk.Goals as goal

pub returns-then-not-is_free : goal.returns-then-not-is_free
returns-then-not-is_free g c = (refl, inl (refl, c.if-not-is_free.ensures, refl))

pub returns : goal.returns
returns g c =
    let walk = c.walk_begun-walk.result in (
      record { free = c.if-not-is_free.ensures; own = c.brief-turns.ensures.session; bounds = refl; answers = refl },
      walk,
      refl,
      subst (λ (own : OwnSession _ _). IsWalkOf (home_of own) c.args.query c.args.limit walk) c.brief-turns.ensures.session c.walk_begun-walk.ensures.walk,
      subst (λ (own : OwnSession _ _). position_of walk.at ≡ start_of (walk_of (home_of own) Answers c.args.query)) c.brief-turns.ensures.session c.walk_begun-walk.ensures.start,
      c.walk_begun-walk.ensures.none,
    )
