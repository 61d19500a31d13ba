-- What a call changes in a session.
use Rattle.std.specs.Prelude.{◌≡◌}
use Rattle.table_sessions.specs.Own.{home_of}
use Rattle.host_session.specs.declared.session.HostSession.{HostSession}

-- the session is at the same table, with the same bounds
pub record IsSame {P A : Type 0} (old new : HostSession P A) : Type 0 where
  pub home : home_of new.own ≡ home_of old.own
  pub bounds : new.bounds ≡ old.bounds

-- a call of one turn that has no answers: what is under way and the answers of earlier calls stay
pub record Stays {P A : Type 0} (old new : HostSession P A) : Type 0 where
  pub same : IsSame old new
  pub under : new.under ≡ old.under
  pub answers : new.answers ≡ old.answers
