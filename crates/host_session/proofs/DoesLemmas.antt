-- What a call over a borrowed session does is what it does to the session.
use Rattle.std.proofs.Common.{ℕ, ◌≡◌, subst}
use Rattle.tables.specs.Turns.{Home, Views, Follows}
use Rattle.table_sessions.specs.Own.{Does, SeenBy, home_by}
use Rattle.table_sessions.specs.declared.own.OwnSession.{OwnSession}

pub does_by : {P A : Type 0} (before begun now : OwnSession P A) (name : ℕ) (R : Home → Views → Views → Type 0)
    → begun ≡ before → Follows (SeenBy begun) (SeenBy now) (R (home_by begun name)) → Does before now R
does_by {P} {A} before begun now name R is follows =
    (name, subst (λ (own : OwnSession P A). Follows (SeenBy own) (SeenBy now) (R (home_by own name))) is follows)

-- the same, with what follows from it
pub does_so : {P A : Type 0} (before begun now : OwnSession P A) (name : ℕ) (Q R : Home → Views → Views → Type 0)
    → ((h : Home) (v w : Views) → Q h v w → R h v w)
    → begun ≡ before → Follows (SeenBy begun) (SeenBy now) (Q (home_by begun name)) → Does before now R
does_so before begun now name Q R so is follows =
    let d = does_by before begun now name Q is follows in
    (d.0, λ v b. let f = d.1 v b in (f.0, f.1, so (home_by before d.0) v f.0 f.2))
