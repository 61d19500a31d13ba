-- The facts that an impl of `Turns` for sessions of a table with gates has to provide.
use Rattle.std.specs.Prelude.{ℕ, ◌≡◌, ◌<◌, ◌≤◌, ◌⊎◌, Option, Some, None, [], length, get_or, slice_get, List}
use Rattle.std.proofs.Common.{ap, subst, sym, inl, inr, arith}
use Rattle.std.proofs.lemmas.Option.{slice_get_cases}
use Rattle.std.proofs.lemmas.List.{length-map}
use Rattle.part_core.specs.declared.settings.Settings.{Settings}
use Rattle.part_core.specs.Acts.{History}
use Rattle.part_core.specs.Legal.{IsLegal}
use Rattle.gate.specs.Views.{GateId, Ticket}
use Rattle.gate.specs.Sessions.{AllLegal}
use Rattle.tables.specs.declared.options.Options.{Options}
use Rattle.tables.specs.Options.{settings_of}
use Rattle.tables.specs.Turns.{Views}
use Rattle.tables.specs.Sessions.{Sees, IsOpened}

-- the history that a pass has seen, empty if there is no pass
log_of : Option Ticket → History
log_of None = []
log_of (Some pass) = pass.log

pub session_seen : (passes : List Ticket) → (v : Views) × Sees passes v
unfolding log_of
session_seen passes = ((λ k. log_of (slice_get passes k)), λ k pass there. ap log_of there)

-- the history of each part is legal
pub session_legal : (o : Options) (gates : List GateId) (number : ℕ) (passes : List Ticket) → IsOpened o gates number passes → AllLegal passes
    → (v : Views) → Sees passes v → (part : ℕ) → part < o.parts → IsLegal (settings_of o) (v part)
session_legal o gates number passes opened legal v sees part inside = of (slice_get_cases passes part).1
  where
    of : ((pass : Ticket) × (part < length passes) × (slice_get passes part ≡ Some pass) × (get_or passes part pass ≡ pass)) ⊎ ((length passes ≤ part) × (slice_get passes part ≡ None)) → IsLegal (settings_of o) (v part)
    of (inl (pass, within, got, same)) = subst (IsLegal (settings_of o)) (sym (sees part pass got)) (subst (λ (x : Settings). IsLegal x pass.log) (opened.each part pass got).0 (legal part pass got))
    of (inr (past, none)) = absurd (omega (arith, inside, opened.count, ap length opened.made, length-map passes (λ (pass : Ticket). pass.gate), past))
