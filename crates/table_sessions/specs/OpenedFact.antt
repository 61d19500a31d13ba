-- That a session was opened with a table is a fact: there is at most one proof of it.
use Rattle.std.specs.Prelude.{ℕ, List}
use Rattle.std.specs.Coded.{codes}
use Rattle.std.proofs.Props.{props}
use Rattle.atomic_table.specs.Seated.{table_id_coded}
use Rattle.gate.specs.Views.{GateId, Ticket}
use Rattle.tables.specs.declared.options.Options.{Options}
use Rattle.tables.specs.Sessions.{IsOpened}

pub opened_prop : (o : Options) (gates : List GateId) (number : ℕ) (passes : List Ticket) → IsProp (IsOpened o gates number passes)
opened_prop o gates number passes = hlevel (codes, table_id_coded, props)
