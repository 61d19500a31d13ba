use Rattle.std.proofs.Common.{sym, subst}
use Rattle.std.specs.Prelude.{All}
use Rattle.std.proofs.lemmas.Result.{IfOk-weaker}
use Rattle.tables.specs.Sessions.{IsOpened}
use Rattle.walks.specs.Query.{plan_of}
use Rattle.tool_scan.specs.Options.{table_of}
use Rattle.tool_scan.proofs.AskingLemmas.{all_scanned, each_opened, fresh_members, home_at, is_ready_at, seated_all, seated_members, sees_at, SitsAt}
use Rattle.tool_scan.proofs.asking.ask.Goals as goal

pub seat_all-requires : goal.seat_all-requires
seat_all-requires g c =
    subst (λ o. All (λ s. IsOpened o c.args.table.now.gates.items s.number s.passes.items) c.args.sessions.now) (sym c.requires.table)
    (each_opened (table_of c.args.options) c.args.table.now.gates.items c.args.sessions.now c.requires.opened.opened)

pub scan_members-requires-clause-members : goal.scan_members-requires-clause-members
scan_members-requires-clause-members g c κs within =
    seated_members c.args.table.now c.args.options c.args.sessions.now c.requires.table c.requires.opened c.as_mut_slice.result.now
    (seated_all (SitsAt c.args.table.now c.args.options) c.args.sessions.now _ _ c.as_mut_slice.result.now c.in_ok-seat_all.ensures c.new-members.ensures.items c.as_mut_slice.ensures.value)

pub returns : goal.returns
returns g c =
    let zip = seated_all (SitsAt c.args.table.now c.args.options) c.args.sessions.now _ _ c.as_mut_slice.result.now c.in_ok-seat_all.ensures c.new-members.ensures.items c.as_mut_slice.ensures.value in
    let members = seated_members c.args.table.now c.args.options c.args.sessions.now c.requires.table c.requires.opened c.as_mut_slice.result.now zip in
    IfOk-weaker c.scan_members.result _ _
    (λ answers h. (
      h.0,
      h.1,
      h.2,
      all_scanned (is_ready_at c.args.table.now c.args.options) (home_at c.args.table.now c.args.options) (sees_at c.args.table.now c.args.options) c.args.options c.args.query.now.code
          (plan_of c.args.query.now (table_of c.args.options)) c.args.objects.now h.0 c.as_mut_slice.result.now c.scan_members.new.members members.count
          (fresh_members c.args.table.now c.args.options c.args.sessions.now c.requires.table c.requires.opened c.as_mut_slice.result.now zip) h.3,
    ))
    c.scan_members.ensures
