use Rattle.std.proofs.Common.{◌≡◌, rules}
use Rattle.std.proofs.lemmas.Result.{IfOk-weaker}
use Rattle.std.specs.Prelude.{IfOk, IfErr}
use Rattle.part_core.specs.declared.fault.OpenFault.TheVariants.{Memory}
use Rattle.tables.specs.Local.{AreAfter}
use Rattle.tables.specs.OneThread.{opened}
use Rattle.tool_script.specs.State.{IsAt}
use Rattle.tool_script.proofs.TableLemmas.{memory_alone, opened_is}
use Rattle.tool_script.proofs.open.open_at.Goals as goal

pub map_err-requires : goal.map_err-requires
map_err-requires g c =
    let alone : IfErr c.open.result (λ fault. fault ≡ Memory) = memory_alone _ c.open.result c.requires c.open.ensures.refused in
    search (rules, alone)

pub returns-clause-state : goal.returns-clause-state
returns-clause-state g c =
    let state : IfOk c.open.result (λ table. IsAt table.options (AreAfter g.P.Part.is_after table.parts.items) (opened c.args.options)) =
    IfOk-weaker c.open.result _ _ (λ table o. opened_is c.args.options table.options (AreAfter g.P.Part.is_after table.parts.items) o.1 o.2) c.open.ensures.opened in
    search (rules, state)
