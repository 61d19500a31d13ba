use Rattle.std.proofs.Common.{◌++◌, ap, sym, ◌∙◌}
use Rattle.std.proofs.lemmas.Result.{IfOk-weaker}
use Rattle.part_core.specs.Acts.{Scope}
use Rattle.part_core.specs.Ops.{scope_of}
use Rattle.part_rows.specs.Looks.{looked_at}
use Rattle.part_hash.proofs.looking.look.Goals as goal

pub returns-in-Named : goal.returns-in-Named
returns-in-Named g c =
    IfOk-weaker c.look_at.result _ _ (λ v seen rows kind s. seen rows s ∙ ap (λ (scope : Scope). c.args.into.now.items ++ looked_at c.args.settings c.args.base scope rows) (sym (ap scope_of c.in-Named.is))) c.look_at.ensures
