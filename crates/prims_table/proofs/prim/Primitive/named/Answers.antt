use Rattle.std.proofs.Common.{◌∙◌}
use Rattle.std.specs.Str.{chars}
use Rattle.prims_table.proofs.NameLemmas.{named_is}
use Rattle.prims_table.proofs.TextEq.{named_alike}
use Rattle.prims_table.proofs.prim.Primitive.named.Goals as goal

pub returns-clause-value : goal.returns-clause-value
returns-clause-value c = c.find.ensures ∙ named_alike c.args.name.now c.args.arguments c.utf8.name

pub returns-clause-table : goal.returns-clause-table
returns-clause-table c =
    named_is (chars c.args.name.now) c.args.arguments c.find.result (c.find.ensures ∙ named_alike c.args.name.now c.args.arguments c.utf8.name)
