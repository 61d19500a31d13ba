use Rattle.std.proofs.Common.{ap}
use Rattle.kit_members.proofs.TableLemmas.{of_one_table}
use Rattle.kit_members.proofs.members.members_of.Goals as goal

pub returns-in-Some-clause-members : goal.returns-in-Some-clause-members
returns-in-Some-clause-members g c = (
  (λ k d inside. (c.put_all.ensures.each k d inside).1),
  of_one_table _ c.args.table.now.options c.args.table.now.gates.items c.put_all.new.members.items
      (λ k d inside. let h = c.put_all.ensures.each k d inside in (ap (λ t. t.options) h.0, ap (λ t. t.gates.items) h.0)),
)
