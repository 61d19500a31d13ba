-- What was collected are the objects of the parts so far.
use Rattle.tables.proofs.ObjectLemmas.{Gathered}
use Rattle.tables.proofs.local.LocalTable.objects.Given as goal

abbrev pub invariant-loop-part : goal.invariant-loop-part
invariant-loop-part g l =
    Gathered g.P.Part.is_after l.self.options l.self.parts.items l.part-index l.objects.items
