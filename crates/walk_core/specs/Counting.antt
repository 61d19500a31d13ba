-- The purposes of visits that count.
use Rattle.part_core.specs.Acts.{Purpose}
use Rattle.part_core.specs.Acts.Purpose.{Counts, Deletes}
use Rattle.walk_core.specs.declared.counting.Counting.{Counting}
use Rattle.walk_core.specs.declared.counting.Counting.TheVariants as counting

-- the purpose of a visit that counts or deletes
abbrev pub purpose_of : Counting → Purpose
purpose_of counting.Count = Counts
purpose_of counting.Delete = Deletes
