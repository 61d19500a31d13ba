use Rattle.std.proofs.Common.{rules}
use Rattle.part_hash.proofs.EmptyLemmas.{stands_none}
use Rattle.part_hash.proofs.finding.empty.Goals as goal

pub invariant_of-result : goal.invariant_of-result
invariant_of-result g c = record {
  is_base = search rules;
  only = λ mixed at has. absurd (c.new-2.ensures mixed at has);
}

pub returns-clause-rows : goal.returns-clause-rows
returns-clause-rows g c = λ o. stands_none o _ 8 c.new.ensures.empty c.in_ok-slots.ensures
