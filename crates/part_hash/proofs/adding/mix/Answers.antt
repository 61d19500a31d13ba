use Rattle.std.proofs.Common.{refl, subst}
use Rattle.hash_index.specs.Index.{Has}
use Rattle.part_hash.proofs.AddLemmas.{stands_mixed}
use Rattle.part_hash.proofs.adding.mix.Goals as goal

pub invariant_of-store : goal.invariant_of-store
invariant_of-store g c = record {
  is_base = c.args.store.now.is_base;
  only = λ mixed at has. let old = c.in-Ok.ensures.mixed.only mixed at has in c.args.store.now.only old.0 at old.2;
}

pub invariant_of-store-in-Err : goal.invariant_of-store-in-Err
invariant_of-store-in-Err g c = record {
  is_base = c.args.store.now.is_base;
  only = λ mixed at has. c.args.store.now.only mixed at (subst (λ x. Has x mixed at) c.in-Err.ensures.refused has);
}

pub returns-in-Ok-clause-kept : goal.returns-in-Ok-clause-kept
returns-in-Ok-clause-kept g c = λ o rows s.
    stands_mixed o c.args.store.now _ rows _ c.in-Ok.ensures.mixed refl refl refl refl refl refl s
