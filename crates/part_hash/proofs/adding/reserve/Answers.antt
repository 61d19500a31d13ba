use Rattle.std.proofs.Common.{ap, ◌∙◌}
use Rattle.std.specs.Prelude.{is_some}
use Rattle.slab.specs.Slab.{get}
use Rattle.part_hash.proofs.adding.reserve.Goals as goal

pub invariant_of-store : goal.invariant_of-store
invariant_of-store g c = record {
  is_base = c.args.store.now.is_base;
  only = λ mixed at has. ap (λ slab. is_some (get slab at)) c.reserve.ensures.rest_kept ∙ c.args.store.now.only mixed at has;
}

pub invariant_of-store-in-Break-branch-2 : goal.invariant_of-store-in-Break-branch-2
invariant_of-store-in-Break-branch-2 g c = record {
  is_base = c.args.store.now.is_base;
  only = λ mixed at has. ap (λ slab. is_some (get slab at)) c.reserve.ensures.rest_kept ∙ c.args.store.now.only mixed at (c.reserve-2.ensures.same.only mixed at has);
}

pub invariant_of-store-2 : goal.invariant_of-store-2
invariant_of-store-2 g c = record {
  is_base = c.args.store.now.is_base;
  only = λ mixed at has. ap (λ slab. is_some (get slab at)) c.reserve.ensures.rest_kept ∙ c.args.store.now.only mixed at (c.reserve-2.ensures.same.only mixed at has);
}
