use Rattle.std.proofs.Common.{rules}
use Rattle.hash_index.proofs.Mixing.{same_by}
use Rattle.hash_index.proofs.index.HashIndex.reserve.Goals as goal

pub returns : goal.returns
returns g c = record {
  room = c.put_anew.ensures.room;
  same = same_by c.put_anew.result c.args.self.now c.put_anew.new.self c.put_anew.ensures.mixed c.put_anew.ensures.refused
      (λ m a n post. search (rules, post));
  refused = c.put_anew.ensures.refused;
}
