use Rattle.std.proofs.Common.{rules, ℕ}
use Rattle.hash_index.specs.Index.{cells}
use Rattle.hash_index.proofs.Mixing.{mixed_by}
use Rattle.hash_index.proofs.index.HashIndex.mix.Goals as goal

pub returns : goal.returns
returns g c = record {
  mixed = mixed_by c.put_anew.result (λ (m a n : ℕ). goal.F-post g c.args.mixed_of a n) _
      (cells c.args.self.now) (cells c.put_anew.new.self) c.put_anew.ensures.mixed (λ m a n post. search (rules, post));
  room = c.put_anew.ensures.room;
  refused = c.put_anew.ensures.refused;
}
