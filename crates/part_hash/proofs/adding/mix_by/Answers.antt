use Rattle.std.proofs.Common.{rules, ◌≡◌}
use Rattle.part_hash.specs.Mixed.{mixed}
use Rattle.part_hash.proofs.adding.mix_by.Goals as goal

pub returns-clause-mixed : goal.returns-clause-mixed
returns-clause-mixed g c = record {
  kept = λ m a has.
      let kept = c.in_ok-mix.ensures.mixed.kept m a has in
      let post = kept.1 in
      (kept.0, λ s there. let is : kept.0 ≡ mixed c.args.seed s.0.0 = search (rules, post, there) in is, kept.2);
  only = λ n a has.
      let only = c.in_ok-mix.ensures.mixed.only n a has in
      let post = only.1 in
      (only.0, λ s there. let is : n ≡ mixed c.args.seed s.0.0 = search (rules, post, there) in is, only.2);
}
