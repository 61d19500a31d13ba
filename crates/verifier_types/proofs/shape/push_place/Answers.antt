use Rattle.verifier_types.proofs.ShapeLemmas.{any_more, kinds_more, kept_pushed}
use Rattle.verifier_types.proofs.shape.push_place.Goals as goal

pub returns-in-Any-clause-kinds : goal.returns-in-Any-clause-kinds
returns-in-Any-clause-kinds g c = rw c.in-Any.is (any_more c.args.places.now.items c.args.depth c.requires.kept.within)

pub returns-in_ok-push-in-Int : goal.returns-in_ok-push-in-Int
returns-in_ok-push-in-Int g c = record {
  kept = rw c.in_ok-push-in-Int.ensures.items (kept_pushed c.args.places.now.items c.args.depth c.args.kind c.requires.kept);
  same = tt;
  kinds = rw c.in_ok-push-in-Int.ensures.items (kinds_more c.args.places.now.items c.args.depth c.args.kind c.requires.kept.within);
}
