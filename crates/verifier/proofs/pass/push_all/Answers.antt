use Rattle.std.proofs.Common.{ap}
use Rattle.verifier.proofs.PushedLemmas.{pushed_more, pushed_room}
use Rattle.verifier.proofs.pass.push_all.Goals as goal

pub loop-place-init : goal.loop-place-init
loop-place-init g c = ap (λ ks. record { kinds = ks; bound = c.args.shape.now.bound }) c.requires.empty

pub push-requires : goal.push-requires
push-requires g c = pushed_room c.args.kinds.now _ c.loop-place.place c.loop-place.shape c.loop-place-test.true c.requires.few c.loop-place.invariant

pub loop-place-preserved : goal.loop-place-preserved
loop-place-preserved g c =
    pushed_more c.args.kinds.now _ c.loop-place.place _ c.loop-place.shape c.push.new.self c.loop-place-test.true c.loop-place.invariant c.in_ok-push.ensures
