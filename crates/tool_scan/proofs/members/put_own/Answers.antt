use Rattle.std.proofs.Common.{refl, ◌∙◌}
use Rattle.tool_scan.proofs.MembersLemmas.{none_put, one_put}
use Rattle.tool_scan.proofs.members.put_own.Goals as goal
use Rattle.tool_scan.proofs.members.put_own.Goals.{then-shares-place+in_ok-put_object, else-shares-place}

pub loop-place-preserved : goal.loop-place-preserved
loop-place-preserved g c =
    elim c.if-shares-place.branch [
      | then-shares-place+in_ok-put_object w ↦
          rw w.turns-is (
            w.put_object.ensures.ready,
            w.put_object.ensures.same ∙ c.loop-place.invariant.1,
            one_put g.T.TryTurns.is_ready g.T.TryTurns.home g.T.TryTurns.sees c.args.number c.args.shares.now.numbers.now c.args.shares.now.objects.now c.loop-place.place _ _ c.object-item.result c.args.turns.now c.loop-place.turns w.put_object.new.turns
                c.requires.numbers c.loop-place-test.true refl c.object-item.is w.if-shares-place.true c.loop-place.invariant.1 c.loop-place.invariant.2 w.in_ok-put_object.ensures.put,
          )
      | else-shares-place w ↦
          rw w.turns-is (
            c.loop-place.invariant.0,
            c.loop-place.invariant.1,
            none_put g.T.TryTurns.is_ready g.T.TryTurns.home g.T.TryTurns.sees c.args.number c.args.shares.now.numbers.now c.args.shares.now.objects.now c.loop-place.place _ _ c.object-item.result c.args.turns.now c.loop-place.turns
                c.requires.numbers c.loop-place-test.true refl c.object-item.is w.if-shares-place.false c.loop-place.invariant.2,
          )
    ]
