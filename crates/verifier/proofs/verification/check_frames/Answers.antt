use Rattle.std.proofs.Common.{arith, ap, sym, subst, ◌∙◌, length, map, All, ◌≡◌, ◌<◌, get_or}
use Rattle.std.proofs.Math.ListN.{get_or-map}
use Rattle.mcode.specs.Frame.{frame_of}
use Rattle.mcode.proofs.RiseLemmas.{frame_count}
use Rattle.verifier_types.specs.Fit.{IsFrameFit}
use Rattle.verifier.proofs.VerifiedLemmas.{all_take_more, all_take_whole, first_unfit}
use Rattle.verifier.proofs.verification.check_frames.Goals as goal

pub returns-then-not-is_frame_fit-clause-fault : goal.returns-then-not-is_frame_fit-clause-fault
returns-then-not-is_frame_fit-clause-fault g c =
    let frames = map frame_of c.args.frames.now in
    let i = c.loop-frame.frame-index in
    let frame = frame_of c.frame-item.result in
    let inside : i < length frames = omega (arith, c.loop-frame-test.true, frame_count c.args.frames.now) in
    let is : frame ≡ get_or frames i frame = ap frame_of c.frame-item.is ∙ sym (get_or-map frame_of c.args.frames.now i c.frame-item.result) in
    first_unfit c.args.body.now frames i frame c.requires inside is c.loop-frame.invariant (λ fit. let yes = c.is_frame_fit.ensures.1 fit in absurd (cc))

pub loop-frame-preserved : goal.loop-frame-preserved
loop-frame-preserved g c =
    let frames = map frame_of c.args.frames.now in
    let i = c.loop-frame.frame-index in
    let frame = frame_of c.frame-item.result in
    let inside : i < length frames = omega (arith, c.loop-frame-test.true, frame_count c.args.frames.now) in
    let is : frame ≡ get_or frames i frame = ap frame_of c.frame-item.is ∙ sym (get_or-map frame_of c.args.frames.now i c.frame-item.result) in
    all_take_more (IsFrameFit c.args.body.now) frames i frame inside is c.loop-frame.invariant (c.is_frame_fit.ensures.0 c.if-not-is_frame_fit.false)

pub returns-clause-fit : goal.returns-clause-fit
returns-clause-fit g c =
    let frames = map frame_of c.args.frames.now in
    subst (λ gs. All (IsFrameFit c.args.body.now) gs) c.requires (all_take_whole (IsFrameFit c.args.body.now) frames c.loop-frame.frame-index (omega (arith, c.loop-frame-test.false, frame_count c.args.frames.now)) c.loop-frame.invariant)
