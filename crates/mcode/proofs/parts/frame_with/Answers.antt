use Rattle.std.proofs.Common.{rules, ap, ◌∙◌, Some}
use Rattle.std.proofs.lemmas.Fn.{always_returns_same}
use Rattle.std.specs.Option.{option_map}
use Rattle.std.specs.Ordering.{nat_cmp}
use Rattle.term_core.proofs.RowLemmas.{nat_cmp-equal}
use Rattle.mcode.specs.Frame.{frame_of}
use Rattle.mcode.proofs.RiseLemmas.{frames_rise, frame_seen, number_found, number_between, numbers_partition}
use Rattle.mcode.proofs.parts.frame_with.Goals as goal

pub returns-in-Ok : goal.returns-in-Ok
returns-in-Ok g c =
    let pc = c.args.pc in
    let fs = c.args.frames.now in
    let same = c.in-Ok.ensures.position (λ f. nat_cmp f.pc pc) (always_returns_same _ _ _ (λ a r f' k. search rules)) in
    ap (λ f. Some (frame_of f)) c.index-frames-place.is
    ∙ ap (option_map frame_of) (number_found (λ f. f.pc) fs pc c.in-Ok.place c.index-frames-place.result (frames_rise fs c.requires) c.in-Ok.ensures.bound (nat_cmp-equal _ _ (same c.index-frames-place.result)))
    ∙ frame_seen fs pc

pub returns-in-Err : goal.returns-in-Err
returns-in-Err g c =
    let pc = c.args.pc in
    let fs = c.args.frames.now in
    ap (option_map frame_of) (number_between (λ f. f.pc) fs pc c.in-Err.field-0
    (c.in-Err.ensures.position (λ f. nat_cmp f.pc pc) (always_returns_same _ _ _ (λ a r f' k. search rules)) (numbers_partition (λ f. f.pc) fs pc (frames_rise fs c.requires))))
    ∙ frame_seen fs pc
