use Rattle.std.proofs.Common.{rules, ◌≡◌, ℕ, suc, ◌-◌, map, length, get_or}
use Rattle.mcode.specs.Frame.{frame_of}
use Rattle.mcode.specs.Program.{frame_number}
use Rattle.mcode.specs.Program as program
use Rattle.mcode.proofs.RiseLemmas.{rise_more, rise_last, last_of_map, some_of_last}
use Rattle.mcode.proofs.builder.is_above.Goals as goal

pub returns-in-Some : goal.returns-in-Some
returns-in-Some g c =
    let frames = map frame_of c.args.frames.now in
    let frame = frame_of c.args.frame.now in
    let last = c.in-Some.last.now in
    let is : (n : ℕ) (d : program.Frame) → length frames ≡ suc n → get_or frames n d ≡ frame_of last = λ n d long. last_of_map frame_of c.args.frames.now last n d c.in-Some.ensures.value long in
    let some = some_of_last frame_of c.args.frames.now last c.in-Some.ensures.value in
    let before = length c.args.frames.now - 1 in (
      λ below. rise_more frame_number frames frame c.requires (λ n d long. rw (is n d long) (search rules)),
      λ up. let under = rise_last frame_number frames frame before (frame_of last) up some in let under = rw (is before (frame_of last) some) at under in search rules,
    )
