-- Frames that are fit.
use Rattle.std.specs.Prelude.{ℕ, ◌≡◌, ◌<◌, Some, All}
use Rattle.std.proofs.Common.{sym}
use Rattle.mcode.specs.Program.{Program, Frame, IsProgram, frame_at, frame_number}
use Rattle.mcode.proofs.RiseLemmas.{number_stands}
use Rattle.verifier_types.specs.Kept.{AreKept}
use Rattle.verifier_types.specs.Fit.{IsFrameFit}

-- what is known of a frame that was found
pub record IsFound (p : Program) (pc : ℕ) (f : Frame) : Type 0 where
  pub here : f.pc ≡ pc
  pub kept : AreKept f.depth f.places
  pub slots : All (λ slot. slot < p.slots) f.slots
  pub fit : IsFrameFit p f

pub frame_found : (p : Program) (pc : ℕ) (f : Frame) → IsProgram p → All (IsFrameFit p) p.frames → Some f ≡ frame_at p.frames pc → IsFound p pc f
frame_found p pc f program fits is =
    let found = number_stands frame_number p.frames pc f (sym is) in
    let fit = fits found.1.0 f found.1.1 in
    let fit = rw found.1.2 at fit in
    let frame = program.frames.each found.1.0 f found.1.1 in
    let frame = rw found.1.2 at frame in
    record {
      here = found.0;
      kept = record { rise = frame.ordered.places; within = fit.places };
      slots = fit.slots;
      fit = fit;
    }
