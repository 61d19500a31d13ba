-- Definitions about the pass from the first instruction to the last.
use Rattle.std.specs.Prelude.{ℕ, zero, suc, ◌≡◌, ◌<◌, ◌≤◌, Bool, if◌then◌else◌, Option, Some, None, List, length, slice_get}
use Rattle.std.specs.Option.{option_and_then}
use Rattle.mcode.specs.Program.{Program, Frame, frame_at}
use Rattle.mcode.specs.declared.instr.Instr.{Instr}
use Rattle.verifier_types.specs.Shape.{Shape, shape_of}
use Rattle.verifier_types.specs.Effect.{falling_shape}
use Rattle.verifier_types.specs.Inner.{inner_depth}
use Rattle.verifier.specs.Typing.{entry_shape, falling_into, AreTypedBelow, IsOwnDepthAt}

-- the state in which an instruction begins, given its frame and the state that falls into it
abbrev pub begun : Program → Option Shape → Option Frame → Shape
begun p falling (Some f) = shape_of p f
begun p (Some s) None = s
begun p None None = entry_shape p

-- the one state in which the instruction with each number can begin
abbrev pub shape_at : Program → ℕ → Shape
shape_at p zero = begun p (Some (entry_shape p)) (frame_at p.frames 0)
shape_at p (suc pc) =
    begun p (option_and_then (λ i. falling_shape p i (shape_at p pc)) (slice_get p.instructions pc))
    (frame_at p.frames (suc pc))

-- the state that falls into the next instruction, None if none does
abbrev pub fallen : Bool → Shape → Option Shape
fallen falls s = if falls then Some s else None

-- the greatest of what is found at the instructions before this one
pub record IsGreatestBelow (p : Program) (At : ℕ → Instr → ℕ → Type 0) (pc n : ℕ) : Type 0 where
  pub reached : 0 < n → (q : ℕ) × (i : Instr) × (slice_get p.instructions q ≡ Some i) × At q i n
  pub greatest : (q : ℕ) (i : Instr) (m : ℕ) → q < pc → slice_get p.instructions q ≡ Some i
      → At q i m → m ≤ n

-- the depth that the routine takes which the instruction at q invokes
abbrev pub IsInnerAt : Program → List ℕ → ℕ → Instr → ℕ → Type 0
IsInnerAt p ds q i n = n ≡ inner_depth p ds i (shape_at p q)

-- the depths of the frames before this instruction
pub record AreDepthsBelow (p : Program) (pc : ℕ) (depths : List ℕ) : Type 0 where
  pub count : length depths ≡ pc
  pub each : (q : ℕ) (f : Frame) → q < pc → frame_at p.frames q ≡ Some f
      → slice_get depths q ≡ Some f.depth

-- the instructions before this one are typed; what falls into it; and what was found so far
pub record IsWalked (p : Program) (ds : List ℕ) (pc : ℕ) (falls : Bool) (shape : Shape)
    (depths : List ℕ) (own inner : ℕ) : Type 0 where
  pub typed : AreTypedBelow p ds (shape_at p) pc
  pub falling : falling_into p (shape_at p) pc ≡ fallen falls shape
  pub slots : length shape.bound ≡ p.slots
  pub table : AreDepthsBelow p pc depths
  pub most : IsGreatestBelow p (IsOwnDepthAt p (shape_at p)) pc own
  pub deepest : IsGreatestBelow p (IsInnerAt p ds) pc inner
