-- What is known of a state of the machine.
use Rattle.std.specs.Prelude.{ℕ, zero, suc, ◌≤◌, ◌-◌, Bool, true, false, IsTrue, List, [], ◌∷◌, length, drop, set, replicate, slice_get, unwrap_or, All}
use Rattle.std.specs.Option.{option_map_or}
use Rattle.mcode.specs.Kind.{is_below}
use Rattle.mcode.specs.Program.{Program, Frame, place_number, with_number}
use Rattle.mcode.specs.declared.kind.Kind.{Kind}
use Rattle.mcode.specs.declared.kind.Kind.TheVariants as kind

-- the kinds of the operand stack's places, from its top, and for each slot whether it is bound
pub record Shape : Type 0 where
  pub kinds : List Kind
  pub bound : List Bool

-- the state before instruction 0: nothing on the stack and nothing bound
abbrev pub start_shape : Program → Shape
start_shape p = record { kinds = []; bound = replicate p.slots false }

-- the kind of a place counted from the lowest: the one that is listed, else Any
abbrev pub place_kind : List (ℕ × Kind) → ℕ → Kind
place_kind places n = option_map_or (λ place. place.1) (with_number place_number places n) kind.Any

-- the kinds of n places, from the top
abbrev pub frame_kinds : List (ℕ × Kind) → ℕ → List Kind
frame_kinds places zero = []
frame_kinds places (suc n) = place_kind places n ∷ frame_kinds places n

-- slots of which these are bound too
abbrev pub marked : List Bool → List ℕ → List Bool
marked bound [] = bound
marked bound (slot ∷ slots) = marked (set bound slot true) slots

-- the state that a frame describes
abbrev pub shape_of : Program → Frame → Shape
shape_of p f =
    record {
      kinds = frame_kinds f.places f.depth;
      bound = marked (replicate p.slots false)
          f.slots;
    }

-- whether the slot exists and is bound
abbrev pub is_bound : List Bool → ℕ → Bool
is_bound bound slot = unwrap_or (slice_get bound slot) false

-- there are equally many kinds, each equal to the other or below it
abbrev pub AreBelow : List Kind → List Kind → Type 0
AreBelow [] [] = Unit {0}
AreBelow (k ∷ ks) (l ∷ ls) = IsTrue (is_below k l) × AreBelow ks ls
AreBelow ks ls = ⊥

-- the depths agree, each kind is equal to the frame's or below it, and each slot that is bound in the frame is bound
pub record IsAtOrBelow (s : Shape) (f : Frame) : Type 0 where
  pub kinds : AreBelow s.kinds (frame_kinds f.places f.depth)
  pub bound : All (λ slot. IsTrue (is_bound s.bound slot)) f.slots

-- the state cut to its lowest places
abbrev pub cut_shape : Shape → ℕ → Shape
cut_shape s depth = record { kinds = drop (length s.kinds - depth) s.kinds; bound = s.bound }

-- cut to the frame's depth, the state is at or below the frame
pub record IsCutBelow (s : Shape) (f : Frame) : Type 0 where
  pub deep : f.depth ≤ length s.kinds
  pub below : IsAtOrBelow (cut_shape s f.depth) f
