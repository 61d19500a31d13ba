-- How the verifier stores what it knows of a state: the depth, the places that are listed, and the slots.
use Rattle.std.specs.Prelude.{ℕ, ◌<◌, ◌≤◌, ◌-◌, Bool, false, IsTrue, List, length, drop, replicate, slice_index_or, All}
use Rattle.mcode.specs.Kind.{is_below}
use Rattle.mcode.specs.Program.{Frame, Rise, place_number}
use Rattle.mcode.specs.declared.kind.Kind.{Kind}
use Rattle.verifier_types.specs.Shape.{Shape, place_kind, frame_kinds, marked}

-- the state with this number of places, these kinds and slots
abbrev pub kept_shape : ℕ → List (ℕ × Kind) → List Bool → Shape
kept_shape depth places bound = record { kinds = frame_kinds places depth; bound = bound }

-- the places that are listed are in ascending order and within the depth
pub record AreKept (depth : ℕ) (places : List (ℕ × Kind)) : Type 0 where
  pub rise : Rise place_number places
  pub within : All (λ place. place_number place < depth) places

-- the kind of each listed place is, among these places, equal to the listed kind or below it
abbrev pub AreListedAbove : List (ℕ × Kind) → List (ℕ × Kind) → Type 0
AreListedAbove places listed =
    All (λ place. IsTrue (is_below (place_kind places (place_number place)) place.1)) listed

-- there is a last place, at this depth or above it
abbrev pub IsReaching : ℕ → List (ℕ × Kind) → Type 0
IsReaching depth places =
    (place : ℕ × Kind) → (0 < length places) × (depth
    ≤ place_number (slice_index_or places (length places - 1) place))

-- the state without count places from the top
abbrev pub popped_shape : Shape → ℕ → Shape
popped_shape s count = record { kinds = drop count s.kinds; bound = s.bound }

-- the state that a frame describes, with this number of slots
abbrev pub entered_shape : ℕ → Frame → Shape
entered_shape slots f =
    record { kinds = frame_kinds f.places f.depth; bound = marked (replicate slots false) f.slots }
