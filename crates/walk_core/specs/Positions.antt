-- The position of a walk, as code represents it.
use Rattle.std.specs.Prelude.{ℕ, ◌<◌, option_map}
use Rattle.part_core.specs.Ops.{cursor_of}
use Rattle.walk_core.specs.Walk as walk
use Rattle.walk_core.specs.declared.position.Position.{Position}
use Rattle.walk_core.specs.declared.position.Position.TheVariants as position

-- the position that a value of the code stands for
abbrev pub position_of : {A : Type 0} → Position A → walk.Position
position_of (position.InPart part cursor) = walk.Position.InPart part (option_map cursor_of cursor)
position_of (position.AtNamed n) = walk.Position.AtNamed n
position_of position.Over = walk.Position.Over

-- a walk can be there: in one of `parts` parts, at one of `count` named keys, or at its end
abbrev pub IsThere : ℕ → ℕ → walk.Position → Type 0
IsThere parts count (walk.Position.InPart part cursor) = part < parts
IsThere parts count (walk.Position.AtNamed n) = n < count
IsThere parts count walk.Position.Over = Unit {0}
