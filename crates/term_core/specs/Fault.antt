-- The conditions under which making a term fails.
use Rattle.std.specs.Prelude.{ℕ, ◌≡◌, ◌<◌, ◌≤◌, length}
use Rattle.term_core.specs.Datum.{Datum, item_count, entry_count, cell_count}
use Rattle.term_core.specs.Datum.Datum.{integer, atom, tuple, map, nil, cons, binary}
use Rattle.term_core.specs.Limits.{depth, IsTerm}
use Rattle.term_core.specs.Sizes.{depth_limit, atom_limit, tuple_limit, map_limit, list_limit, binary_limit}
use Rattle.term_core.specs.declared.fault.Fault.{Fault}
use Rattle.term_core.specs.declared.fault.Fault.TheVariants.{Memory, TooDeep, TooLong, DuplicateKey}

-- a term that is longer than the limit of its kind
abbrev pub IsTooLong : Datum → Type 0
IsTooLong (integer z) = ⊥
IsTooLong (atom cs) = atom_limit < length cs
IsTooLong (tuple ds) = tuple_limit < item_count ds
IsTooLong (map es) = map_limit < entry_count es
IsTooLong nil = ⊥
IsTooLong (cons head tail) = list_limit < cell_count (cons head tail)
IsTooLong (binary bs) = binary_limit < length bs

-- What a fault says of the term that was to be made. Depth is checked first, then length, and out of memory comes last.
abbrev pub IsFault : Fault → Datum → Type 0
IsFault Memory d = (depth d ≤ depth_limit) × ¬ IsTooLong d
IsFault TooDeep d = depth_limit < depth d
IsFault TooLong d = (depth d ≤ depth_limit) × IsTooLong d
IsFault DuplicateKey d = ⊥

-- the depth of a datum that is within the limits
pub record IsDepthOf (level : ℕ) (d : Datum) : Type 0 where
  pub depth : level ≡ depth d
  pub within : IsTerm d
  pub short : ¬ IsTooLong d
