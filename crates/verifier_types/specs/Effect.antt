-- What an instruction needs, and what it leaves.
use Rattle.std.specs.Prelude.{ℕ, ◌<◌, nat_lt, nat_le, Bool, true, false, ◌&&◌, IsSome, if◌then◌else◌, Option, Some, None, option_map, List, [], ◌∷◌, ◌++◌, length, drop, reverse, set, slice_get, unwrap_or}
use Rattle.std.specs.Option.{option_map_or, option_and_then}
use Rattle.prims_table.specs.Gives.{gives_of}
use Rattle.prims_table.specs.Names.{takes}
use Rattle.prims_table.specs.declared.gives.Gives.{Gives}
use Rattle.prims_table.specs.declared.gives.Gives.TheVariants as gives
use Rattle.prims_table.specs.declared.prim.Primitive.TheVariants as prim
use Rattle.mcode.specs.Instr.{goes_on}
use Rattle.mcode.specs.Kind.{kind_of, is_below}
use Rattle.mcode.specs.Machine.{map_keys}
use Rattle.mcode.specs.Program.{Program, Routine, routine_at, own_routine}
use Rattle.mcode.specs.declared.instr.Instr.{Instr}
use Rattle.mcode.specs.declared.instr.Instr.TheVariants as instr
use Rattle.mcode.specs.declared.kind.Kind.{Kind}
use Rattle.mcode.specs.declared.kind.Kind.TheVariants as kind
use Rattle.verifier_types.specs.Shape.{Shape, is_bound}

-- the number of keys of a constant that is a proper list of terms that all differ, None if it is not
abbrev pub key_count : Program → ℕ → Option ℕ
key_count p constant = option_map length (option_and_then map_keys (slice_get p.constants constant))

-- the kinds of a routine's arguments, the lowest first
abbrev pub arguments_of : Option Routine → List Kind
arguments_of None = []
arguments_of (Some t) = t.arguments

-- the kind of a routine's result
abbrev pub result_of : Option Routine → Kind
result_of None = kind.Any
result_of (Some t) = t.result

-- the number of operands that an instruction needs
abbrev pub needs : Program → Instr → ℕ
needs p instr.Load = 0
needs p (instr.Const c) = 0
needs p (instr.Get v) = 0
needs p (instr.Bind v) = 1
needs p instr.Dup = 1
needs p instr.Drop = 1
needs p (instr.Tuple n l) = 1
needs p (instr.Field i) = 1
needs p (instr.Cons l) = 1
needs p instr.Head = 1
needs p instr.Tail = 1
needs p (instr.Map l) = 1
needs p (instr.Value c l) = 1
needs p (instr.Equal l) = 2
needs p (instr.Jump l) = 0
needs p (instr.Call f n l) = n
needs p (instr.Int l) = 1
needs p (instr.Arith f l) = 2
needs p (instr.Bool l) = 1
needs p (instr.Branch l) = 1
needs p (instr.MakeTuple n l) = n
needs p (instr.MakeCons l) = 2
needs p (instr.MakeMap c l) = unwrap_or (key_count p c) 0
needs p instr.Answer = 1
needs p instr.NoAnswer = 0
needs p (instr.Invoke r l) = length (arguments_of (routine_at p r))
needs p instr.Return = 1
needs p instr.Fail = 0

-- the constant that an instruction names exists and has the form that it needs
abbrev pub IsConstantFit : Program → Instr → Type 0
IsConstantFit p (instr.Const c) = c < length p.constants
IsConstantFit p (instr.Value c l) = c < length p.constants
IsConstantFit p (instr.MakeMap c l) = IsSome (key_count p c)
IsConstantFit p i = Unit {0}

-- whether the kinds of the operands are those that an instruction needs, FIELD's place is one of the tuple's, and
-- CALL's function takes this number of arguments
abbrev pub kinds_fit : Instr → List Kind → Bool
kinds_fit (instr.Field i) (kind.Tuple n ∷ ks) = nat_lt 0 i && nat_le i n
kinds_fit (instr.Field i) ks = false
kinds_fit instr.Head (kind.Cons ∷ ks) = true
kinds_fit instr.Head ks = false
kinds_fit instr.Tail (kind.Cons ∷ ks) = true
kinds_fit instr.Tail ks = false
kinds_fit (instr.Value c l) (kind.Map ∷ ks) = true
kinds_fit (instr.Value c l) ks = false
kinds_fit (instr.Call f n l) ks = takes (prim.Function f) n
kinds_fit (instr.Arith f l) (kind.Int ∷ kind.Int ∷ ks) = true
kinds_fit (instr.Arith f l) ks = false
kinds_fit (instr.Branch l) (kind.Bool ∷ ks) = true
kinds_fit (instr.Branch l) ks = false
kinds_fit i ks = true

-- whether kinds from the top are equal to these or below them, one each
abbrev pub are_below : List Kind → List Kind → Bool
are_below ks [] = true
are_below [] (l ∷ ls) = false
are_below (k ∷ ks) (l ∷ ls) = if is_below k l then are_below ks ls else false

-- whether a kind at the top exists and is equal to this one or below it
abbrev pub is_top_below : Option Kind → Kind → Bool
is_top_below None l = false
is_top_below (Some k) l = is_below k l

-- whether the arguments of INVOKE are of its routine's kinds, and the result with which RETURN ends its routine is of
-- that routine's kind
abbrev pub passes : Program → Instr → List Kind → Bool
passes p (instr.Invoke r l) ks = are_below ks (reverse (arguments_of (routine_at p r)))
passes p instr.Return ks = is_top_below (slice_get ks 0) (result_of (own_routine p))
passes p i ks = true

-- whether the slot exists, and is bound if it is read
abbrev pub slot_fits : Program → Instr → List Bool → Bool
slot_fits p (instr.Get v) bound = is_bound bound v
slot_fits p (instr.Bind v) bound = nat_lt v p.slots
slot_fits p i bound = true

-- the kind of a function's result
abbrev pub given_kind : Gives → Kind
given_kind gives.Boolean = kind.Bool
given_kind gives.Integer = kind.Int
given_kind gives.Any = kind.Any

-- the kind at the top, Any if there is none
abbrev pub top_kind : List Kind → Kind
top_kind [] = kind.Any
top_kind (k ∷ ks) = k

-- the kinds, from the top, that replace the operands after an instruction went on
abbrev pub pushed_kinds : Program → Instr → List Kind → List Kind
pushed_kinds p instr.Load ks = kind.Any ∷ []
pushed_kinds p (instr.Const c) ks = option_map_or kind_of (slice_get p.constants c) kind.Any ∷ []
pushed_kinds p (instr.Get v) ks = kind.Any ∷ []
pushed_kinds p (instr.Bind v) ks = []
pushed_kinds p instr.Dup ks = top_kind ks ∷ top_kind ks ∷ []
pushed_kinds p instr.Drop ks = []
pushed_kinds p (instr.Tuple n l) ks = kind.Tuple n ∷ []
pushed_kinds p (instr.Field i) ks = kind.Any ∷ []
pushed_kinds p (instr.Cons l) ks = kind.Cons ∷ []
pushed_kinds p instr.Head ks = kind.Any ∷ []
pushed_kinds p instr.Tail ks = kind.Any ∷ []
pushed_kinds p (instr.Map l) ks = kind.Map ∷ []
pushed_kinds p (instr.Value c l) ks = kind.Any ∷ []
pushed_kinds p (instr.Equal l) ks = []
pushed_kinds p (instr.Jump l) ks = []
pushed_kinds p (instr.Call f n l) ks = given_kind (gives_of (prim.Function f)) ∷ []
pushed_kinds p (instr.Int l) ks = kind.Int ∷ []
pushed_kinds p (instr.Arith f l) ks = kind.Int ∷ []
pushed_kinds p (instr.Bool l) ks = kind.Bool ∷ []
pushed_kinds p (instr.Branch l) ks = []
pushed_kinds p (instr.MakeTuple n l) ks = kind.Tuple n ∷ []
pushed_kinds p (instr.MakeCons l) ks = kind.Cons ∷ []
pushed_kinds p (instr.MakeMap c l) ks = kind.Map ∷ []
pushed_kinds p instr.Answer ks = []
pushed_kinds p instr.NoAnswer ks = []
pushed_kinds p (instr.Invoke r l) ks = result_of (routine_at p r) ∷ []
pushed_kinds p instr.Return ks = []
pushed_kinds p instr.Fail ks = []

-- the slots that are bound after an instruction went on
abbrev pub left_bound : Instr → List Bool → List Bool
left_bound (instr.Bind v) bound = set bound v true
left_bound i bound = bound

-- the state that an instruction leaves if it goes on
abbrev pub left_shape : Program → Instr → Shape → Shape
left_shape p i s =
    record {
      kinds =
          pushed_kinds p i s.kinds ++ drop (needs p i) s.kinds;
      bound = left_bound i s.bound;
    }

-- whether the top stays if the instruction jumps
abbrev pub top_stays : Instr → Bool
top_stays (instr.Tuple n l) = true
top_stays (instr.Cons l) = true
top_stays (instr.Map l) = true
top_stays (instr.Int l) = true
top_stays (instr.Bool l) = true
top_stays i = false

-- the state with which an instruction jumps, before the cut
abbrev pub jump_shape : Program → Instr → Shape → Shape
jump_shape p i s =
    record { kinds = if top_stays i then s.kinds else drop (needs p i) s.kinds; bound = s.bound }

-- the state that falls into the next instruction, None if the instruction does not go on
abbrev pub falling_shape : Program → Instr → Shape → Option Shape
falling_shape p i s = if goes_on i then Some (left_shape p i s) else None
