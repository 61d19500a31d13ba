-- How the parts of code are spelled in a code file. Numbers are big-endian.
use Rattle.std.specs.Prelude.{ℕ, ℤ, List, [], ◌∷◌, ◌++◌, length}
use Rattle.std.specs.Int.{w16, w32, w64, to_be_bytes, cast_unsigned}
use Rattle.std.specs.Str.{encode_utf8_all}
use Rattle.std.specs.List.{flat_map}
use Rattle.prims_table.specs.Numbers.{function_number, arithmetic_number}
use Rattle.term_core.specs.Datum.{Datum, Items, Entries, item_count, entry_count, cell_count}
use Rattle.term_core.specs.Datum.Datum.{integer, atom, tuple, map, nil, cons, binary}
use Rattle.term_core.specs.Datum.Items.{no_items, item}
use Rattle.term_core.specs.Datum.Entries.{no_entries, entry}
use Rattle.mcode.specs.Program.{Frame, Body, Routine}
use Rattle.mcode.specs.declared.kind.Kind.{Kind}
use Rattle.mcode.specs.declared.kind.Kind.TheVariants as kind
use Rattle.mcode.specs.declared.instr.Instr.{Instr}
use Rattle.mcode.specs.declared.instr.Instr.TheVariants as instr

-- a number as two bytes
unfoldable pub u16_bytes : ℕ → List ℕ
u16_bytes n = to_be_bytes w16 n

-- a number as four bytes
unfoldable pub u32_bytes : ℕ → List ℕ
u32_bytes n = to_be_bytes w32 n

-- an integer as eight bytes, in two's complement
unfoldable pub i64_bytes : ℤ → List ℕ
i64_bytes z = to_be_bytes w64 (cast_unsigned w64 z)

-- the number of bytes of an atom's characters in UTF-8, and then these bytes
abbrev pub text_bytes : List ℕ → List ℕ
text_bytes characters =
    u16_bytes (length (encode_utf8_all characters)) ++ encode_utf8_all characters

abbrev mutual
  -- A term: its tag, and then what the tag requires. A list is its elements and then its tail, which is not a list with
  -- elements.
  pub constant_bytes : Datum → List ℕ
  constant_bytes (integer z) = 1 ∷ i64_bytes z
  constant_bytes (atom cs) = 2 ∷ text_bytes cs
  constant_bytes (tuple ds) = 3 ∷ u16_bytes (item_count ds) ++ items_bytes ds
  constant_bytes (map es) = 4 ∷ u16_bytes (entry_count es) ++ entries_bytes es
  constant_bytes nil = 5 ∷ []
  constant_bytes (cons head tail) =
      6 ∷ u32_bytes (cell_count (cons head tail)) ++ (constant_bytes head ++ cells_bytes tail)
  constant_bytes (binary bs) = 7 ∷ u32_bytes (length bs) ++ bs

  -- the elements of a tuple, one after the other
  pub items_bytes : Items → List ℕ
  items_bytes no_items = []
  items_bytes (item d ds) = constant_bytes d ++ items_bytes ds

  -- the pairs of a map, each a key and its value
  pub entries_bytes : Entries → List ℕ
  entries_bytes no_entries = []
  entries_bytes (entry k v es) = constant_bytes k ++ constant_bytes v ++ entries_bytes es

  -- what follows a list's first element: the other elements, and the tail as a term
  pub cells_bytes : Datum → List ℕ
  cells_bytes (cons head tail) = constant_bytes head ++ cells_bytes tail
  cells_bytes (integer z) = 1 ∷ i64_bytes z
  cells_bytes (atom cs) = 2 ∷ text_bytes cs
  cells_bytes (tuple ds) = 3 ∷ u16_bytes (item_count ds) ++ items_bytes ds
  cells_bytes (map es) = 4 ∷ u16_bytes (entry_count es) ++ entries_bytes es
  cells_bytes nil = 5 ∷ []
  cells_bytes (binary bs) = 7 ∷ u32_bytes (length bs) ++ bs

-- a key and its value
abbrev pub pair_bytes : Datum × Datum → List ℕ
pair_bytes pair = constant_bytes pair.0 ++ constant_bytes pair.1

-- an instruction: its number and then its arguments; slots and functions take one byte, all other numbers two
abbrev pub instruction_bytes : Instr → List ℕ
instruction_bytes instr.Load = 1 ∷ []
instruction_bytes (instr.Const c) = 2 ∷ u16_bytes c
instruction_bytes (instr.Get v) = 3 ∷ v ∷ []
instruction_bytes (instr.Bind v) = 4 ∷ v ∷ []
instruction_bytes instr.Dup = 5 ∷ []
instruction_bytes instr.Drop = 6 ∷ []
instruction_bytes (instr.Tuple n l) = 7 ∷ u16_bytes n ++ u16_bytes l
instruction_bytes (instr.Field i) = 8 ∷ u16_bytes i
instruction_bytes (instr.Cons l) = 9 ∷ u16_bytes l
instruction_bytes instr.Head = 10 ∷ []
instruction_bytes instr.Tail = 11 ∷ []
instruction_bytes (instr.Map l) = 12 ∷ u16_bytes l
instruction_bytes (instr.Value c l) = 13 ∷ u16_bytes c ++ u16_bytes l
instruction_bytes (instr.Equal l) = 14 ∷ u16_bytes l
instruction_bytes (instr.Jump l) = 15 ∷ u16_bytes l
instruction_bytes (instr.Call f n l) = 16 ∷ function_number f ∷ u16_bytes n ++ u16_bytes l
instruction_bytes (instr.Int l) = 17 ∷ u16_bytes l
instruction_bytes (instr.Arith a l) = 18 ∷ arithmetic_number a ∷ u16_bytes l
instruction_bytes (instr.Bool l) = 19 ∷ u16_bytes l
instruction_bytes (instr.Branch l) = 20 ∷ u16_bytes l
instruction_bytes (instr.MakeTuple n l) = 21 ∷ u16_bytes n ++ u16_bytes l
instruction_bytes (instr.MakeCons l) = 22 ∷ u16_bytes l
instruction_bytes (instr.MakeMap c l) = 23 ∷ u16_bytes c ++ u16_bytes l
instruction_bytes instr.Answer = 24 ∷ []
instruction_bytes instr.NoAnswer = 25 ∷ []
instruction_bytes (instr.Invoke r l) = 26 ∷ u16_bytes r ++ u16_bytes l
instruction_bytes instr.Return = 27 ∷ []
instruction_bytes instr.Fail = 28 ∷ []

-- the kind of a place in a frame, which is never Any
abbrev pub kind_bytes : Kind → List ℕ
kind_bytes kind.Any = []
kind_bytes kind.Int = 1 ∷ []
kind_bytes kind.Bool = 2 ∷ []
kind_bytes kind.Cons = 3 ∷ []
kind_bytes kind.Map = 4 ∷ []
kind_bytes (kind.Tuple n) = 5 ∷ u16_bytes n

-- a place in a frame and its kind
abbrev pub place_bytes : ℕ × Kind → List ℕ
place_bytes place = u16_bytes place.0 ++ kind_bytes place.1

-- a frame: its instruction, its depth, the number of its places and these, the number of its slots and these
abbrev pub frame_bytes : Frame → List ℕ
frame_bytes f =
    u16_bytes f.pc
    ++ (u16_bytes f.depth
    ++ ((u16_bytes (length f.places) ++ flat_map place_bytes f.places)
    ++ (u16_bytes (length f.slots) ++ f.slots)))

-- the number of constants, and then the constants
abbrev pub constants_bytes : List Datum → List ℕ
constants_bytes ds = u16_bytes (length ds) ++ flat_map constant_bytes ds

abbrev pub instructions_bytes : List Instr → List ℕ
instructions_bytes is = u16_bytes (length is) ++ flat_map instruction_bytes is

abbrev pub frames_bytes : List Frame → List ℕ
frames_bytes fs = u16_bytes (length fs) ++ flat_map frame_bytes fs

-- a body: its number of slots, its instructions and its frames
abbrev pub body_bytes : Body → List ℕ
body_bytes b =
    u16_bytes b.slots ++ (instructions_bytes b.instructions ++ frames_bytes b.frames)

-- the kind of an argument or a result, which may be Any
abbrev pub any_kind_bytes : Kind → List ℕ
any_kind_bytes kind.Any = 0 ∷ []
any_kind_bytes k = kind_bytes k

-- a routine: the number of its arguments and their kinds, the lowest first, the kind of its result, and its body
abbrev pub routine_bytes : Routine → List ℕ
routine_bytes t =
    ((u16_bytes (length t.arguments) ++ flat_map any_kind_bytes t.arguments)
    ++ any_kind_bytes t.result)
    ++ body_bytes t.body
