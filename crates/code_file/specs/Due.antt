-- What is due at a place of a code file, given the bytes before it.
use Rattle.std.specs.Prelude.{ℕ, suc, ◌≡◌, ◌-◌, ◌<◌, List, [], ◌∷◌, ◌++◌, take}
use Rattle.term_core.specs.Datum.{Datum}
use Rattle.term_core.specs.Sizes.{depth_limit}
use Rattle.term_order.specs.Keys.{IsAboveKeys}
use Rattle.prims_table.specs.declared.prim.Function.{Function}
use Rattle.prims_table.specs.declared.prim.Arithmetic.{Arithmetic}
use Rattle.mcode.specs.Program.{Body, Routine, Frame, Rise, place_number, frame_number}
use Rattle.mcode.specs.declared.kind.Kind.{Kind}
use Rattle.mcode.specs.declared.instr.Instr.{Instr}
use Rattle.code_writer.specs.declared.opcode.Opcode.TheVariants as opcode
use Rattle.code_writer.specs.declared.opcode.Slotted.{Slotted}
use Rattle.code_writer.specs.declared.opcode.Single.{Single}
use Rattle.code_writer.specs.declared.opcode.Double.{Double}
use Rattle.code_writer.specs.File.{magic, version, routine_version, plain_opcode, most_opcode}
use Rattle.code_writer.specs.Format.{Begins, rows, counted, such}
use Rattle.code_writer.specs.Formats.{u8_format, u16_format, opcode_format, function_format, arithmetic_format, instruction_format, instructions_format, constant_format, constants_format, place_format, places_format, frame_format, pair_format, length_format, size_format, RisingPairs, slot_count_format, body_count_format, body_format, argument_count_format, any_kind_format, arguments_format, signature_format, routine_format}

-- the second bytes begin with the first
abbrev pub BeginsWith : List ℕ → List ℕ → Type 0
BeginsWith front bytes = (more : List ℕ) × (bytes ≡ front ++ more)

-- a number is above that of the last of these, if there is one
abbrev pub IsAbove : {X : Type 0} → (X → ℕ) → List X → ℕ → Type 0
IsAbove number [] n = Unit {0}
IsAbove number (x ∷ []) n = number x < n
IsAbove number (x ∷ y ∷ xs) n = IsAbove number (y ∷ xs) n

-- what comes after a number that says how many items there are; instructions have numbers up to the one given, and
-- terms and pairs have the given number of levels left
pub data Row : Type 0 where
  constants : Row
  instructions : ℕ → Row
  frames : Row
  kinds : Row
  routines : Row
  places : Row
  slots : Row
  terms : ℕ → Row
  pairs : ℕ → Row

-- what may be due at a place of a file
pub data Item : Type 0 where
  a_magic : Item
  a_version : Item
  -- what follows the version: code without routines, or code with routines
  a_plain_code : Item
  a_code : Item
  a_slot_count : Item
  -- the number of bodies, a body, a routine from the number of its arguments on, and the kind of an argument or a
  -- result
  a_body_count : Item
  a_body : Item
  a_routine : Item
  a_signature_kind : Item
  -- the number of items of a row, and this number of its items
  a_count : Row → Item
  many : Row → ℕ → Item
  -- a term with this number of levels left, a list's tail with this number of levels left, which is not a list, and a
  -- pair after these
  a_term : ℕ → Item
  a_tail : ℕ → Item
  a_pair : ℕ → List (Datum × Datum) → Item
  -- the number of an atom's bytes, this number of bytes of an atom, the number of a list's elements and of a binary's
  -- bytes
  a_text_size : Item
  a_text : ℕ → Item
  a_list_length : Item
  a_binary_size : Item
  an_instruction : ℕ → Item
  a_function : Item
  an_arithmetic : Item
  -- a frame after these, its depth, a place after these, its kind, and a slot after these
  a_frame : List Frame → Item
  a_depth : Item
  a_place : List (ℕ × Kind) → Item
  a_kind : Item
  a_slot : List ℕ → Item
  -- this number of bytes, whatever they are
  so_many : ℕ → Item

-- Reading the file from its beginning gives no fault up to a rest, the last argument, and there this item is due.
pub data Due (file : List ℕ) : Item → List ℕ → Type 0 where
  start : BeginsWith (take 4 file) magic → Due file a_magic file
  behind_magic : {t : List ℕ} → file ≡ magic ++ t → Due file a_version t
  plain_code : {t u : List ℕ} → Due file a_version t → Begins u16_format t version u
      → Due file a_plain_code u
  plain_slots : {t : List ℕ} → Due file a_plain_code t → Due file a_slot_count t
  plain_constants : {n : ℕ} {t u : List ℕ} → Due file a_plain_code t
      → Begins slot_count_format t n u → Due file (a_count constants) u
  plain_instructions : {n : ℕ} {ds : List Datum} {t u v : List ℕ} → Due file a_plain_code t
      → Begins slot_count_format t n u → Begins constants_format u ds v
      → Due file (a_count (instructions plain_opcode)) v
  code : {t u : List ℕ} → Due file a_version t → Begins u16_format t routine_version u
      → Due file a_code u
  code_constants : {t : List ℕ} → Due file a_code t → Due file (a_count constants) t
  body_count : {ds : List Datum} {t u : List ℕ} → Due file a_code t → Begins constants_format t ds u
      → Due file a_body_count u
  main_body : {n : ℕ} {t u : List ℕ} → Due file a_body_count t → Begins body_count_format t n u
      → Due file a_body u
  behind_main_body : {n : ℕ} {b : Body} {t u v : List ℕ} → Due file a_body_count t
      → Begins body_count_format t n u → Begins body_format u b v → Due file (many routines (n - 1)) v
  body_slots : {t : List ℕ} → Due file a_body t → Due file a_slot_count t
  body_instructions : {n : ℕ} {t u : List ℕ} → Due file a_body t → Begins slot_count_format t n u
      → Due file (a_count (instructions most_opcode)) u
  behind_instructions : {most : ℕ} {is : List Instr} {t u : List ℕ}
      → Due file (a_count (instructions most)) t → Begins (instructions_format most) t is u
      → Due file (a_count frames) u
  behind_count : {row : Row} {n : ℕ} {t u : List ℕ} → Due file (a_count row) t
      → Begins u16_format t n u → Due file (many row n) u
  -- constants, and terms in terms
  constant : {n : ℕ} {t : List ℕ} → Due file (many constants n) t
      → Due file (many (terms depth_limit) n) t
  integer : {levels : ℕ} {t : List ℕ} → Due file (a_term (suc levels)) (1 ∷ t) → Due file (so_many 8) t
  text_size : {levels : ℕ} {t : List ℕ} → Due file (a_term (suc levels)) (2 ∷ t)
      → Due file a_text_size t
  text : {n : ℕ} {t u : List ℕ} → Due file a_text_size t → Begins u16_format t n u
      → Due file (a_text n) u
  tuple : {levels : ℕ} {t : List ℕ} → Due file (a_term (suc levels)) (3 ∷ t)
      → Due file (a_count (terms levels)) t
  map : {levels : ℕ} {t : List ℕ} → Due file (a_term (suc levels)) (4 ∷ t)
      → Due file (a_count (pairs levels)) t
  list_length : {levels : ℕ} {t : List ℕ} → Due file (a_term (suc levels)) (6 ∷ t)
      → Due file a_list_length t
  elements : {levels n : ℕ} {t u : List ℕ} → Due file (a_term (suc levels)) (6 ∷ t)
      → Begins length_format t n u → Due file (many (terms levels) n) u
  tail : {levels : ℕ} {ds : List Datum} {t u : List ℕ} → Due file (a_term (suc levels)) (6 ∷ t)
      → Begins (counted length_format (constant_format levels)) t ds u → Due file (a_tail levels) u
  tail_term : {levels : ℕ} {t : List ℕ} → Due file (a_tail levels) t → ¬ BeginsWith (6 ∷ []) t
      → Due file (a_term levels) t
  binary_size : {levels : ℕ} {t : List ℕ} → Due file (a_term (suc levels)) (7 ∷ t)
      → Due file a_binary_size t
  content : {n : ℕ} {t u : List ℕ} → Due file a_binary_size t → Begins size_format t n u
      → Due file (so_many n) u
  term : {levels n k : ℕ} {ds : List Datum} {t u : List ℕ} → Due file (many (terms levels) n) t
      → Begins (rows (constant_format levels) k) t ds u → k < n → Due file (a_term levels) u
  pair : {levels n k : ℕ} {ps : List (Datum × Datum)} {t u : List ℕ}
      → Due file (many (pairs levels) n) t
      → Begins (such (rows (pair_format levels) k) RisingPairs) t ps u → k < n
      → Due file (a_pair levels ps) u
  key : {levels : ℕ} {ps : List (Datum × Datum)} {t : List ℕ} → Due file (a_pair levels ps) t
      → Due file (a_term levels) t
  value : {levels : ℕ} {ps : List (Datum × Datum)} {k : Datum} {t u : List ℕ}
      → Due file (a_pair levels ps) t → Begins (constant_format levels) t k u → IsAboveKeys ps k
      → Due file (a_term levels) u
  -- instructions
  instruction : {most n k : ℕ} {is : List Instr} {t u : List ℕ} → Due file (many (instructions most) n) t
      → Begins (rows (instruction_format most) k) t is u → k < n → Due file (an_instruction most) u
  argument_slot : {most : ℕ} {o : Slotted} {t u : List ℕ} → Due file (an_instruction most) t
      → Begins (opcode_format most) t (opcode.Slotted o) u → Due file (so_many 1) u
  argument : {most : ℕ} {o : Single} {t u : List ℕ} → Due file (an_instruction most) t
      → Begins (opcode_format most) t (opcode.Single o) u → Due file (so_many 2) u
  arguments : {most : ℕ} {o : Double} {t u : List ℕ} → Due file (an_instruction most) t
      → Begins (opcode_format most) t (opcode.Double o) u → Due file (so_many 4) u
  function : {most : ℕ} {t u : List ℕ} → Due file (an_instruction most) t → Begins (opcode_format most) t opcode.Call u
      → Due file a_function u
  behind_function : {f : Function} {t u : List ℕ} → Due file a_function t
      → Begins function_format t f u → Due file (so_many 4) u
  arithmetic : {most : ℕ} {t u : List ℕ} → Due file (an_instruction most) t → Begins (opcode_format most) t opcode.Arith u
      → Due file an_arithmetic u
  behind_arithmetic : {a : Arithmetic} {t u : List ℕ} → Due file an_arithmetic t
      → Begins arithmetic_format t a u → Due file (so_many 2) u
  -- frames
  frame : {n k : ℕ} {fs : List Frame} {t u : List ℕ} → Due file (many frames n) t
      → Begins (such (rows frame_format k) (Rise frame_number)) t fs u → k < n
      → Due file (a_frame fs) u
  depth : {pc : ℕ} {fs : List Frame} {t u : List ℕ} → Due file (a_frame fs) t
      → Begins u16_format t pc u → IsAbove frame_number fs pc → Due file a_depth u
  behind_depth : {n : ℕ} {t u : List ℕ} → Due file a_depth t → Begins u16_format t n u
      → Due file (a_count places) u
  place : {n k : ℕ} {ps : List (ℕ × Kind)} {t u : List ℕ} → Due file (many places n) t
      → Begins (such (rows place_format k) (Rise place_number)) t ps u → k < n
      → Due file (a_place ps) u
  kind : {n : ℕ} {ps : List (ℕ × Kind)} {t u : List ℕ} → Due file (a_place ps) t
      → Begins u16_format t n u → IsAbove place_number ps n → Due file a_kind u
  tuple_size : {t : List ℕ} → Due file a_kind (5 ∷ t) → Due file (so_many 2) t
  behind_places : {ps : List (ℕ × Kind)} {t u : List ℕ} → Due file (a_count places) t
      → Begins places_format t ps u → Due file (a_count slots) u
  slot : {n k : ℕ} {vs : List ℕ} {t u : List ℕ} → Due file (many slots n) t
      → Begins (such (rows u8_format k) (Rise (λ v. v))) t vs u → k < n → Due file (a_slot vs) u
  -- routines
  routine : {n k : ℕ} {ts : List Routine} {t u : List ℕ} → Due file (many routines n) t
      → Begins (rows routine_format k) t ts u → k < n → Due file a_routine u
  argument_kinds : {n : ℕ} {t u : List ℕ} → Due file a_routine t
      → Begins argument_count_format t n u → Due file (many kinds n) u
  argument_kind : {n k : ℕ} {ks : List Kind} {t u : List ℕ} → Due file (many kinds n) t
      → Begins (rows any_kind_format k) t ks u → k < n → Due file a_signature_kind u
  result_kind : {ks : List Kind} {t u : List ℕ} → Due file a_routine t
      → Begins arguments_format t ks u → Due file a_signature_kind u
  told_kind : {t : List ℕ} → Due file a_signature_kind t → ¬ BeginsWith (0 ∷ []) t
      → Due file a_kind t
  routine_body : {s : List Kind × Kind} {t u : List ℕ} → Due file a_routine t
      → Begins signature_format t s u → Due file a_body u
