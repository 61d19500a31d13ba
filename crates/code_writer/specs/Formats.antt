-- The formats of the parts of a code file.
use Rattle.std.specs.Prelude.{ℕ, suc, ℤ, ◌≡◌, ◌<◌, ◌≤◌, ◌≢◌, ◌^◌, List, [], ◌∷◌, ◌++◌, length, FitsSigned}
use Rattle.std.specs.Int.{w64}
use Rattle.std.specs.Str.{IsUtf8}
use Rattle.std.specs.List.{AllByRecursion, flat_map}
use Rattle.prims_table.specs.Numbers.{function_number, arithmetic_number}
use Rattle.prims_table.specs.declared.prim.Function.{Function}
use Rattle.prims_table.specs.declared.prim.Arithmetic.{Arithmetic}
use Rattle.term_core.specs.Datum.{Datum, entries_of}
use Rattle.term_core.specs.Datum.Datum.{cons}
use Rattle.term_core.specs.Limits.{IsSound, depth}
use Rattle.term_core.specs.MapPairs.{AreRising}
use Rattle.term_core.specs.Sizes.{depth_limit, list_limit, binary_limit}
use Rattle.mcode.specs.Program.{Frame, Rise, place_number, frame_number, Program, Body, Routine, most_slots, most_routines, most_arguments, seen_body}
use Rattle.mcode.specs.declared.kind.Kind.{Kind}
use Rattle.mcode.specs.declared.kind.Kind.TheVariants as kind
use Rattle.mcode.specs.declared.instr.Instr.{Instr}
use Rattle.code_writer.specs.Opcodes.{opcode_number}
use Rattle.code_writer.specs.declared.opcode.Opcode.{Opcode}
use Rattle.code_writer.specs.Spelling.{u16_bytes, u32_bytes, i64_bytes, constant_bytes, instruction_bytes, kind_bytes, frame_bytes, body_bytes, any_kind_bytes, routine_bytes}
use Rattle.code_writer.specs.File.{IsU8, IsU16, HoldsArguments, HoldsSize, IsUpTo, plain_opcode, most_opcode}
use Rattle.code_writer.specs.Format.{Format, both, counted, such, through}

abbrev pub u8_format : Format ℕ
u8_format = record { spell = λ n. n ∷ []; Fits = IsU8 }

abbrev pub u16_format : Format ℕ
u16_format = record { spell = u16_bytes; Fits = IsU16 }

abbrev pub u32_format : Format ℕ
u32_format = record { spell = u32_bytes; Fits = λ n. n < 2 ^ 32 }

abbrev pub i64_format : Format ℤ
i64_format = record { spell = i64_bytes; Fits = FitsSigned w64 }

-- n bytes
abbrev pub bytes_format : ℕ → Format (List ℕ)
bytes_format n = record { spell = λ bs. bs; Fits = λ bs. length bs ≡ n }

-- an instruction with a number up to this one
abbrev pub instruction_format : ℕ → Format Instr
instruction_format most =
    record { spell = instruction_bytes; Fits = λ i. HoldsArguments i × IsUpTo most i }

-- a term of at most this depth
abbrev pub constant_format : ℕ → Format Datum
constant_format room =
    record {
      spell = constant_bytes;
      Fits = λ d. IsSound d × (depth d ≤ room);
    }

-- an opcode with a number up to this one
abbrev pub opcode_format : ℕ → Format Opcode
opcode_format most =
    record { spell = λ o. opcode_number o ∷ []; Fits = λ o. opcode_number o ≤ most }

-- a function other than those of two integers
abbrev pub function_format : Format Function
function_format = record { spell = λ f. function_number f ∷ []; Fits = λ _. Unit {0} }

-- a function of two integers
abbrev pub arithmetic_format : Format Arithmetic
arithmetic_format = record { spell = λ a. arithmetic_number a ∷ []; Fits = λ _. Unit {0} }

-- a kind other than Any
abbrev pub kind_format : Format Kind
kind_format = record { spell = kind_bytes; Fits = λ k. HoldsSize k × (k ≢ kind.Any) }

abbrev pub place_format : Format (ℕ × Kind)
place_format = both u16_format kind_format

-- the places of a frame
abbrev pub places_format : Format (List (ℕ × Kind))
places_format = such (counted u16_format place_format) (Rise place_number)

-- the slots of a frame
abbrev pub slots_format : Format (List ℕ)
slots_format =
    record {
      spell = λ vs. u16_bytes (length vs) ++ vs;
      Fits = λ vs. (IsU16 (length vs) × AllByRecursion IsU8 vs) × Rise (λ slot. slot) vs;
    }

-- a frame without the number of its instruction
abbrev pub frame_rest_format : Format (ℕ × (List (ℕ × Kind) × List ℕ))
frame_rest_format = both u16_format (both places_format slots_format)

abbrev pub frame_format : Format Frame
frame_format =
    record {
      spell = frame_bytes;
      Fits = λ f. (both u16_format frame_rest_format).Fits
          (f.pc, (f.depth, (f.places, f.slots)));
    }

-- ---- terms

-- the bytes of an atom, after their number
abbrev pub utf8_format : Format (List ℕ)
utf8_format =
    record {
      spell = λ bs. u16_bytes (length bs) ++ bs;
      Fits = λ bs. IsU16 (length bs) × IsUtf8 bs;
    }

-- the number of bytes of a binary
abbrev pub size_format : Format ℕ
size_format = record { spell = u32_bytes; Fits = λ n. n ≤ binary_limit }

-- the bytes of a binary, after their number
abbrev pub binary_format : Format (List ℕ)
binary_format =
    record {
      spell = λ bs. u32_bytes (length bs) ++ bs;
      Fits = λ bs. length bs ≤ binary_limit;
    }

-- the elements of a tuple
abbrev pub tuple_format : ℕ → Format (List Datum)
tuple_format room = counted u16_format (constant_format room)

-- a key and its value
abbrev pub pair_format : ℕ → Format (Datum × Datum)
pair_format room = both (constant_format room) (constant_format room)

-- pairs with ascending keys
abbrev pub RisingPairs : List (Datum × Datum) → Type 0
RisingPairs ps = AreRising (entries_of ps)

-- the pairs of a map
abbrev pub map_format : ℕ → Format (List (Datum × Datum))
map_format room = such (counted u16_format (pair_format room)) RisingPairs

-- a term that is not a list with elements
abbrev pub IsNoCell : Datum → Type 0
IsNoCell (cons head tail) = ⊥
IsNoCell d = Unit {0}

-- a number of elements that a list may have
abbrev pub IsListLength : ℕ → Type 0
IsListLength n = (0 < n) × (n ≤ list_limit)

-- the number of a list's elements
abbrev pub length_format : Format ℕ
length_format = record { spell = u32_bytes; Fits = IsListLength }

-- the elements of a list and its tail
abbrev pub list_format : ℕ → Format (List Datum × Datum)
list_format room =
    both (counted length_format (constant_format room)) (such (constant_format room) IsNoCell)

-- ---- bodies

abbrev pub constants_format : Format (List Datum)
constants_format = counted u16_format (constant_format depth_limit)

abbrev pub instructions_format : ℕ → Format (List Instr)
instructions_format most = counted u16_format (instruction_format most)

abbrev pub frames_format : Format (List Frame)
frames_format = such (counted u16_format frame_format) (Rise frame_number)

-- the instructions, with numbers up to this one, and the frames of a body
abbrev pub parts_format : ℕ → Format (List Instr × List Frame)
parts_format most = both (instructions_format most) frames_format

-- the number of slots of a body
abbrev pub slot_count_format : Format ℕ
slot_count_format = such u16_format (λ n. n ≤ most_slots)

abbrev pub body_parts : Body → ℕ × (List Instr × List Frame)
body_parts b = (b.slots, (b.instructions, b.frames))

-- a body of code with routines
abbrev pub body_format : Format Body
body_format = through body_parts (both slot_count_format (parts_format most_opcode))

-- the kind of an argument or a result
abbrev pub any_kind_format : Format Kind
any_kind_format = record { spell = any_kind_bytes; Fits = HoldsSize }

-- the number of arguments of a routine
abbrev pub argument_count_format : Format ℕ
argument_count_format = such u16_format (λ n. n ≤ most_arguments)

abbrev pub arguments_format : Format (List Kind)
arguments_format = counted argument_count_format any_kind_format

-- the arguments of a routine and its result
abbrev pub signature_format : Format (List Kind × Kind)
signature_format = both arguments_format any_kind_format

abbrev pub routine_parts : Routine → (List Kind × Kind) × Body
routine_parts t = ((t.arguments, t.result), t.body)

abbrev pub routine_format : Format Routine
routine_format = through routine_parts (both signature_format body_format)

-- the number of bodies of code with routines
abbrev pub body_count_format : Format ℕ
body_count_format = such u16_format (λ n. (2 ≤ n) × (n ≤ suc most_routines))

-- the number of all bodies, and then the main body and the routines
abbrev pub bodies_format : Format (Body × List Routine)
bodies_format =
    record {
      spell =
          λ p. u16_bytes (suc (length p.1))
          ++ (body_bytes p.0 ++ flat_map routine_bytes p.1);
      Fits = λ p. body_count_format.Fits (suc (length p.1))
          × (body_format.Fits p.0 × AllByRecursion routine_format.Fits p.1);
    }

-- ---- files after their version

-- code without routines
abbrev pub plain_format : Format (ℕ × (List Datum × (List Instr × List Frame)))
plain_format = both slot_count_format (both constants_format (parts_format plain_opcode))

abbrev pub plain_parts : Program → ℕ × (List Datum × (List Instr × List Frame))
plain_parts p = (p.slots, (p.constants, (p.instructions, p.frames)))

-- code with routines
abbrev pub code_format : Format (List Datum × (Body × List Routine))
code_format = both constants_format bodies_format

abbrev pub code_parts : Program → List Datum × (Body × List Routine)
code_parts p = (p.constants, (seen_body p, p.around.routines))
