-- What is wrong where an item is due.
use Rattle.std.specs.Prelude.{ℕ, suc, ◌≢◌, ◌<◌, List, [], ◌∷◌, length}
use Rattle.std.specs.Str.{IsUtf8, encode_utf8_all}
use Rattle.prims_table.specs.Numbers.{function_number, arithmetic_number}
use Rattle.prims_table.specs.declared.prim.Function.{Function}
use Rattle.prims_table.specs.declared.prim.Arithmetic.{Arithmetic}
use Rattle.term_core.specs.Datum.{Datum}
use Rattle.term_core.specs.Limits.{AreScalars}
use Rattle.term_core.specs.Sizes.{atom_limit, list_limit, binary_limit}
use Rattle.term_order.specs.Keys.{IsAboveKeys}
use Rattle.mcode.specs.Program.{Frame, place_number, frame_number, most_slots, most_routines, most_arguments}
use Rattle.mcode.specs.declared.kind.Kind.{Kind}
use Rattle.mcode.specs.declared.instr.Instr.{Instr}
use Rattle.code_writer.specs.Spelling.{constant_bytes, instruction_bytes, kind_bytes}
use Rattle.code_writer.specs.File.{IsUpTo}
use Rattle.code_writer.specs.Format.{Begins}
use Rattle.code_writer.specs.Formats.{u8_format, u16_format, u32_format, bytes_format, constant_format}
use Rattle.code_file.specs.Due.{BeginsWith, IsAbove, Item, Due}
use Rattle.code_file.specs.Due.Item.{a_magic, a_version, a_plain_code, a_code, a_slot_count, a_body_count, a_body, a_routine, a_signature_kind, a_count, many, a_term, a_tail, a_pair, a_text_size, a_text, a_list_length, a_binary_size, an_instruction, a_function, an_arithmetic, a_frame, a_depth, a_place, a_kind, a_slot, so_many}
use Rattle.code_file.specs.declared.stop.FileCause.{FileCause}
use Rattle.code_file.specs.declared.stop.FileCause.TheVariants as causes

-- The number of bytes that an item has at least, before anything else is due in it.
abbrev pub width : Item → ℕ
width a_magic = 4
width a_version = 2
width a_plain_code = 0
width a_code = 0
width a_slot_count = 2
width a_body_count = 2
width a_body = 0
width a_routine = 2
width a_signature_kind = 1
width (a_count row) = 2
width (many row n) = 0
width (a_term levels) = 1
width (a_tail levels) = 1
width (a_pair levels ps) = 1
width a_text_size = 2
width (a_text n) = n
width a_list_length = 4
width a_binary_size = 4
width (an_instruction most) = 1
width a_function = 1
width an_arithmetic = 1
width (a_frame fs) = 2
width a_depth = 2
width (a_place ps) = 2
width a_kind = 1
width (a_slot vs) = 1
width (so_many n) = n

-- What is wrong in the file; the last argument is the rest of the file from that place on.
pub data IsWrong (file : List ℕ) : FileCause → List ℕ → Type 0 where
  -- the file ends before the item that is due does
  cut_off : {i : Item} {t : List ℕ} → Due file i t → length t < width i
      → IsWrong file causes.Truncated []
  -- a byte begins no term, instruction or kind, or is not the number of a function
  no_tag : {levels b : ℕ} {t : List ℕ} → Due file (a_term (suc levels)) (b ∷ t)
      → ((d : Datum) → ¬ BeginsWith (b ∷ []) (constant_bytes d))
      → IsWrong file causes.BadOpcode (b ∷ t)
  no_opcode : {most b : ℕ} {t : List ℕ} → Due file (an_instruction most) (b ∷ t)
      → ((i : Instr) → IsUpTo most i → ¬ BeginsWith (b ∷ []) (instruction_bytes i))
      → IsWrong file causes.BadOpcode (b ∷ t)
  no_function : {b : ℕ} {t : List ℕ} → Due file a_function (b ∷ t)
      → ((f : Function) → function_number f ≢ b) → IsWrong file causes.BadOpcode (b ∷ t)
  no_arithmetic : {b : ℕ} {t : List ℕ} → Due file an_arithmetic (b ∷ t)
      → ((a : Arithmetic) → arithmetic_number a ≢ b) → IsWrong file causes.BadOpcode (b ∷ t)
  no_kind : {b : ℕ} {t : List ℕ} → Due file a_kind (b ∷ t)
      → ((k : Kind) → ¬ BeginsWith (b ∷ []) (kind_bytes k)) → IsWrong file causes.BadOpcode (b ∷ t)
  -- a key, a frame, a place or a slot is not above the one before it
  low_key : {levels : ℕ} {ps : List (Datum × Datum)} {k : Datum} {t u : List ℕ}
      → Due file (a_pair levels ps) t → Begins (constant_format levels) t k u → ¬ IsAboveKeys ps k
      → IsWrong file causes.NotCanonical t
  low_frame : {pc : ℕ} {fs : List Frame} {t u : List ℕ} → Due file (a_frame fs) t
      → Begins u16_format t pc u → ¬ IsAbove frame_number fs pc
      → IsWrong file causes.NotCanonical t
  low_place : {n : ℕ} {ps : List (ℕ × Kind)} {t u : List ℕ} → Due file (a_place ps) t
      → Begins u16_format t n u → ¬ IsAbove place_number ps n → IsWrong file causes.NotCanonical t
  low_slot : {v : ℕ} {vs : List ℕ} {t u : List ℕ} → Due file (a_slot vs) t
      → Begins u8_format t v u → ¬ IsAbove (λ v. v) vs v → IsWrong file causes.NotCanonical t
  -- there is one body or none, although code without routines has another version
  few_bodies : {n : ℕ} {t u : List ℕ} → Due file a_body_count t → Begins u16_format t n u → n < 2
      → IsWrong file causes.NotCanonical t
  -- a list has no elements, or a list as its tail, or an atom's bytes are not UTF-8
  no_elements : {t u : List ℕ} → Due file a_list_length t → Begins u32_format t 0 u
      → IsWrong file causes.NotCanonical t
  list_as_tail : {levels : ℕ} {t : List ℕ} → Due file (a_tail levels) t → BeginsWith (6 ∷ []) t
      → IsWrong file causes.NotCanonical t
  no_text : {n : ℕ} {bs t u : List ℕ} → Due file (a_text n) t → Begins (bytes_format n) t bs u
      → ¬ IsUtf8 bs → IsWrong file causes.NotCanonical t
  -- there are more slots, bodies or arguments than code may have, or more elements, bytes or characters than a term may
  -- have, or no level is left for a term
  many_slots : {n : ℕ} {t u : List ℕ} → Due file a_slot_count t → Begins u16_format t n u
      → most_slots < n → IsWrong file causes.Limit t
  many_bodies : {n : ℕ} {t u : List ℕ} → Due file a_body_count t → Begins u16_format t n u
      → suc most_routines < n → IsWrong file causes.Limit t
  many_arguments : {n : ℕ} {t u : List ℕ} → Due file a_routine t → Begins u16_format t n u
      → most_arguments < n → IsWrong file causes.Limit t
  many_elements : {n : ℕ} {t u : List ℕ} → Due file a_list_length t → Begins u32_format t n u
      → list_limit < n → IsWrong file causes.Limit t
  many_bytes : {n : ℕ} {t u : List ℕ} → Due file a_binary_size t → Begins u32_format t n u
      → binary_limit < n → IsWrong file causes.Limit t
  many_characters : {n : ℕ} {t u : List ℕ} (cs : List ℕ) → Due file (a_text n) t → AreScalars cs
      → Begins (bytes_format n) t (encode_utf8_all cs) u → atom_limit < length cs
      → IsWrong file causes.Limit t
  too_deep : {b : ℕ} {t : List ℕ} → Due file (a_term 0) (b ∷ t) → IsWrong file causes.Limit (b ∷ t)
