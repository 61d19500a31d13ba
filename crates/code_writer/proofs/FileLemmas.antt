-- Code files: what is spelled fits its formats, and no file spells two programs.
use Rattle.std.specs.List.{AllByRecursion, flat_map}
use Rattle.std.proofs.Common.{◌≡◌, ℕ, zero, suc, ◌+◌, ◌-◌, ◌<◌, ◌≤◌, ◌^◌, List, [], ◌∷◌, ◌++◌, length, get_or, All, refl, sym, ap, ◌∙◌, append_assoc, arith}
use Rattle.std.proofs.lemmas.List.{append-nil}
use Rattle.std.proofs.lemmas.List.Elements.{All-from_recursion, recursion_from_All}
use Rattle.term_core.specs.Datum.{Datum}
use Rattle.term_core.specs.Limits.{IsTerm}
use Rattle.term_core.specs.Sizes.{depth_limit}
use Rattle.mcode.specs.Program.{Program, Body, Routine, IsWhole, IsBody, IsRoutine, Frame, IsFrame, IsTelling, Rise, frame_number, code_of, seen_body}
use Rattle.mcode.specs.declared.kind.Kind.{Kind}
use Rattle.mcode.specs.declared.instr.Instr.{Instr}
use Rattle.mcode.specs.declared.instr.Instr.TheVariants as instr
use Rattle.mcode.proofs.BuildLemmas.{body_whole}
use Rattle.code_writer.specs.Spelling.{u16_bytes, constants_bytes, instructions_bytes, frames_bytes, body_bytes, routine_bytes}
use Rattle.code_writer.specs.File.{IsU8, HoldsArguments, HoldsPlace, HoldsFrame, HoldsSize, HoldsRoutine, HasFile, IsUpTo, IsFileOf, Spells, magic, version, routine_version, plain_opcode, most_opcode, file_of, file_bytes}
use Rattle.code_writer.specs.Format.{Begins, both, counted, rows}
use Rattle.code_writer.specs.Formats.{u16_format, constant_format, instruction_format, place_format, frame_format, constants_format, instructions_format, frames_format, parts_format, slot_count_format, body_format, body_parts, any_kind_format, argument_count_format, arguments_format, signature_format, routine_format, routine_parts, body_count_format, bodies_format, plain_format, plain_parts, code_format, code_parts}
use Rattle.code_writer.specs.Laws.{OneCode, ReadBack}
use Rattle.code_writer.proofs.FormatLemmas.{IsPrefixFree, both_prefix_free, both_first, both_rest, such_prefix_free, counted_prefix_free, through_prefix_free, rows_prefix_free}
use Rattle.code_writer.proofs.NumberLemmas.{u16_free}
use Rattle.code_writer.proofs.InstructionLemmas.{instruction_free}
use Rattle.code_writer.proofs.FrameLemmas.{frame_free, any_kind_free}
use Rattle.code_writer.proofs.ConstantLemmas.{constant_free}

pub constants_free : IsPrefixFree constants_format
constants_free = counted_prefix_free u16_format (constant_format depth_limit) u16_free (constant_free depth_limit)

pub instructions_free : (most : ℕ) → IsPrefixFree (instructions_format most)
instructions_free most = counted_prefix_free u16_format (instruction_format most) u16_free (instruction_free most)

pub frames_free : IsPrefixFree frames_format
frames_free = such_prefix_free (counted u16_format frame_format) (Rise frame_number) (counted_prefix_free u16_format frame_format u16_free frame_free)

parts_free : (most : ℕ) → IsPrefixFree (parts_format most)
parts_free most = both_prefix_free (instructions_format most) frames_format (instructions_free most) frames_free

pub slot_count_free : IsPrefixFree slot_count_format
slot_count_free = such_prefix_free u16_format _ u16_free

pub plain_free : IsPrefixFree plain_format
plain_free = both_prefix_free slot_count_format (both constants_format (parts_format plain_opcode)) slot_count_free (both_prefix_free constants_format (parts_format plain_opcode) constants_free (parts_free plain_opcode))

pub body_free : IsPrefixFree body_format
body_free = through_prefix_free body_parts (λ x. record { slots = x.0; instructions = x.1.0; frames = x.1.1 }) (both slot_count_format (parts_format most_opcode)) (λ b. refl) (both_prefix_free slot_count_format (parts_format most_opcode) slot_count_free (parts_free most_opcode))

pub argument_count_free : IsPrefixFree argument_count_format
argument_count_free = such_prefix_free u16_format _ u16_free

pub arguments_free : IsPrefixFree arguments_format
arguments_free = counted_prefix_free argument_count_format any_kind_format argument_count_free any_kind_free

pub signature_free : IsPrefixFree signature_format
signature_free = both_prefix_free arguments_format any_kind_format arguments_free any_kind_free

pub routine_free : IsPrefixFree routine_format
routine_free = through_prefix_free routine_parts (λ x. record { arguments = x.0.0; result = x.0.1; body = x.1 }) (both signature_format body_format) (λ t. refl) (both_prefix_free signature_format body_format signature_free body_free)

pub body_count_free : IsPrefixFree body_count_format
body_count_free = such_prefix_free u16_format _ u16_free

-- the number of bodies, and the bodies after it
pub bodies_first : (bytes : List ℕ) (p : Body × List Routine) (s : List ℕ) → Begins bodies_format bytes p s → Begins body_count_format bytes (suc (length p.1)) ((body_bytes p.0 ++ flat_map routine_bytes p.1) ++ s)
bodies_first bytes p s h = record { fits = h.fits.0; parts = h.parts ∙ append_assoc (u16_bytes (suc (length p.1))) (body_bytes p.0 ++ flat_map routine_bytes p.1) s }

pub bodies_rest : (bytes : List ℕ) (n : ℕ) (t : List ℕ) (p : Body × List Routine) (s : List ℕ) → Begins body_count_format bytes n t → Begins bodies_format bytes p s → (n ≡ suc (length p.1)) × Begins (both body_format (rows routine_format (n - 1))) t p s
bodies_rest bytes n t p s h k =
    let same = body_count_free.one bytes n (suc (length p.1)) t ((body_bytes p.0 ++ flat_map routine_bytes p.1) ++ s) h (bodies_first bytes p s k) in
    (same.0, record { fits = (k.fits.1.0, (omega (arith, same.0), k.fits.1.1)); parts = same.1 })

pub bodies_free : IsPrefixFree bodies_format
bodies_free = record {
  one = λ bytes p q r s h k.
      let n = suc (length p.1) in
      let t = (body_bytes p.0 ++ flat_map routine_bytes p.1) ++ r in
      let first = bodies_first bytes p r h in
      (both_prefix_free body_format (rows routine_format (n - 1)) body_free (rows_prefix_free routine_format (n - 1) routine_free)).one t p q r s (bodies_rest bytes n t p r first h).1 (bodies_rest bytes n t q s first k).1;
}

pub code_free : IsPrefixFree code_format
code_free = both_prefix_free constants_format bodies_format constants_free bodies_free

-- ---- ascending slots are few

climbs : (vs : List ℕ) → Rise (λ slot. slot) vs → (k : ℕ) → k < length vs → k ≤ get_or vs k 0
climbs vs up zero within = omega arith
climbs vs up (suc k) within =
    let below = climbs vs up k (omega arith) in
    let step : get_or vs k 0 < get_or vs (k + 1) 0 = up k 0 (omega arith) in
    let same : get_or vs (k + 1) 0 ≡ get_or vs (suc k) 0 = ap (λ n. get_or vs n 0) (one_more k) in
    omega (arith, below, step, same)
  where
    one_more : (k : ℕ) → k + 1 ≡ suc k
    one_more k = omega arith

pub few_slots : (vs : List ℕ) → Rise (λ slot. slot) vs → AllByRecursion IsU8 vs → length vs ≤ 256
few_slots vs up each = go (length vs) refl
  where
    go : (n : ℕ) → length vs ≡ n → length vs ≤ 256
    go zero is = omega (arith, is)
    go (suc n) is =
        let low = climbs vs up n (omega (arith, is)) in
        let high : get_or vs n 0 < 2 ^ 8 = All-from_recursion IsU8 vs each n 0 (omega (arith, is)) in
        omega (arith, low, high, is)

-- ---- what is spelled fits

terms_fit : (ds : List Datum) → AllByRecursion IsTerm ds → AllByRecursion (constant_format depth_limit).Fits ds
terms_fit [] h = tt
terms_fit (d ∷ ds) h = ((h.0.sound, h.0.shallow), terms_fit ds h.1)

places_fit : (ps : List (ℕ × Kind)) → AllByRecursion HoldsPlace ps → AllByRecursion IsTelling ps → AllByRecursion place_format.Fits ps
places_fit [] h k = tt
places_fit (p ∷ ps) h k = ((h.0.0, (h.0.1, k.0)), places_fit ps h.1 k.1)

frame_fits : (f : Frame) → HoldsFrame f → IsFrame f → frame_format.Fits f
frame_fits f h k =
    let slots = recursion_from_All IsU8 f.slots h.slots in
    let few = few_slots f.slots k.ordered.slots slots in (
      h.pc,
      (
        h.depth,
        (
          ((omega (arith, k.count), places_fit f.places (recursion_from_All HoldsPlace f.places h.places) (recursion_from_All IsTelling f.places k.ordered.telling)), k.ordered.places),
          ((omega (arith, few), slots), k.ordered.slots),
        ),
      ),
    )

frames_fit : (fs : List Frame) → AllByRecursion HoldsFrame fs → AllByRecursion IsFrame fs → AllByRecursion frame_format.Fits fs
frames_fit [] h k = tt
frames_fit (f ∷ fs) h k = (frame_fits f h.0 k.0, frames_fit fs h.1 k.1)

instructions_fit : (most : ℕ) (is : List Instr) → AllByRecursion HoldsArguments is → AllByRecursion (IsUpTo most) is → AllByRecursion (instruction_format most).Fits is
instructions_fit most [] h k = tt
instructions_fit most (i ∷ is) h k = ((h.0, k.0), instructions_fit most is h.1 k.1)

-- each instruction has a number up to the largest
known : (i : Instr) → IsUpTo most_opcode i
known instr.Load = omega arith
known i = omega arith

all_known : (is : List Instr) → AllByRecursion (IsUpTo most_opcode) is
all_known [] = tt
all_known (i ∷ is) = (known i, all_known is)

-- the parts of a body fit their format if its instructions do
body_fits : (b : Body) → IsBody b → All HoldsArguments b.instructions → All HoldsFrame b.frames → (most : ℕ) → AllByRecursion (IsUpTo most) b.instructions → (both slot_count_format (parts_format most)).Fits (body_parts b)
body_fits b h instructions frames most up = (
  (omega (arith, h.slots), h.slots),
  (
    (omega (arith, h.instructions), instructions_fit most b.instructions (recursion_from_All HoldsArguments b.instructions instructions) up),
    ((omega (arith, h.frame_count), frames_fit b.frames (recursion_from_All HoldsFrame b.frames frames) (recursion_from_All IsFrame b.frames h.frames.each)), h.frames.rise),
  ),
)

routine_fits : (t : Routine) → IsRoutine t → HoldsRoutine t → routine_format.Fits t
routine_fits t h k = (
  (((omega (arith, h.arguments), h.arguments), recursion_from_All HoldsSize t.arguments k.arguments), k.result),
  body_fits t.body h.body k.instructions k.frames most_opcode (all_known t.body.instructions),
)

routines_fit : (ts : List Routine) → AllByRecursion IsRoutine ts → AllByRecursion HoldsRoutine ts → AllByRecursion routine_format.Fits ts
routines_fit [] h k = tt
routines_fit (t ∷ ts) h k = (routine_fits t h.0 k.0, routines_fit ts h.1 k.1)

constants_fit : (bytes : List ℕ) (p : Program) → Spells bytes p → constants_format.Fits p.constants
constants_fit bytes p h = (omega (arith, h.program.seen.constants), terms_fit p.constants (recursion_from_All IsTerm p.constants h.constants))

pub plain_fits : (bytes : List ℕ) (p : Program) → Spells bytes p → p.around.routines ≡ [] → plain_format.Fits (plain_parts p)
plain_fits bytes p h none =
    let body = body_fits (seen_body p) (body_whole p h.program.seen) h.instructions h.frames plain_opcode (recursion_from_All (IsUpTo plain_opcode) p.instructions (h.file none)) in
    (body.0, (constants_fit bytes p h, body.1))

pub code_fits : (bytes : List ℕ) (p : Program) (t : Routine) (ts : List Routine) → Spells bytes p → p.around.routines ≡ t ∷ ts → code_format.Fits (code_parts p)
code_fits bytes p t ts h some = (
  constants_fit bytes p h,
  (
    (omega (arith, h.program.routine_count), (omega (arith, ap length some), omega (arith, h.program.routine_count))),
    (
      body_fits (seen_body p) (body_whole p h.program.seen) h.instructions h.frames most_opcode (all_known p.instructions),
      routines_fit p.around.routines (recursion_from_All IsRoutine p.around.routines h.program.routines) (recursion_from_All HoldsRoutine p.around.routines h.routines),
    ),
  ),
)

-- ---- files after their magic

abbrev pub drop_four : List ℕ → List ℕ
drop_four (a ∷ b ∷ c ∷ d ∷ bs) = bs
drop_four bs = bs

pub plain_begins : (rest : List ℕ) (bytes : List ℕ) (p : Program) → bytes ≡ magic ++ rest → Spells bytes p → p.around.routines ≡ [] → Begins (both u16_format plain_format) rest (version, plain_parts p) []
plain_begins rest bytes p is h none = record {
  fits = (omega arith, plain_fits bytes p h none);
  parts =
      ap drop_four (sym is ∙ h.spelling ∙ ap (file_of p) none)
      ∙ sym (append-nil (u16_bytes version ++ plain_format.spell (plain_parts p)));
}

pub code_begins : (rest : List ℕ) (bytes : List ℕ) (p : Program) (t : Routine) (ts : List Routine) → bytes ≡ magic ++ rest → Spells bytes p → p.around.routines ≡ t ∷ ts → Begins (both u16_format code_format) rest (routine_version, code_parts p) []
code_begins rest bytes p t ts is h some = record {
  fits = (omega arith, code_fits bytes p t ts h some);
  parts =
      ap drop_four (sym is ∙ h.spelling ∙ ap (file_of p) some)
      ∙ ap (λ (us : List Routine). u16_bytes routine_version ++ (constants_bytes p.constants ++ (u16_bytes (suc (length us)) ++ (body_bytes (seen_body p) ++ flat_map routine_bytes us)))) (sym some)
      ∙ sym (append-nil (u16_bytes routine_version ++ code_format.spell (code_parts p)));
}

-- each file begins with the magic
magic_first : (p : Program) (ts : List Routine) → file_of p ts ≡ magic ++ drop_four (file_of p ts)
magic_first p [] = refl
magic_first p (t ∷ ts) = refl

pub behind_magic : (bytes : List ℕ) (p : Program) → Spells bytes p → bytes ≡ magic ++ drop_four bytes
behind_magic bytes p h =
    h.spelling ∙ magic_first p p.around.routines
    ∙ ap (λ (bs : List ℕ). magic ++ drop_four bs) (sym h.spelling)

-- the version that was read is that of the code, and the rest is its file after the version
pub record IsOfVersion (n : ℕ) (more : List ℕ) (p : Program) : Type 0 where
  pub plain : p.around.routines ≡ [] → (n ≡ version) × Begins plain_format more (plain_parts p) []
  pub others : (t : Routine) (ts : List Routine) → p.around.routines ≡ t ∷ ts → (n ≡ routine_version) × Begins code_format more (code_parts p) []

pub of_version : (bytes rest : List ℕ) (n : ℕ) (more : List ℕ) (p : Program) → bytes ≡ magic ++ rest → Begins u16_format rest n more → Spells bytes p → IsOfVersion n more p
of_version bytes rest n more p is h s = record {
  plain = λ none.
      both_rest u16_format plain_format u16_free rest n more (version, plain_parts p) [] h (plain_begins rest bytes p is s none);
  others = λ t ts some.
      both_rest u16_format code_format u16_free rest n more (routine_version, code_parts p) [] h (code_begins rest bytes p t ts is s some);
}

-- ---- one code

-- whole code is viewed from its main body
pub whole_is : (p : Program) → IsWhole p → p ≡ code_of p.constants (seen_body p) p.around.routines
whole_is p h = λ i. record { slots = p.slots; constants = p.constants; instructions = p.instructions; frames = p.frames; around = record { number = h.number i; main = h.main i; routines = p.around.routines } }

pub one_code : OneCode
one_code bytes p q h k = by p.around.routines q.around.routines refl refl
  where
    rest : List ℕ
    rest = drop_four bytes

    by : (ts us : List Routine) → p.around.routines ≡ ts → q.around.routines ≡ us → p ≡ q
    by [] [] none bare =
        let same = (both_prefix_free u16_format plain_format u16_free plain_free).one rest (version, plain_parts p) (version, plain_parts q) [] [] (plain_begins rest bytes p (behind_magic bytes p h) h none) (plain_begins rest bytes q (behind_magic bytes p h) k bare) in
        whole_is p h.program
        ∙ ap (code_of p.constants (seen_body p)) none
        ∙ ap (λ (x : ℕ × (ℕ × (List Datum × (List Instr × List Frame)))). code_of x.1.1.0 (record { slots = x.1.0; instructions = x.1.1.1.0; frames = x.1.1.1.1 }) []) same.0
        ∙ ap (code_of q.constants (seen_body q)) (sym bare)
        ∙ sym (whole_is q k.program)
    by (t ∷ ts) (u ∷ us) some more =
        let same = (both_prefix_free u16_format code_format u16_free code_free).one rest (routine_version, code_parts p) (routine_version, code_parts q) [] [] (code_begins rest bytes p t ts (behind_magic bytes p h) h some) (code_begins rest bytes q u us (behind_magic bytes p h) k more) in
        whole_is p h.program
        ∙ ap (λ (x : ℕ × (List Datum × (Body × List Routine))). code_of x.1.0 x.1.1.0 x.1.1.1) same.0
        ∙ sym (whole_is q k.program)
    by [] (u ∷ us) none more =
        let first = both_first u16_format plain_format rest (version, plain_parts p) [] (plain_begins rest bytes p (behind_magic bytes p h) h none) in
        let other = (of_version bytes rest version _ q (behind_magic bytes p h) first k).others u us more in
        absurd (omega (arith, other.0))
    by (t ∷ ts) [] some bare =
        let first = both_first u16_format plain_format rest (version, plain_parts q) [] (plain_begins rest bytes q (behind_magic bytes p h) k bare) in
        let other = (of_version bytes rest version _ p (behind_magic bytes p h) first h).others t ts some in
        absurd (omega (arith, other.0))

pub read_back : ReadBack
read_back p program file constants instructions frames routines =
    let spells : Spells (file_bytes p) p = record { program = program; file = file; constants = constants; instructions = instructions; frames = frames; routines = routines; spelling = refl } in
    (spells, λ q s. one_code (file_bytes p) q p s spells)

-- what was written for the parts of code with routines is its file
pub code_written : (p : Program) (bytes : List ℕ) (slots : ℕ) (ds : List Datum) (is : List Instr) (fs : List Frame) (n : ℕ) (ts : List Routine) → slots ≡ p.slots → ds ≡ p.constants → is ≡ p.instructions → fs ≡ p.frames → n ≡ suc (length ts) → ts ≡ p.around.routines → 0 < length ts
    → bytes ≡ magic ++ (u16_bytes routine_version ++ (constants_bytes ds ++ (u16_bytes n ++ ((u16_bytes slots ++ (instructions_bytes is ++ frames_bytes fs)) ++ flat_map routine_bytes ts))))
    → bytes ≡ file_bytes p
code_written p bytes slots ds is fs n [] slots_are ds_are is_are fs_are n_is ts_are some parts = absurd (omega (arith, some))
code_written p bytes slots ds is fs n (t ∷ ts) slots_are ds_are is_are fs_are n_is ts_are some parts =
    parts
    ∙ ap (λ (m : ℕ). magic ++ (u16_bytes routine_version ++ (constants_bytes ds ++ (u16_bytes m ++ ((u16_bytes slots ++ (instructions_bytes is ++ frames_bytes fs)) ++ flat_map routine_bytes (t ∷ ts)))))) n_is
    ∙ (λ i. file_of (record { slots = slots_are i; constants = ds_are i; instructions = is_are i; frames = fs_are i; around = p.around }) (t ∷ ts))
    ∙ ap (file_of p) ts_are

-- a list that is not empty has a positive length
pub some_left : {X : Type 0} (xs : List X) → (xs ≡ [] → ⊥) → 0 < length xs
some_left [] some = absurd (some refl)
some_left (x ∷ xs) some = omega arith

-- what is written for code is its file
pub file_spells : (p : Program) (bytes : List ℕ) → IsWhole p → IsFileOf p bytes → HasFile p → Spells bytes p
file_spells p bytes program file has = record {
  program = program;
  file = has;
  constants = file.constants;
  instructions = file.instructions;
  frames = file.frames;
  routines = file.routines;
  spelling = file.spelling;
}
