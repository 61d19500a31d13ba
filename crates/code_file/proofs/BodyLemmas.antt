-- Reading the parts of code into a builder.
use Rattle.std.specs.Prelude.{Option, Some, None, IfSome}
use Rattle.std.specs.List.{AllByRecursion}
use Rattle.std.proofs.Common.{◌≡◌, ℕ, ◌+◌, ◌<◌, ◌≤◌, List, [], ◌∷◌, ◌++◌, length, reverse, refl, sym, ap, subst, ◌∙◌, append_assoc, arith, inl, inr}
use Rattle.std.proofs.lemmas.List.{append-nil, length-append, reverse-append, reverse-reverse}
use Rattle.std.proofs.lemmas.List.Elements.{All-from_recursion}
use Rattle.term_core.specs.Datum.{Datum}
use Rattle.term_core.specs.Sizes.{depth_limit}
use Rattle.mcode.specs.Program.{Program, Body, Frame, Rise, frame_number, most_parts, IsTelling, seen_body}
use Rattle.mcode.specs.Building.{IsFrameRefused, empty_program, with_constant}
use Rattle.mcode.specs.declared.fault.Fault.{Fault}
use Rattle.mcode.specs.declared.fault.Fault.TheVariants as refusal
use Rattle.mcode.specs.declared.kind.Kind.{Kind}
use Rattle.mcode.specs.declared.instr.Instr.{Instr}
use Rattle.code_writer.specs.Format.{Format, Begins, BeginsNone, rows, such, both}
use Rattle.code_writer.specs.Formats.{u16_format, constant_format, instruction_format, place_format, frame_format, frame_rest_format, instructions_format, frames_format, parts_format, slot_count_format, body_format, body_parts}
use Rattle.code_writer.specs.File.{most_opcode}
use Rattle.code_writer.proofs.NumberLemmas.{u16_free}
use Rattle.code_writer.proofs.FrameLemmas.{frame_parts, frame_from, frame_free}
use Rattle.code_writer.proofs.FormatLemmas.{both_first, both_rest, both_begins}
use Rattle.code_writer.proofs.InstructionLemmas.{instruction_free}
use Rattle.code_writer.proofs.FileLemmas.{instructions_free, slot_count_free}
use Rattle.code_file.specs.declared.stop.FileCause.TheVariants as causes
use Rattle.code_file.specs.declared.stop.FileStop.{FileStop}
use Rattle.code_file.specs.Due.{Due}
use Rattle.code_file.specs.Due.Item.{a_count, many, an_instruction, a_frame, a_depth, a_slot_count, a_body}
use Rattle.code_file.specs.Due.Row.{constants, instructions, frames, terms}
use Rattle.code_file.specs.Causes.{IsWrong}
use Rattle.code_file.specs.Reads.{Blames, IsCut, IsRefuted, IsStop}
use Rattle.code_file.proofs.RowLemmas.{IsRowSoFar, row_start, row_step, row_stop, plain_stop}
use Rattle.code_file.proofs.StopLemmas.{stop_due, stop_cut, both_first_stop, both_rest_stop, through_stop}
use Rattle.code_file.specs.Rising.{LastIs}
use Rattle.code_file.specs.Parts.{with_constants, with_frames, IsNextRead, with_instructions, with_parts, IsMainRead}
use Rattle.code_file.proofs.FrameLemmas.{frame_begins}
use Rattle.code_file.proofs.RiseLemmas.{rise_above, above_last, rise_front}

-- ---- rows read into a builder

-- a stop in a row of terms is a stop in the row of constants
pub constant_rows_stop : (bytes : List ℕ) (n : ℕ) (stop : FileStop) → IsStop (rows (constant_format depth_limit) n) bytes (Blames (many (terms depth_limit) n) bytes) stop → IsStop (rows (constant_format depth_limit) n) bytes (Blames (many constants n) bytes) stop
constant_rows_stop bytes n stop h =
    stop_due (rows (constant_format depth_limit) n) (rows (constant_format depth_limit) n) (many (terms depth_limit) n) (many constants n) bytes bytes stop (λ none. none) (λ file due. Due.constant due) h

pub instructions_stop : (most : ℕ) (bytes : List ℕ) (xs : List Instr) (rest : List ℕ) (i n : ℕ) (stop : FileStop) → IsRowSoFar (instruction_format most) (λ _. Unit {0}) bytes xs rest i → i < n
    → IsStop (instruction_format most) rest (Blames (an_instruction most) rest) stop → IsStop (rows (instruction_format most) n) bytes (Blames (many (instructions most) n) bytes) stop
instructions_stop most bytes xs rest i n stop h fewer k =
    plain_stop (instruction_format most) (an_instruction most) (many (instructions most) n) (instruction_free most) bytes xs rest i n stop h fewer (λ file due begun. Due.instruction due begun fewer) k

-- ---- constants that were read

pub begun_with : (p : Program) (slots : ℕ) (ds left : List Datum) → p ≡ empty_program slots → left ≡ reverse ds → with_constants p (p.constants ++ reverse left) ≡ with_constants (empty_program slots) ds
begun_with p slots ds left is turned =
    ap (λ (x : Program). with_constants x (x.constants ++ reverse left)) is
    ∙ ap (with_constants (empty_program slots)) (ap reverse turned ∙ reverse-reverse ds)

last_first : (left rest : List Datum) (d : Datum) → left ≡ rest ++ d ∷ [] → reverse left ≡ d ∷ reverse rest
last_first left rest d is = ap reverse is ∙ reverse-append rest (d ∷ [])

pub one_begun : (old new : Program) (d : Datum) (left rest : List Datum) (wanted : Program) → new ≡ with_constant old d → left ≡ rest ++ d ∷ [] → with_constants old (old.constants ++ reverse left) ≡ wanted → with_constants new (new.constants ++ reverse rest) ≡ wanted
one_begun old new d left rest wanted is last h =
    ap (λ (x : Program). with_constants x (x.constants ++ reverse rest)) is
    ∙ ap (with_constants old) (append_assoc old.constants (d ∷ []) (reverse rest) ∙ ap (λ ds. old.constants ++ ds) (sym (last_first left rest d last)))
    ∙ h

pub few_begun : (old wanted : Program) (left rest : List Datum) (d : Datum) → left ≡ rest ++ d ∷ [] → with_constants old (old.constants ++ reverse left) ≡ wanted → length wanted.constants ≤ most_parts → length old.constants < most_parts
few_begun old wanted left rest d last h few =
    let same : length (old.constants ++ reverse left) ≡ length wanted.constants = ap (λ (x : Program). length x.constants) h in
    omega (arith, same, few, length-append old.constants (reverse left), ap length (last_first left rest d last))

pub all_begun : (p wanted : Program) (left : List Datum) (n : ℕ) → n ≡ length left → n ≡ 0 → with_constants p (p.constants ++ reverse left) ≡ wanted → p ≡ wanted
all_begun p wanted [] n long over h =
    ap (with_constants p) (sym (append-nil p.constants)) ∙ h
all_begun p wanted (d ∷ left) n long over h = absurd (omega (arith, long, over))

-- ---- frames

abbrev AboveFrames : List Frame → Frame → Type 0
AboveFrames before f = Rise frame_number (before ++ f ∷ [])

abbrev next_format : List Frame → Format Frame
next_format before = such frame_format (AboveFrames before)

frame_none : (before : List Frame) (bytes : List ℕ) (pc : ℕ) (r : List ℕ) → Begins u16_format bytes pc r → BeginsNone frame_rest_format r → BeginsNone (next_format before) bytes
frame_none before bytes pc r h none f s k = none (f.depth, (f.places, f.slots)) s (both_rest u16_format frame_rest_format u16_free bytes pc r (frame_parts f) s h (frame_from bytes f s (record { fits = k.fits.0; parts = k.parts }))).1

pub frame_short : (before : List Frame) (bytes : List ℕ) (stop : FileStop) → IsStop u16_format bytes (IsCut 2 bytes) stop → IsStop (next_format before) bytes (Blames (a_frame before) bytes) stop
frame_short before bytes stop h =
    stop_cut u16_format (next_format before) 2 (a_frame before) (a_frame before) bytes bytes stop refl
    (λ none f s k. none f.pc (frame_rest_format.spell (f.depth, (f.places, f.slots)) ++ s) (both_first u16_format frame_rest_format bytes (frame_parts f) s (frame_from bytes f s (record { fits = k.fits.0; parts = k.parts }))))
    (λ file due. due) h

pub frame_rest_stop : (before : List Frame) (last : Option ℕ) (bytes : List ℕ) (pc : ℕ) (r : List ℕ) (stop : FileStop) → LastIs frame_number before last → Begins u16_format bytes pc r → IfSome last (λ l. l < pc)
    → IsStop frame_rest_format r (Blames a_depth r) stop → IsStop (next_format before) bytes (Blames (a_frame before) bytes) stop
frame_rest_stop before last bytes pc r stop is h above k =
    stop_due frame_rest_format (next_format before) a_depth (a_frame before) r bytes stop (frame_none before bytes pc r h)
    (λ file due. Due.depth due h ((above_last frame_number before last pc is).0 above)) k

pub frame_unordered : (before : List Frame) (last : Option ℕ) (bytes : List ℕ) (pc : ℕ) (r : List ℕ) → LastIs frame_number before last → Rise frame_number before → Begins u16_format bytes pc r → ¬ IfSome last (λ l. l < pc)
    → IsRefuted (next_format before) bytes (Blames (a_frame before) bytes causes.NotCanonical (length bytes))
frame_unordered before last bytes pc r is up h low = record {
  none = λ f s k.
      let same = both_rest u16_format frame_rest_format u16_free bytes pc r (frame_parts f) s h (frame_from bytes f s (record { fits = k.fits.0; parts = k.parts })) in
      low (subst (λ m. IfSome last (λ l. l < m)) (sym same.0) ((rise_above frame_number before last f is up).1 k.fits.1));
  blame = λ file due. (bytes, refl, IsWrong.low_frame due h (λ above. low ((above_last frame_number before last pc is).1 above)));
}

pub frames_stop : (bytes : List ℕ) (xs : List Frame) (rest : List ℕ) (i n : ℕ) (stop : FileStop) → IsRowSoFar frame_format (Rise frame_number) bytes xs rest i → i < n
    → IsStop (next_format xs) rest (Blames (a_frame xs) rest) stop → IsStop (such (rows frame_format n) (Rise frame_number)) bytes (Blames (many frames n) bytes) stop
frames_stop bytes xs rest i n stop h fewer k =
    row_stop frame_format (Rise frame_number) (a_frame xs) (many frames n) frame_free (rise_front frame_number) bytes xs rest i n stop h fewer (λ file due begun. Due.frame due begun fewer) k

pub next_begins : (before : List Frame) (last : Option ℕ) (bytes : List ℕ) (f : Frame) (r s : List ℕ) → LastIs frame_number before last → Rise frame_number before → IfSome last (λ l. l < f.pc) → Begins u16_format bytes f.pc r → Begins frame_rest_format r (f.depth, (f.places, f.slots)) s → Begins (next_format before) bytes f s
next_begins before last bytes f r s is up above h k =
    let begun = frame_begins bytes f r s h k in
    record { fits = (begun.fits, (rise_above frame_number before last f is up).0 above); parts = begun.parts }

telling : (ps : List (ℕ × Kind)) → AllByRecursion place_format.Fits ps → AllByRecursion IsTelling ps
telling [] h = tt
telling (p ∷ ps) h = (h.0.1.1, telling ps h.1)

pub frame_memory : (before : List Frame) (bytes : List ℕ) (f : Frame) (s : List ℕ) (fault : Fault) → length before < most_parts → Begins (next_format before) bytes f s → IsFrameRefused before f fault → fault ≡ refusal.Memory
frame_memory before bytes f s refusal.Memory few h k = refl
frame_memory before bytes f s refusal.Limit few h (inl past) = absurd (omega (arith, past))
frame_memory before bytes f s refusal.Limit few h (inr past) = absurd (omega (arith, past, h.fits.0.1.1.0.0.0))
frame_memory before bytes f s refusal.FrameOrder few h k = absurd (k.1 (record {
  above = h.fits.1;
  ordered = record {
    places = h.fits.0.1.1.0.1;
    telling = All-from_recursion IsTelling f.places (telling f.places h.fits.0.1.1.0.0.1);
    slots = h.fits.0.1.1.1.1;
  };
}))

-- what the loop over frames knows
pub record IsFramesSoFar (start : Program) (bytes : List ℕ) (now : Program) (rest : List ℕ) (n : ℕ) (last : Option ℕ) : Type 0 where
  pub row : IsRowSoFar frame_format (Rise frame_number) bytes now.frames rest n
  pub kept : now ≡ with_frames start now.frames
  pub last_is : LastIs frame_number now.frames last

pub frames_start : (start : Program) (bytes : List ℕ) → start.frames ≡ [] → IsFramesSoFar start bytes start bytes 0 None
frames_start start bytes none = record {
  row = subst (λ (fs : List Frame). IsRowSoFar frame_format (Rise frame_number) bytes fs bytes 0) (sym none) (row_start frame_format (Rise frame_number) bytes (λ k d within. absurd (omega arith)));
  kept = refl;
  last_is = none;
}

pub frames_step : (start : Program) (bytes : List ℕ) (old new : Program) (rest : List ℕ) (n pc : ℕ) (last : Option ℕ) (r : List ℕ) → IsFramesSoFar start bytes old rest n last → IsNextRead old new rest pc r → IsFramesSoFar start bytes new r (n + 1) (Some pc)
frames_step start bytes old new rest n pc last r h k =
    let fs_is : new.frames ≡ old.frames ++ k.frame ∷ [] = ap (λ (p : Program). p.frames) k.new_is in
    record {
      row = subst (λ (fs : List Frame). IsRowSoFar frame_format (Rise frame_number) bytes fs r (n + 1)) (sym fs_is) (row_step frame_format (Rise frame_number) bytes old.frames rest n k.frame r h.row k.begins);
      kept = k.new_is ∙ ap (λ (p : Program). with_frames p (old.frames ++ k.frame ∷ [])) h.kept ∙ ap (with_frames start) (sym fs_is);
      last_is = (old.frames, k.frame, fs_is, k.pc_is);
    }

-- ---- bodies

pub parts_begin : (most : ℕ) (bytes r t : List ℕ) (old one two : Program) → Begins (instructions_format most) bytes one.instructions r → Begins frames_format r two.frames t
    → one ≡ with_instructions old one.instructions → two ≡ with_frames one two.frames → Begins (parts_format most) bytes (two.instructions, two.frames) t × (two ≡ with_parts old two.instructions two.frames)
parts_begin most bytes r t old one two h k first second =
    let same : one.instructions ≡ two.instructions = sym (ap (λ (p : Program). p.instructions) second) in (
      subst (λ (is : List Instr). Begins (parts_format most) bytes (is, two.frames) t) same (both_begins (instructions_format most) frames_format bytes one.instructions r two.frames t h k),
      second ∙ ap (λ (p : Program). with_frames p two.frames) first
          ∙ ap (λ (is : List Instr). with_parts old is two.frames) same,
    )

pub instructions_stop_parts : (most : ℕ) (bytes : List ℕ) (stop : FileStop) → IsStop (instructions_format most) bytes (Blames (a_count (instructions most)) bytes) stop → IsStop (parts_format most) bytes (Blames (a_count (instructions most)) bytes) stop
instructions_stop_parts most bytes stop h =
    both_first_stop (instructions_format most) frames_format (a_count (instructions most)) (a_count (instructions most)) bytes stop (λ file due. due) h

pub frames_stop_parts : (most : ℕ) (bytes : List ℕ) (is : List Instr) (r : List ℕ) (stop : FileStop) → Begins (instructions_format most) bytes is r → IsStop frames_format r (Blames (a_count frames) r) stop → IsStop (parts_format most) bytes (Blames (a_count (instructions most)) bytes) stop
frames_stop_parts most bytes is r stop h k =
    both_rest_stop (instructions_format most) frames_format (a_count frames) (a_count (instructions most)) bytes is r stop (instructions_free most) h (λ file due. Due.behind_instructions due h) k

abbrev counted_parts : Format (ℕ × (List Instr × List Frame))
counted_parts = both slot_count_format (parts_format most_opcode)

pub main_slots_stop : (bytes : List ℕ) (stop : FileStop) → IsStop slot_count_format bytes (Blames a_slot_count bytes) stop → IsStop body_format bytes (Blames a_body bytes) stop
main_slots_stop bytes stop h =
    through_stop body_parts counted_parts bytes (Blames a_body bytes) stop (both_first_stop slot_count_format (parts_format most_opcode) a_slot_count a_body bytes stop (λ file due. Due.body_slots due) h)

pub main_parts_stop : (bytes : List ℕ) (n : ℕ) (r : List ℕ) (stop : FileStop) → Begins slot_count_format bytes n r → IsStop (parts_format most_opcode) r (Blames (a_count (instructions most_opcode)) r) stop → IsStop body_format bytes (Blames a_body bytes) stop
main_parts_stop bytes n r stop h k =
    through_stop body_parts counted_parts bytes (Blames a_body bytes) stop (both_rest_stop slot_count_format (parts_format most_opcode) (a_count (instructions most_opcode)) a_body bytes n r stop slot_count_free h (λ file due. Due.body_instructions due h) k)

-- bytes that begin with these parts begin with a body
pub body_begins : (bytes : List ℕ) (b : Body) (r s : List ℕ) → Begins slot_count_format bytes b.slots r → Begins (parts_format most_opcode) r (b.instructions, b.frames) s → Begins body_format bytes b s
body_begins bytes b r s h k =
    let begun = both_begins slot_count_format (parts_format most_opcode) bytes b.slots r (b.instructions, b.frames) s h k in
    record { fits = begun.fits; parts = begun.parts }

pub main_read : (ds : List Datum) (bytes : List ℕ) (n : ℕ) (r s : List ℕ) (old new : Program) → Begins slot_count_format bytes n r → old ≡ with_constants (empty_program n) ds → Begins (parts_format most_opcode) r (new.instructions, new.frames) s
    → new ≡ with_parts old new.instructions new.frames → IsMainRead ds new bytes s
main_read ds bytes n r s old new h begun k is =
    let new_is : new ≡ with_parts (with_constants (empty_program n) ds) new.instructions new.frames = is ∙ ap (λ p. with_parts p new.instructions new.frames) begun in
    let slots : n ≡ new.slots = sym (ap (λ (p : Program). p.slots) new_is) in
    record {
      begins = body_begins bytes (seen_body new) r s (subst (λ m. Begins slot_count_format bytes m r) slots h) k;
      new_is = new_is ∙ ap (λ m. with_parts (with_constants (empty_program m) ds) new.instructions new.frames) slots;
    }
