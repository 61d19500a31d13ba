-- Code read from a file, and what follows it.
use Rattle.std.specs.List.{AllByRecursion, flat_map}
use Rattle.std.proofs.Common.{◌≡◌, ◌≢◌, ℕ, suc, ◌<◌, ◌≤◌, ◌-◌, List, [], ◌∷◌, ◌++◌, All, length, refl, sym, ap, subst, ◌∙◌, append_assoc, arith}
use Rattle.std.proofs.lemmas.List.{append-nil, length-append}
use Rattle.std.proofs.lemmas.List.Elements.{All-from_recursion}
use Rattle.term_core.specs.Datum.{Datum}
use Rattle.term_core.specs.Limits.{IsTerm}
use Rattle.term_core.specs.Sizes.{depth_limit}
use Rattle.mcode.specs.Program.{Program, Body, Routine, Around, Frame, IsWhole, alone, code_of, seen_body}
use Rattle.mcode.specs.Building.{empty_program, finished}
use Rattle.mcode.specs.declared.instr.Instr.{Instr}
use Rattle.mcode.specs.declared.kind.Kind.{Kind}
use Rattle.code_writer.specs.Spelling.{u16_bytes, constants_bytes, body_bytes, routine_bytes}
use Rattle.code_writer.specs.File.{IsU8, HoldsArguments, HoldsPlace, HoldsFrame, HoldsSize, HoldsRoutine, IsUpTo, Spells, magic, version, routine_version, plain_opcode, most_opcode, file_of, file_bytes}
use Rattle.code_writer.specs.Format.{Format, Begins, both, rows}
use Rattle.code_writer.specs.Formats.{constant_format, constants_format, instruction_format, place_format, frame_format, any_kind_format, parts_format, slot_count_format, body_count_format, body_format, routine_format, bodies_format, plain_format, plain_parts, code_format, code_parts}
use Rattle.code_writer.proofs.FormatLemmas.{both_begins, both_first, both_rest}
use Rattle.code_writer.proofs.FileLemmas.{constants_free, slot_count_free, body_free, bodies_first, bodies_rest, plain_free, code_free, plain_fits, code_fits}
use Rattle.code_file.specs.declared.stop.FileStop.{FileStop}
use Rattle.code_file.specs.Due.{Due}
use Rattle.code_file.specs.Due.Item.{a_plain_code, a_code, a_slot_count, a_body_count, a_body, a_count, many}
use Rattle.code_file.specs.Due.Row.{constants, instructions, routines}
use Rattle.code_file.specs.Reads.{Blames, IsStop}
use Rattle.code_file.specs.declared.fault.FileFault.TheVariants as faults
use Rattle.code_file.specs.Faults.{IsNoFile, IsHeader, IsRead, fault_of}
use Rattle.code_file.specs.Parts.{with_constants, with_parts, IsMainRead, IsBuilt, AreRoutinesRead}
use Rattle.code_file.proofs.HeaderLemmas.{stopped, behind_header}
use Rattle.code_file.proofs.StopLemmas.{stop_due, both_first_stop, both_rest_stop}

pub nothing_left : (rest : List ℕ) → length rest ≡ 0 → rest ≡ []
nothing_left [] none = refl
nothing_left (b ∷ rest) none = absurd (omega (arith, none))

-- ---- what was read satisfies the conditions of code

terms_read : (ds : List Datum) → AllByRecursion (constant_format depth_limit).Fits ds → AllByRecursion IsTerm ds
terms_read [] h = tt
terms_read (d ∷ ds) h = (record { sound = h.0.0; shallow = h.0.1 }, terms_read ds h.1)

places_hold : (ps : List (ℕ × Kind)) → AllByRecursion place_format.Fits ps → AllByRecursion HoldsPlace ps
places_hold [] h = tt
places_hold (p ∷ ps) h = ((h.0.0, h.0.1.0), places_hold ps h.1)

frame_holds : (f : Frame) → frame_format.Fits f → HoldsFrame f
frame_holds f h = record {
  pc = h.0;
  depth = h.1.0;
  places = All-from_recursion HoldsPlace f.places (places_hold f.places h.1.1.0.0.1);
  slots = All-from_recursion IsU8 f.slots h.1.1.1.0.1;
}

frames_hold : (fs : List Frame) → AllByRecursion frame_format.Fits fs → AllByRecursion HoldsFrame fs
frames_hold [] h = tt
frames_hold (f ∷ fs) h = (frame_holds f h.0, frames_hold fs h.1)

instructions_hold : (most : ℕ) (is : List Instr) → AllByRecursion (instruction_format most).Fits is → AllByRecursion HoldsArguments is
instructions_hold most [] h = tt
instructions_hold most (i ∷ is) h = (h.0.0, instructions_hold most is h.1)

instructions_plain : (is : List Instr) → AllByRecursion (instruction_format plain_opcode).Fits is → AllByRecursion (IsUpTo plain_opcode) is
instructions_plain [] h = tt
instructions_plain (i ∷ is) h = (h.0.1, instructions_plain is h.1)

routine_holds : (t : Routine) → routine_format.Fits t → HoldsRoutine t
routine_holds t h = record {
  arguments = All-from_recursion HoldsSize t.arguments h.0.0.1;
  result = h.0.1;
  instructions = All-from_recursion HoldsArguments t.body.instructions (instructions_hold most_opcode t.body.instructions h.1.1.0.1);
  frames = All-from_recursion HoldsFrame t.body.frames (frames_hold t.body.frames h.1.1.1.0.1);
}

routines_hold : (ts : List Routine) → AllByRecursion routine_format.Fits ts → AllByRecursion HoldsRoutine ts
routines_hold [] h = tt
routines_hold (t ∷ ts) h = (routine_holds t h.0, routines_hold ts h.1)

plain_spells : (p : Program) → IsWhole p → p.around.routines ≡ [] → plain_format.Fits (plain_parts p) → Spells (file_bytes p) p
plain_spells p whole none h = record {
  program = whole;
  file = λ same. All-from_recursion (IsUpTo plain_opcode) p.instructions (instructions_plain p.instructions h.1.1.0.1);
  constants = All-from_recursion IsTerm p.constants (terms_read p.constants h.1.0.1);
  instructions = All-from_recursion HoldsArguments p.instructions (instructions_hold plain_opcode p.instructions h.1.1.0.1);
  frames = All-from_recursion HoldsFrame p.frames (frames_hold p.frames h.1.1.1.0.1);
  routines = λ i d inside. absurd (omega (arith, inside, ap length none));
  spelling = refl;
}

code_spells : (p : Program) → IsWhole p → code_format.Fits (code_parts p) → Spells (file_bytes p) p
code_spells p whole h = record {
  program = whole;
  file = λ none. absurd (omega (arith, h.1.0.1.0, ap length none));
  constants = All-from_recursion IsTerm p.constants (terms_read p.constants h.0.1);
  instructions = All-from_recursion HoldsArguments p.instructions (instructions_hold most_opcode p.instructions h.1.1.0.1.0.1);
  frames = All-from_recursion HoldsFrame p.frames (frames_hold p.frames h.1.1.0.1.1.0.1);
  routines = All-from_recursion HoldsRoutine p.around.routines (routines_hold p.around.routines h.1.1.1);
  spelling = refl;
}

pub spells_read : (bytes : List ℕ) (p : Program) → IsRead bytes p [] → Spells bytes p
spells_read bytes p h = subst (λ bs. Spells bs p) (sym (h.parts ∙ append-nil (file_bytes p))) h.spells

-- the file of code with routines
code_file_is : (p : Program) (t : Routine) (ts : List Routine) → p.around.routines ≡ t ∷ ts → file_bytes p ≡ magic ++ (u16_bytes routine_version ++ code_format.spell (code_parts p))
code_file_is p t ts some =
    ap (file_of p) some
    ∙ ap (λ (us : List Routine). magic ++ (u16_bytes routine_version ++ (constants_bytes p.constants ++ (u16_bytes (suc (length us)) ++ (body_bytes (seen_body p) ++ flat_map routine_bytes us))))) (sym some)

pub plain_read : (bytes rest : List ℕ) (p : Program) (more : List ℕ) → IsHeader bytes version rest → Begins plain_format rest (plain_parts p) more → p.around ≡ alone → IsWhole p → IsRead bytes p more
plain_read bytes rest p more h k around whole =
    let none : p.around.routines ≡ [] = ap (λ (a : Around). a.routines) around in
    record {
      parts =
          h.parts ∙ ap (λ (t : List ℕ). magic ++ (u16_bytes version ++ t)) k.parts
          ∙ ap (λ (t : List ℕ). magic ++ t) (sym (append_assoc (u16_bytes version) (plain_format.spell (plain_parts p)) more))
          ∙ ap (λ (t : List ℕ). t ++ more) (sym (ap (file_of p) none));
      spells = plain_spells p whole none k.fits;
    }

pub code_read : (bytes rest : List ℕ) (p : Program) (more : List ℕ) → IsHeader bytes routine_version rest → Begins code_format rest (code_parts p) more → IsWhole p → IsRead bytes p more
code_read bytes rest p more h k whole = by p.around.routines refl
  where
    by : (ts : List Routine) → p.around.routines ≡ ts → IsRead bytes p more
    by [] none = absurd (omega (arith, k.fits.1.0.1.0, ap length none))
    by (t ∷ ts) some = record {
      parts =
          h.parts ∙ ap (λ (u : List ℕ). magic ++ (u16_bytes routine_version ++ u)) k.parts
          ∙ ap (λ (u : List ℕ). magic ++ u) (sym (append_assoc (u16_bytes routine_version) (code_format.spell (code_parts p)) more))
          ∙ ap (λ (u : List ℕ). u ++ more) (sym (code_file_is p t ts some));
      spells = code_spells p whole k.fits;
    }

-- ---- what is not the file of any code

-- what follows the version in the file of any code
plain_of : (bytes rest : List ℕ) (p : Program) → IsHeader bytes version rest → Spells bytes p → Begins plain_format rest (plain_parts p) []
plain_of bytes rest p h s = by p.around.routines refl
  where
    by : (ts : List Routine) → p.around.routines ≡ ts → Begins plain_format rest (plain_parts p) []
    by [] none = ((behind_header bytes version rest p h s).plain none).1
    by (t ∷ ts) some = absurd (omega (arith, ((behind_header bytes version rest p h s).others t ts some).0))

code_in : (bytes rest : List ℕ) (p : Program) → IsHeader bytes routine_version rest → Spells bytes p → Begins code_format rest (code_parts p) []
code_in bytes rest p h s = by p.around.routines refl
  where
    by : (ts : List Routine) → p.around.routines ≡ ts → Begins code_format rest (code_parts p) []
    by [] none = absurd (omega (arith, ((behind_header bytes routine_version rest p h s).plain none).0))
    by (t ∷ ts) some = ((behind_header bytes routine_version rest p h s).others t ts some).1

pub plain_stopped : (bytes rest : List ℕ) (stop : FileStop) → IsHeader bytes version rest → IsStop plain_format rest (Blames a_plain_code rest) stop → fault_of stop (length bytes) ≢ faults.Memory → IsNoFile bytes (fault_of stop (length bytes))
plain_stopped bytes rest stop h k =
    stopped plain_format a_plain_code bytes rest stop (λ none p s. none (plain_parts p) [] (plain_of bytes rest p h s))
    (Due.plain_code (Due.behind_magic h.parts) (record { fits = h.fits; parts = refl })) k

pub code_stopped : (bytes rest : List ℕ) (stop : FileStop) → IsHeader bytes routine_version rest → IsStop code_format rest (Blames a_code rest) stop → fault_of stop (length bytes) ≢ faults.Memory → IsNoFile bytes (fault_of stop (length bytes))
code_stopped bytes rest stop h k =
    stopped code_format a_code bytes rest stop (λ none p s. none (code_parts p) [] (code_in bytes rest p h s))
    (Due.code (Due.behind_magic h.parts) (record { fits = h.fits; parts = refl })) k

-- no file is the beginning of another one
no_longer : (bytes : List ℕ) (p q : Program) (more : List ℕ) → IsRead bytes p more → Spells bytes q → more ≡ []
no_longer bytes p q more h s = by p.around.routines refl
  where
    by : (ts : List Routine) → p.around.routines ≡ ts → more ≡ []
    by [] none =
        let rest = plain_format.spell (plain_parts p) ++ more in
        let header : IsHeader bytes version rest = record {
          fits = omega arith;
          parts = h.parts ∙ ap (λ (t : List ℕ). t ++ more) (ap (file_of p) none) ∙ ap (λ (t : List ℕ). magic ++ t) (append_assoc (u16_bytes version) (plain_format.spell (plain_parts p)) more);
        } in
        (plain_free.one rest (plain_parts p) (plain_parts q) more [] (record { fits = plain_fits (file_bytes p) p h.spells none; parts = refl }) (plain_of bytes rest q header s)).1
    by (t ∷ ts) some =
        let rest = code_format.spell (code_parts p) ++ more in
        let header : IsHeader bytes routine_version rest = record {
          fits = omega arith;
          parts = h.parts ∙ ap (λ (u : List ℕ). u ++ more) (code_file_is p t ts some) ∙ ap (λ (u : List ℕ). magic ++ u) (append_assoc (u16_bytes routine_version) (code_format.spell (code_parts p)) more);
        } in
        (code_free.one rest (code_parts p) (code_parts q) more [] (record { fits = code_fits (file_bytes p) p t ts h.spells some; parts = refl }) (code_in bytes rest q header s)).1

pub goes_on : (bytes : List ℕ) (p : Program) (more : List ℕ) → IsRead bytes p more → 0 < length more → IsNoFile bytes (faults.Trailing (length bytes - length more))
goes_on bytes p more h some = record {
  none = λ q s. omega (arith, some, ap length (no_longer bytes p q more h s));
  why = record {
    file = file_bytes p;
    more = more;
    code = p;
    parts = h.parts;
    at_is = omega (arith, ap length h.parts, length-append (file_bytes p) more);
    spells = h.spells;
    some = some;
  };
}

-- ---- code without routines

abbrev constants_and_parts : Format (List Datum × (List Instr × List Frame))
constants_and_parts = both constants_format (parts_format plain_opcode)

pub plain_slots_stop : (bytes : List ℕ) (stop : FileStop) → IsStop slot_count_format bytes (Blames a_slot_count bytes) stop → IsStop plain_format bytes (Blames a_plain_code bytes) stop
plain_slots_stop bytes stop h =
    both_first_stop slot_count_format constants_and_parts a_slot_count a_plain_code bytes stop (λ file due. Due.plain_slots due) h

pub plain_constants_stop : (bytes : List ℕ) (n : ℕ) (r : List ℕ) (stop : FileStop) → Begins slot_count_format bytes n r → IsStop constants_format r (Blames (a_count constants) r) stop → IsStop plain_format bytes (Blames a_plain_code bytes) stop
plain_constants_stop bytes n r stop h k =
    both_rest_stop slot_count_format constants_and_parts (a_count constants) a_plain_code bytes n r stop slot_count_free h (λ file due. Due.plain_constants due h)
    (both_first_stop constants_format (parts_format plain_opcode) (a_count constants) (a_count constants) r stop (λ file due. due) k)

pub plain_parts_stop : (bytes : List ℕ) (n : ℕ) (r : List ℕ) (ds : List Datum) (t : List ℕ) (stop : FileStop) → Begins slot_count_format bytes n r → Begins constants_format r ds t
    → IsStop (parts_format plain_opcode) t (Blames (a_count (instructions plain_opcode)) t) stop → IsStop plain_format bytes (Blames a_plain_code bytes) stop
plain_parts_stop bytes n r ds t stop h k m =
    stop_due (parts_format plain_opcode) plain_format (a_count (instructions plain_opcode)) a_plain_code t bytes stop
    (λ none p s l.
    let behind = both_rest slot_count_format constants_and_parts slot_count_free bytes n r p s h l in
    none p.1.1 s (both_rest constants_format (parts_format plain_opcode) constants_free r ds t p.1 s k behind.1).1)
    (λ file due. Due.plain_instructions due h k) m

pub plain_built : (bytes : List ℕ) (n : ℕ) (r : List ℕ) (ds : List Datum) (t s : List ℕ) (old new code : Program) → Begins slot_count_format bytes n r → Begins constants_format r ds t → old ≡ with_constants (empty_program n) ds
    → Begins (parts_format plain_opcode) t (new.instructions, new.frames) s → new ≡ with_parts old new.instructions new.frames → code ≡ finished new
    → Begins plain_format bytes (plain_parts code) s × (code.around ≡ alone)
plain_built bytes n r ds t s old new code h k old_is l new_is code_is =
    let made = with_parts (with_constants (empty_program n) ds) new.instructions new.frames in
    let is : code ≡ made = code_is ∙ ap finished (new_is ∙ ap (λ p. with_parts p new.instructions new.frames) old_is) in
    let begun = both_begins slot_count_format constants_and_parts bytes n r (ds, (new.instructions, new.frames)) s h (both_begins constants_format (parts_format plain_opcode) r ds t (new.instructions, new.frames) s k l) in
    (subst (λ p. Begins plain_format bytes (plain_parts p) s) (sym is) begun, ap (λ (p : Program). p.around) is)

-- ---- code with routines

pub code_constants_stop : (bytes : List ℕ) (stop : FileStop) → IsStop constants_format bytes (Blames (a_count constants) bytes) stop → IsStop code_format bytes (Blames a_code bytes) stop
code_constants_stop bytes stop h =
    both_first_stop constants_format bodies_format (a_count constants) a_code bytes stop (λ file due. Due.code_constants due) h

bodies_stop : (bytes : List ℕ) (ds : List Datum) (r : List ℕ) (stop : FileStop) → Begins constants_format bytes ds r → IsStop bodies_format r (Blames a_body_count r) stop → IsStop code_format bytes (Blames a_code bytes) stop
bodies_stop bytes ds r stop h k =
    both_rest_stop constants_format bodies_format a_body_count a_code bytes ds r stop constants_free h (λ file due. Due.body_count due h) k

pub code_count_stop : (bytes : List ℕ) (ds : List Datum) (r : List ℕ) (stop : FileStop) → Begins constants_format bytes ds r → IsStop body_count_format r (Blames a_body_count r) stop → IsStop code_format bytes (Blames a_code bytes) stop
code_count_stop bytes ds r stop h k =
    bodies_stop bytes ds r stop h (stop_due body_count_format bodies_format a_body_count a_body_count r r stop (λ none p s l. none (suc (length p.1)) _ (bodies_first r p s l)) (λ file due. due) k)

pub code_main_stop : (bytes : List ℕ) (ds : List Datum) (r : List ℕ) (n : ℕ) (t : List ℕ) (stop : FileStop) → Begins constants_format bytes ds r → Begins body_count_format r n t → IsStop body_format t (Blames a_body t) stop → IsStop code_format bytes (Blames a_code bytes) stop
code_main_stop bytes ds r n t stop h k m =
    bodies_stop bytes ds r stop h (stop_due body_format bodies_format a_body a_body_count t r stop
    (λ none p s l. none p.0 _ (both_first body_format (rows routine_format (n - 1)) t p s (bodies_rest r n t p s k l).1)) (λ file due. Due.main_body due k) m)

pub code_routines_stop : (bytes : List ℕ) (ds : List Datum) (r : List ℕ) (n : ℕ) (t : List ℕ) (b : Body) (v : List ℕ) (stop : FileStop) → Begins constants_format bytes ds r → Begins body_count_format r n t → Begins body_format t b v
    → IsStop (rows routine_format (n - 1)) v (Blames (many routines (n - 1)) v) stop → IsStop code_format bytes (Blames a_code bytes) stop
code_routines_stop bytes ds r n t b v stop h k m o =
    bodies_stop bytes ds r stop h (stop_due (rows routine_format (n - 1)) bodies_format (many routines (n - 1)) a_body_count v r stop
    (λ none p s l. none p.1 s (both_rest body_format (rows routine_format (n - 1)) body_free t b v p s m (bodies_rest r n t p s k l).1).1) (λ file due. Due.behind_main_body due k m) o)

bodies_begin : (bytes : List ℕ) (n : ℕ) (r : List ℕ) (b : Body) (t : List ℕ) (ts : List Routine) (s : List ℕ) → Begins body_count_format bytes n r → Begins body_format r b t → Begins (rows routine_format (n - 1)) t ts s → Begins bodies_format bytes (b, ts) s
bodies_begin bytes n r b t ts s h k l =
    let n_is : n ≡ suc (length ts) = omega (arith, l.fits.0, h.fits.1.0) in
    record {
      fits = (subst body_count_format.Fits n_is h.fits, (k.fits, l.fits.1));
      parts =
          h.parts
          ∙ ap (λ (x : List ℕ). u16_bytes n ++ x) (k.parts ∙ ap (λ (x : List ℕ). body_bytes b ++ x) l.parts ∙ sym (append_assoc (body_bytes b) (flat_map routine_bytes ts) s))
          ∙ sym (append_assoc (u16_bytes n) (body_bytes b ++ flat_map routine_bytes ts) s)
          ∙ ap (λ (m : ℕ). (u16_bytes m ++ (body_bytes b ++ flat_map routine_bytes ts)) ++ s) n_is;
    }

-- the main body alone
pub main_built : (ds : List Datum) (m : Program) (bytes rest : List ℕ) → IsMainRead ds m bytes rest → IsBuilt m ds (seen_body m) []
main_built ds m bytes rest h =
    subst (λ x. IsBuilt x ds (seen_body m) []) (sym h.new_is) (record { main_is = refl; routines_are = refl; whole = refl; constants_are = refl; number_is = refl })

pub code_built : (bytes : List ℕ) (ds : List Datum) (r : List ℕ) (n : ℕ) (t v s : List ℕ) (m new code : Program) → Begins constants_format bytes ds r → Begins body_count_format r n t → IsMainRead ds m t v → AreRoutinesRead m new v (n - 1) s → code ≡ finished new
    → Begins code_format bytes (code_parts code) s
code_built bytes ds r n t v s m new code h k main read code_is =
    let is : code ≡ code_of ds (seen_body m) read.routines = code_is ∙ (read.built ds (seen_body m) (main_built ds m t v main)).whole in
    subst (λ p. Begins code_format bytes (code_parts p) s) (sym is)
    (both_begins constants_format bodies_format bytes ds r (seen_body m, read.routines) s h (bodies_begin r n t (seen_body m) v read.routines s k main.begins read.begins))
