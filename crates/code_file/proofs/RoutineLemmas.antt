-- Reading routines into a builder.
use Rattle.std.specs.Prelude.{Result, Ok, Err}
use Rattle.std.proofs.Common.{◌≡◌, ◌≢◌, ℕ, suc, ◌+◌, ◌-◌, ◌<◌, ◌≤◌, List, [], ◌∷◌, ◌++◌, length, refl, sym, ap, subst, ◌∙◌, append_assoc, arith}
use Rattle.std.proofs.lemmas.List.{append-nil, length-append}
use Rattle.term_core.specs.Datum.{Datum}
use Rattle.mcode.specs.Program.{Program, Body, Routine, code_of, seen_body}
use Rattle.mcode.specs.Building.{with_routine, with_last_body, main_of}
use Rattle.mcode.specs.declared.kind.Kind.{Kind}
use Rattle.mcode.specs.declared.kind.Kind.TheVariants as kind
use Rattle.mcode.proofs.BuildLemmas.{last_given}
use Rattle.code_writer.specs.File.{most_opcode}
use Rattle.code_writer.specs.Format.{Format, Begins, BeginsNone, both, rows}
use Rattle.code_writer.specs.Formats.{u8_format, kind_format, any_kind_format, argument_count_format, arguments_format, signature_format, slot_count_format, parts_format, body_format, routine_format, routine_parts}
use Rattle.code_writer.proofs.FormatLemmas.{both_begins, counted_begins, counted_first, counted_rest}
use Rattle.code_writer.proofs.FrameLemmas.{any_kind_free, any_opened}
use Rattle.code_writer.proofs.InstructionLemmas.{head_is}
use Rattle.code_writer.proofs.FileLemmas.{argument_count_free, arguments_free, signature_free, routine_free}
use Rattle.code_file.specs.declared.stop.FileStop.{FileStop}
use Rattle.code_file.specs.Due.{BeginsWith, Due}
use Rattle.code_file.specs.Due.Item.{a_count, many, a_kind, a_slot_count, a_body, a_routine, a_signature_kind}
use Rattle.code_file.specs.Due.Row.{instructions, kinds, routines}
use Rattle.code_file.specs.Reads.{Reads, Blames, IsCut, IsStop}
use Rattle.code_file.specs.Parts.{with_parts, with_whole, IsRoutineRead, IsBuilt, AreRoutinesRead}
use Rattle.code_file.proofs.StopLemmas.{stop_due, stop_cut, both_first_stop, both_rest_stop, through_stop}
use Rattle.code_file.proofs.RowLemmas.{IsRowSoFar, row_start, plain_step, plain_end, plain_stop}
use Rattle.code_file.proofs.BodyLemmas.{body_begins, main_slots_stop, main_parts_stop}

-- ---- kinds that may be Any

pub any_kind_short : (bytes : List ℕ) (stop : FileStop) → IsStop u8_format bytes (IsCut 1 bytes) stop → IsStop any_kind_format bytes (Blames a_signature_kind bytes) stop
any_kind_short bytes stop h = stop_cut u8_format any_kind_format 1 a_signature_kind a_signature_kind bytes bytes stop refl (λ none k s l. go none k s l) (λ file due. due) h
  where
    go : BeginsNone u8_format bytes → (k : Kind) (s : List ℕ) → Begins any_kind_format bytes k s → ⊥
    go none kind.Any s l = none 0 s (record { fits = omega arith; parts = l.parts })
    go none kind.Int s l = none 1 s (record { fits = omega arith; parts = l.parts })
    go none kind.Bool s l = none 2 s (record { fits = omega arith; parts = l.parts })
    go none kind.Cons s l = none 3 s (record { fits = omega arith; parts = l.parts })
    go none kind.Map s l = none 4 s (record { fits = omega arith; parts = l.parts })
    go none (kind.Tuple n) s l = none 5 _ (record { fits = omega arith; parts = l.parts })

-- a kind other than Any is spelled as in frames
pub told_begins : (bytes : List ℕ) (k : Kind) (s : List ℕ) → Begins kind_format bytes k s → Begins any_kind_format bytes k s
told_begins bytes kind.Any s h = absurd (h.fits.1 refl)
told_begins bytes kind.Int s h = record { fits = h.fits.0; parts = h.parts }
told_begins bytes k s h = record { fits = h.fits.0; parts = h.parts }

told_back : (bytes : List ℕ) (b : ℕ) (r : List ℕ) (k : Kind) (s : List ℕ) → bytes ≡ b ∷ r → b ≢ 0 → Begins any_kind_format bytes k s → Begins kind_format bytes k s
told_back bytes b r kind.Any s is some h = absurd (some (sym (any_opened bytes b r kind.Any s is h).tag_is))
told_back bytes b r kind.Int s is some h = record { fits = (h.fits, λ e. absurd (cc)); parts = h.parts }
told_back bytes b r k s is some h = record { fits = (h.fits, λ e. absurd (cc)); parts = h.parts }

pub told_stop : (bytes : List ℕ) (b : ℕ) (r : List ℕ) (stop : FileStop) → Begins u8_format bytes b r → b ≢ 0 → IsStop kind_format bytes (Blames a_kind bytes) stop → IsStop any_kind_format bytes (Blames a_signature_kind bytes) stop
told_stop bytes b r stop h some k =
    stop_due kind_format any_kind_format a_kind a_signature_kind bytes bytes stop (λ none l s g. none l s (told_back bytes b r l s h.parts some g))
    (λ file due. Due.told_kind due (λ any. some (sym (head_is 0 b any.0 r (sym any.1 ∙ h.parts))))) k

pub told_reads : {R : Type 0} (bytes : List ℕ) (b : ℕ) (r : List ℕ) (view : R → Kind × List ℕ) (result : Result R FileStop) → Begins u8_format bytes b r → b ≢ 0 → Reads kind_format (Blames a_kind bytes) view bytes result → Reads any_kind_format (Blames a_signature_kind bytes) view bytes result
told_reads bytes b r view (Ok x) h some k = told_begins bytes (view x).0 (view x).1 k
told_reads bytes b r view (Err stop) h some k = told_stop bytes b r stop h some k

-- ---- signatures

pub arguments_stop : (bytes : List ℕ) (xs : List Kind) (rest : List ℕ) (i n : ℕ) (stop : FileStop) → IsRowSoFar any_kind_format (λ _. Unit {0}) bytes xs rest i → i < n
    → IsStop any_kind_format rest (Blames a_signature_kind rest) stop → IsStop (rows any_kind_format n) bytes (Blames (many kinds n) bytes) stop
arguments_stop bytes xs rest i n stop h fewer k =
    plain_stop any_kind_format a_signature_kind (many kinds n) any_kind_free bytes xs rest i n stop h fewer (λ file due begun. Due.argument_kind due begun fewer) k

pub count_stop_signature : (bytes : List ℕ) (stop : FileStop) → IsStop argument_count_format bytes (Blames a_routine bytes) stop → IsStop signature_format bytes (Blames a_routine bytes) stop
count_stop_signature bytes stop h =
    both_first_stop arguments_format any_kind_format a_routine a_routine bytes stop (λ file due. due)
    (stop_due argument_count_format arguments_format a_routine a_routine bytes bytes stop (λ none xs s k. none (length xs) _ (counted_first argument_count_format any_kind_format bytes xs s k)) (λ file due. due) h)

pub arguments_stop_signature : (bytes : List ℕ) (n : ℕ) (r : List ℕ) (stop : FileStop) → Begins argument_count_format bytes n r → IsStop (rows any_kind_format n) r (Blames (many kinds n) r) stop → IsStop signature_format bytes (Blames a_routine bytes) stop
arguments_stop_signature bytes n r stop h k =
    both_first_stop arguments_format any_kind_format a_routine a_routine bytes stop (λ file due. due)
    (stop_due (rows any_kind_format n) arguments_format (many kinds n) a_routine r bytes stop (λ none xs s l. none xs s (counted_rest argument_count_format any_kind_format argument_count_free bytes n r xs s h l)) (λ file due. Due.argument_kinds due h) k)

pub result_stop_signature : (bytes : List ℕ) (ks : List Kind) (r : List ℕ) (stop : FileStop) → Begins arguments_format bytes ks r → IsStop any_kind_format r (Blames a_signature_kind r) stop → IsStop signature_format bytes (Blames a_routine bytes) stop
result_stop_signature bytes ks r stop h k =
    both_rest_stop arguments_format any_kind_format a_signature_kind a_routine bytes ks r stop arguments_free h (λ file due. Due.result_kind due h) k

pub signature_begins : (bytes : List ℕ) (n : ℕ) (r : List ℕ) (ks : List Kind) (t : List ℕ) (k : Kind) (s : List ℕ) → Begins argument_count_format bytes n r → Begins (rows any_kind_format n) r ks t → Begins any_kind_format t k s → Begins signature_format bytes (ks, k) s
signature_begins bytes n r ks t k s h l m =
    both_begins arguments_format any_kind_format bytes ks t k s (counted_begins argument_count_format any_kind_format bytes n r ks t h l) m

-- ---- a routine

abbrev whole_routine : Format ((List Kind × Kind) × Body)
whole_routine = both signature_format body_format

pub signature_stop_routine : (bytes : List ℕ) (stop : FileStop) → IsStop signature_format bytes (Blames a_routine bytes) stop → IsStop routine_format bytes (Blames a_routine bytes) stop
signature_stop_routine bytes stop h =
    through_stop routine_parts whole_routine bytes (Blames a_routine bytes) stop (both_first_stop signature_format body_format a_routine a_routine bytes stop (λ file due. due) h)

body_stop_routine : (bytes : List ℕ) (x : List Kind × Kind) (r : List ℕ) (stop : FileStop) → Begins signature_format bytes x r → IsStop body_format r (Blames a_body r) stop → IsStop routine_format bytes (Blames a_routine bytes) stop
body_stop_routine bytes x r stop h k =
    through_stop routine_parts whole_routine bytes (Blames a_routine bytes) stop (both_rest_stop signature_format body_format a_body a_routine bytes x r stop signature_free h (λ file due. Due.routine_body due h) k)

pub slots_stop_routine : (bytes : List ℕ) (x : List Kind × Kind) (r : List ℕ) (stop : FileStop) → Begins signature_format bytes x r → IsStop slot_count_format r (Blames a_slot_count r) stop → IsStop routine_format bytes (Blames a_routine bytes) stop
slots_stop_routine bytes x r stop h k = body_stop_routine bytes x r stop h (main_slots_stop r stop k)

pub parts_stop_routine : (bytes : List ℕ) (x : List Kind × Kind) (r : List ℕ) (n : ℕ) (t : List ℕ) (stop : FileStop) → Begins signature_format bytes x r → Begins slot_count_format r n t → IsStop (parts_format most_opcode) t (Blames (a_count (instructions most_opcode)) t) stop
    → IsStop routine_format bytes (Blames a_routine bytes) stop
parts_stop_routine bytes x r n t stop h k l = body_stop_routine bytes x r stop h (main_parts_stop r n t stop k l)

pub routine_read : (bytes : List ℕ) (x : List Kind × Kind) (r : List ℕ) (n : ℕ) (t s : List ℕ) (old begun new : Program) → Begins signature_format bytes x r → Begins slot_count_format r n t → Begins (parts_format most_opcode) t (new.instructions, new.frames) s
    → begun ≡ with_routine old x.0 x.1 n → new ≡ with_parts begun new.instructions new.frames → IsRoutineRead old new bytes s
routine_read bytes x r n t s old begun new h k l begun_is new_is =
    let b : Body = record { slots = n; instructions = new.instructions; frames = new.frames } in
    let whole = both_begins signature_format body_format bytes x r b s h (body_begins r b t s k l) in
    record {
      routine = record { arguments = x.0; result = x.1; body = b };
      begins = record { fits = whole.fits; parts = whole.parts };
      new_is = new_is ∙ ap (λ p. with_parts p new.instructions new.frames) begun_is;
    }

-- ---- routines

pub built_more : (p q : Program) (ds : List Datum) (main : Body) (ts : List Routine) (t : Routine) → IsBuilt p ds main ts → q ≡ with_whole p t → IsBuilt q ds main (ts ++ t ∷ [])
built_more p q ds main ts t h is =
    subst (λ x. IsBuilt x ds main (ts ++ t ∷ [])) (sym is) (record {
      main_is = h.main_is;
      routines_are = routines;
      whole = (λ i. code_of (h.constants_are i) (h.main_is i) (routines i));
      constants_are = h.constants_are;
      number_is = omega (arith, h.number_is, length-append ts (t ∷ []));
    })
  where
    routines : with_last_body (with_whole p t).around.routines (seen_body (with_whole p t)) ≡ ts ++ t ∷ []
    routines =
        last_given (with_last_body p.around.routines (seen_body p)) _ t.body
        ∙ ap (λ us. us ++ t ∷ []) h.routines_are

-- what the loop over routines knows
pub record AreRoutinesSoFar (start : Program) (bytes : List ℕ) (now : Program) (rest : List ℕ) (n : ℕ) : Type 0 where
  pub routines : List Routine
  pub row : IsRowSoFar routine_format (λ _. Unit {0}) bytes routines rest n
  pub built : (ds : List Datum) (main : Body) → IsBuilt start ds main [] → IsBuilt now ds main routines
  pub number_is : now.around.number ≡ n

pub routines_start : (start : Program) (bytes : List ℕ) → start.around.number ≡ 0 → AreRoutinesSoFar start bytes start bytes 0
routines_start start bytes none = record {
  routines = [];
  row = row_start routine_format (λ _. Unit {0}) bytes tt;
  built = λ ds main h. h;
  number_is = none;
}

pub routines_step : (start : Program) (bytes : List ℕ) (old new : Program) (rest : List ℕ) (n : ℕ) (r : List ℕ) → AreRoutinesSoFar start bytes old rest n → IsRoutineRead old new rest r → AreRoutinesSoFar start bytes new r (n + 1)
routines_step start bytes old new rest n r h k = record {
  routines = h.routines ++ k.routine ∷ [];
  row = plain_step routine_format bytes h.routines rest n k.routine r h.row k.begins;
  built = λ ds main begun. built_more old new ds main h.routines k.routine (h.built ds main begun) k.new_is;
  number_is = omega (arith, ap (λ (p : Program). p.around.number) k.new_is, h.number_is);
}

pub routines_end : (start : Program) (bytes : List ℕ) (now : Program) (rest : List ℕ) (n : ℕ) → AreRoutinesSoFar start bytes now rest n → AreRoutinesRead start now bytes n rest
routines_end start bytes now rest n h = record {
  routines = h.routines;
  begins = plain_end routine_format bytes h.routines rest n h.row;
  built = h.built;
}

pub routines_stop : (start : Program) (bytes : List ℕ) (now : Program) (rest : List ℕ) (i n : ℕ) (stop : FileStop) → AreRoutinesSoFar start bytes now rest i → i < n
    → IsStop routine_format rest (Blames a_routine rest) stop → IsStop (rows routine_format n) bytes (Blames (many routines n) bytes) stop
routines_stop start bytes now rest i n stop h fewer k =
    plain_stop routine_format a_routine (many routines n) routine_free bytes h.routines rest i n stop h.row fewer (λ file due begun. Due.routine due begun fewer) k
