-- The beginning of a code file, and its faults.
use Rattle.std.proofs.Common.{◌≡◌, ◌≢◌, ℕ, ◌-◌, ◌<◌, List, [], ◌++◌, length, take, drop, ◌∷◌, refl, sym, ap, ◌∙◌, append_assoc, arith}
use Rattle.std.specs.Prelude.{min, Bool, true}
use Rattle.std.specs.List.{starts_with}
use Rattle.std.proofs.Math.Dec.{eqb}
use Rattle.std.proofs.lemmas.Bool.Decides.{Decides-eqb}
use Rattle.std.proofs.lemmas.Slice.Eq.{starts_is}
use Rattle.std.proofs.lemmas.List.{append-nil, length-append, take_all}
use Rattle.mcode.specs.Program.{Program, Routine}
use Rattle.code_writer.specs.Spelling.{u16_bytes}
use Rattle.code_writer.specs.File.{Spells, magic, version, routine_version}
use Rattle.code_writer.specs.Format.{Format, Begins, BeginsNone}
use Rattle.code_writer.specs.Formats.{u16_format, plain_format, plain_parts, code_format, code_parts}
use Rattle.code_writer.proofs.FormatLemmas.{both_first}
use Rattle.code_writer.proofs.FileLemmas.{plain_begins, code_begins, IsOfVersion, of_version, behind_magic}
use Rattle.code_file.specs.declared.stop.FileCause.{FileCause}
use Rattle.code_file.specs.declared.stop.FileCause.TheVariants as causes
use Rattle.code_file.specs.declared.stop.FileStop.{FileStop}
use Rattle.code_file.specs.declared.stop.FileStop.TheVariants as stops
use Rattle.code_file.specs.Due.{BeginsWith, Item, Due}
use Rattle.code_file.specs.Due.Item.{a_version}
use Rattle.code_file.specs.Causes.{IsWrong, width}
use Rattle.code_file.specs.Reads.{Blames, IsCut, IsStop}
use Rattle.code_file.proofs.StopLemmas.{stop_cut}
use Rattle.code_file.proofs.EndLemmas.{wrong_ends}
use Rattle.code_file.specs.declared.fault.FileFault.TheVariants as faults
use Rattle.code_file.specs.Faults.{StandsAt, IsFileFault, IsNoFile, IsHeader, fault_of, at_byte}

-- ---- what stops

why_stopped : (bytes : List ℕ) (cause : FileCause) (left : ℕ) (rest : List ℕ) → left ≡ length rest → IsWrong bytes cause rest → IsFileFault (at_byte cause (length bytes - left)) bytes
why_stopped bytes cause left rest left_is wrong = by cause stands
  where
    stands : StandsAt bytes cause (length bytes - left)
    stands =
        let end = wrong_ends wrong in
        record { front = end.0; rest = rest; parts = end.1; at_is = omega (arith, left_is, ap length end.1, length-append end.0 rest); wrong = wrong }

    by : (c : FileCause) → StandsAt bytes c (length bytes - left) → IsFileFault (at_byte c (length bytes - left)) bytes
    by causes.Truncated s = s
    by causes.BadOpcode s = s
    by causes.NotCanonical s = s
    by causes.Limit s = (length bytes - left, s)

pub stopped : {X : Type 0} (F : Format X) (i : Item) (bytes r : List ℕ) (stop : FileStop) → (BeginsNone F r → (p : Program) → ¬ Spells bytes p) → Due bytes i r → IsStop F r (Blames i r) stop
    → fault_of stop (length bytes) ≢ faults.Memory → IsNoFile bytes (fault_of stop (length bytes))
stopped F i bytes r stops.Memory none due h other = absurd (other refl)
stopped F i bytes r (stops.At cause left) none due h other =
    let wrong = h.blame bytes due in record { none = none h.none; why = why_stopped bytes cause left wrong.0 wrong.1 wrong.2 }

-- a number is cut off where it is due
cut_number : (i : Item) (bytes : List ℕ) (stop : FileStop) → width i ≡ 2 → IsStop u16_format bytes (IsCut 2 bytes) stop → IsStop u16_format bytes (Blames i bytes) stop
cut_number i bytes stop is h = stop_cut u16_format u16_format 2 i i bytes bytes stop is (λ none. none) (λ file due. due) h

-- ---- the magic

-- bytes shorter than the magic that begin like it are a beginning of it
pub magic_begins : (bytes front : List ℕ) (n : ℕ) (r : Bool) → r ≡ starts_with eqb magic front → r ≡ true → front ≡ take n bytes → n ≡ min (length bytes) 4 → length bytes < 4 → BeginsWith (take 4 bytes) magic
magic_begins bytes front n r value so front_is n_is short =
    let same : front ≡ take 4 bytes = front_is ∙ take_all n bytes (omega (arith, n_is)) ∙ sym (take_all 4 bytes (omega arith)) in
    (drop (length front) magic, (starts_is Decides-eqb magic front r value).0 so ∙ ap (λ (t : List ℕ). t ++ drop (length front) magic) same)

pub magic_short : (bytes : List ℕ) → BeginsWith (take 4 bytes) magic → length bytes < 4 → IsNoFile bytes (faults.Truncated (length bytes))
magic_short bytes begins short = record {
  none = λ p s. omega (arith, short, ap length (behind_magic bytes p s));
  why = record { front = bytes; rest = []; parts = sym (append-nil bytes); at_is = refl; wrong = IsWrong.cut_off (Due.start begins) short };
}

-- ---- the version

-- each file has a version after its magic
version_there : (rest bytes : List ℕ) (p : Program) → bytes ≡ magic ++ rest → Spells bytes p → (n : ℕ) × (s : List ℕ) × Begins u16_format rest n s
version_there rest bytes p is s = by p.around.routines refl
  where
    by : (ts : List Routine) → p.around.routines ≡ ts → (n : ℕ) × (s : List ℕ) × Begins u16_format rest n s
    by [] none = (version, _, both_first u16_format plain_format rest (version, plain_parts p) [] (plain_begins rest bytes p is s none))
    by (t ∷ ts) some = (routine_version, _, both_first u16_format code_format rest (routine_version, code_parts p) [] (code_begins rest bytes p t ts is s some))

pub version_stopped : (bytes rest : List ℕ) (stop : FileStop) → bytes ≡ magic ++ rest → IsStop u16_format rest (IsCut 2 rest) stop → fault_of stop (length bytes) ≢ faults.Memory → IsNoFile bytes (fault_of stop (length bytes))
version_stopped bytes rest stop is h =
    stopped u16_format a_version bytes rest stop
    (λ none p s. let there = version_there rest bytes p is s in none there.0 there.1 there.2)
    (Due.behind_magic is) (cut_number a_version rest stop refl h)

pub header_read : (bytes rest : List ℕ) (n : ℕ) (more : List ℕ) → bytes ≡ magic ++ rest → Begins u16_format rest n more → IsHeader bytes n more
header_read bytes rest n more is h = record {
  fits = h.fits;
  parts = is ∙ ap (λ (t : List ℕ). magic ++ t) h.parts;
}

-- what a file has after a version that was read
pub behind_header : (bytes : List ℕ) (n : ℕ) (rest : List ℕ) (p : Program) → IsHeader bytes n rest → Spells bytes p → IsOfVersion n rest p
behind_header bytes n rest p h s = of_version bytes (u16_bytes n ++ rest) n rest p h.parts (record { fits = h.fits; parts = refl }) s

pub bad_version : (bytes : List ℕ) (n : ℕ) (rest : List ℕ) → IsHeader bytes n rest → n ≢ version → n ≢ routine_version → IsNoFile bytes faults.BadVersion
bad_version bytes n rest h other another = record {
  none = λ p s. by p (behind_header bytes n rest p h s) p.around.routines refl;
  why = (n, h.fits, (other, another), (rest, h.parts ∙ sym (append_assoc magic (u16_bytes n) rest)));
}
  where
    by : (p : Program) → IsOfVersion n rest p → (ts : List Routine) → p.around.routines ≡ ts → ⊥
    by p v [] none = other (v.plain none).0
    by p v (t ∷ ts) some = another (v.others t ts some).0
