-- Reading kinds, places, slots and frames, and what stops it.
use Rattle.std.specs.Prelude.{IfSome}
use Rattle.std.proofs.Common.{◌≡◌, ◌≢◌, ℕ, ◌<◌, List, [], ◌∷◌, ◌++◌, length, refl, sym, ap, subst, ◌∙◌, append_assoc, arith, Option}
use Rattle.mcode.specs.Program.{Frame, Rise, place_number}
use Rattle.mcode.specs.declared.kind.Kind.{Kind}
use Rattle.mcode.specs.declared.kind.Kind.TheVariants as kind
use Rattle.code_writer.specs.Spelling.{u16_bytes, kind_bytes}
use Rattle.code_writer.specs.File.{IsU8}
use Rattle.code_writer.specs.Format.{Format, Begins, BeginsNone, both, rows, such}
use Rattle.code_writer.specs.Formats.{u8_format, u16_format, kind_format, place_format, places_format, slots_format, frame_rest_format, frame_format}
use Rattle.code_writer.proofs.FormatLemmas.{both_begins, both_first, both_rest}
use Rattle.code_writer.proofs.NumberLemmas.{u8_free, u16_free}
use Rattle.code_writer.proofs.InstructionLemmas.{head_is}
use Rattle.code_writer.proofs.FrameLemmas.{KindOpened, RisingSlots, frame_to, kind_opened, kind_rest, kind_spelled, kind_tag, place_free, places_free, slot_rows, slots_from, slots_to}
use Rattle.code_file.specs.declared.stop.FileCause.TheVariants.{BadOpcode, NotCanonical}
use Rattle.code_file.specs.declared.stop.FileStop.{FileStop}
use Rattle.code_file.specs.Due.{BeginsWith, Due}
use Rattle.code_file.specs.Due.Item.{a_count, many, a_depth, a_place, a_kind, a_slot, so_many}
use Rattle.code_file.specs.Due.Row.{places, slots}
use Rattle.code_file.specs.Causes.{IsWrong}
use Rattle.code_file.specs.Reads.{Blames, IsCut, IsRefuted, IsStop}
use Rattle.code_file.proofs.StopLemmas.{stop_none, stop_due, stop_cut}
use Rattle.code_file.proofs.RowLemmas.{IsRowSoFar, row_stop, such_counted_begins, such_counted_short, such_counted_stop}
use Rattle.code_file.specs.Rising.{LastIs}
use Rattle.code_file.proofs.RiseLemmas.{rise_above, above_last, rise_front}

-- ---- kinds

pub kind_short : (bytes : List ℕ) (stop : FileStop) → IsStop u8_format bytes (IsCut 1 bytes) stop → IsStop kind_format bytes (Blames a_kind bytes) stop
kind_short bytes stop h = stop_cut u8_format kind_format 1 a_kind a_kind bytes bytes stop refl (λ none k s l. none (kind_tag k) (kind_rest k ++ s) (record {
  fits = small k;
  parts = l.parts ∙ ap (λ (bs : List ℕ). bs ++ s) (kind_spelled k l.fits.1);
})) (λ file due. due) h
  where
    small : (k : Kind) → IsU8 (kind_tag k)
    small kind.Any = omega arith
    small k = omega arith

-- no size follows the tag of tuples
pub kind_short_size : (bytes : List ℕ) (b : ℕ) (r : List ℕ) (stop : FileStop) → Begins u8_format bytes b r → b ≡ 5 → IsStop u16_format r (IsCut 2 r) stop → IsStop kind_format bytes (Blames a_kind bytes) stop
kind_short_size bytes b r stop h five k =
    stop_cut u16_format kind_format 2 (so_many 2) a_kind r bytes stop refl (λ none l s g. go l (kind_opened bytes b r l s h.parts g) none)
    (λ file due. Due.tuple_size (subst (λ c. Due file a_kind (c ∷ r)) five (subst (Due file a_kind) h.parts due))) k
  where
    go : (l : Kind) {s : List ℕ} → KindOpened b r l s → BeginsNone u16_format r → ⊥
    go (kind.Tuple n) {s} o none = none n s (record { fits = o.size; parts = o.rest_is })
    go l o none = absurd (omega (arith, o.tag_is, five))

-- a byte that is not the tag of a kind
pub kind_unnamed : (bytes : List ℕ) (b : ℕ) (r : List ℕ) → Begins u8_format bytes b r → b ≢ 1 → b ≢ 2 → b ≢ 3 → b ≢ 4 → b ≢ 5 → IsRefuted kind_format bytes (Blames a_kind bytes BadOpcode (length bytes))
kind_unnamed bytes b r h n1 n2 n3 n4 n5 = record {
  none = λ k s l. let o = kind_opened bytes b r k s h.parts l in go k o.some o.tag_is;
  blame = λ file due. (b ∷ r, ap length h.parts, IsWrong.no_kind (subst (Due file a_kind) h.parts due) names);
}
  where
    go : (k : Kind) → k ≢ kind.Any → kind_tag k ≡ b → ⊥
    go kind.Any some is = some refl
    go kind.Int some is = n1 (sym is)
    go kind.Bool some is = n2 (sym is)
    go kind.Cons some is = n3 (sym is)
    go kind.Map some is = n4 (sym is)
    go (kind.Tuple n) some is = n5 (sym is)

    names : (k : Kind) → ¬ BeginsWith (b ∷ []) (kind_bytes k)
    names kind.Any w = absurd (empty_not b w.0 w.1)
      where
        empty_not : (b : ℕ) (more : List ℕ) → [] ≡ b ∷ more → ⊥
        empty_not b more is = cc
    names kind.Int w = n1 (sym (head_is 1 b [] w.0 w.1))
    names kind.Bool w = n2 (sym (head_is 2 b [] w.0 w.1))
    names kind.Cons w = n3 (sym (head_is 3 b [] w.0 w.1))
    names kind.Map w = n4 (sym (head_is 4 b [] w.0 w.1))
    names (kind.Tuple n) w = n5 (sym (head_is 5 b (u16_bytes n) w.0 w.1))

pub tuple_begins : (bytes : List ℕ) (b : ℕ) (r : List ℕ) (n : ℕ) (s : List ℕ) → Begins u8_format bytes b r → b ≡ 5 → Begins u16_format r n s → Begins kind_format bytes (kind.Tuple n) s
tuple_begins bytes b r n s h five k = record {
  fits = (k.fits, λ is. cc);
  parts = h.parts ∙ ap (λ c. c ∷ r) five ∙ ap (λ (bs : List ℕ). 5 ∷ bs) k.parts;
}

-- ---- places

abbrev AbovePlaces : List (ℕ × Kind) → ℕ × Kind → Type 0
AbovePlaces before p = Rise place_number (before ++ p ∷ [])

pub place_short : (before : List (ℕ × Kind)) (bytes : List ℕ) (stop : FileStop) → IsStop u16_format bytes (IsCut 2 bytes) stop → IsStop (such place_format (AbovePlaces before)) bytes (Blames (a_place before) bytes) stop
place_short before bytes stop h =
    stop_cut u16_format (such place_format (AbovePlaces before)) 2 (a_place before) (a_place before) bytes bytes stop refl
    (λ none p s k. none p.0 (kind_bytes p.1 ++ s) (both_first u16_format kind_format bytes p s (record { fits = k.fits.0; parts = k.parts }))) (λ file due. due) h

pub place_kind : (before : List (ℕ × Kind)) (last : Option ℕ) (bytes : List ℕ) (n : ℕ) (r : List ℕ) (stop : FileStop) → LastIs place_number before last → Begins u16_format bytes n r → IfSome last (λ l. l < n)
    → IsStop kind_format r (Blames a_kind r) stop → IsStop (such place_format (AbovePlaces before)) bytes (Blames (a_place before) bytes) stop
place_kind before last bytes n r stop is h above k =
    stop_due kind_format (such place_format (AbovePlaces before)) a_kind (a_place before) r bytes stop
    (λ none p s l. none p.1 s (both_rest u16_format kind_format u16_free bytes n r p s h (record { fits = l.fits.0; parts = l.parts })).1)
    (λ file due. Due.kind due h ((above_last place_number before last n is).0 above)) k

pub place_unordered : (before : List (ℕ × Kind)) (last : Option ℕ) (bytes : List ℕ) (n : ℕ) (r : List ℕ) → LastIs place_number before last → Rise place_number before → Begins u16_format bytes n r → ¬ IfSome last (λ l. l < n)
    → IsRefuted (such place_format (AbovePlaces before)) bytes (Blames (a_place before) bytes NotCanonical (length bytes))
place_unordered before last bytes n r is up h low = record {
  none = λ p s k.
      let same = both_rest u16_format kind_format u16_free bytes n r p s h (record { fits = k.fits.0; parts = k.parts }) in
      low (subst (λ m. IfSome last (λ l. l < m)) (sym same.0) ((rise_above place_number before last p is up).1 k.fits.1));
  blame = λ file due. (bytes, refl, IsWrong.low_place due h (λ above. low ((above_last place_number before last n is).1 above)));
}

pub place_begins : (before : List (ℕ × Kind)) (last : Option ℕ) (bytes : List ℕ) (n : ℕ) (r : List ℕ) (k : Kind) (s : List ℕ) → LastIs place_number before last → Rise place_number before → IfSome last (λ l. l < n)
    → Begins u16_format bytes n r → Begins kind_format r k s → Begins (such place_format (AbovePlaces before)) bytes (n, k) s
place_begins before last bytes n r k s is up above h g = record {
  fits = ((h.fits, g.fits), (rise_above place_number before last (n, k) is up).0 above);
  parts = h.parts ∙ ap (λ (t : List ℕ). u16_bytes n ++ t) g.parts ∙ sym (append_assoc (u16_bytes n) (kind_bytes k) s);
}

pub place_row_stop : (bytes : List ℕ) (xs : List (ℕ × Kind)) (rest : List ℕ) (i n : ℕ) (stop : FileStop) → IsRowSoFar place_format (Rise place_number) bytes xs rest i → i < n
    → IsStop (such place_format (AbovePlaces xs)) rest (Blames (a_place xs) rest) stop → IsStop (such (rows place_format n) (Rise place_number)) bytes (Blames (many places n) bytes) stop
place_row_stop bytes xs rest i n stop h fewer k =
    row_stop place_format (Rise place_number) (a_place xs) (many places n) place_free (rise_front place_number) bytes xs rest i n stop h fewer (λ file due begun. Due.place due begun fewer) k

-- ---- slots

abbrev AboveSlots : List ℕ → ℕ → Type 0
AboveSlots before v = Rise (λ slot. slot) (before ++ v ∷ [])

pub slot_short : (before bytes : List ℕ) (stop : FileStop) → IsStop u8_format bytes (IsCut 1 bytes) stop → IsStop (such u8_format (AboveSlots before)) bytes (Blames (a_slot before) bytes) stop
slot_short before bytes stop h =
    stop_cut u8_format (such u8_format (AboveSlots before)) 1 (a_slot before) (a_slot before) bytes bytes stop refl (λ none v s k. none v s (record { fits = k.fits.0; parts = k.parts })) (λ file due. due) h

pub slot_unordered : (before : List ℕ) (last : Option ℕ) (bytes : List ℕ) (v : ℕ) (r : List ℕ) → LastIs (λ slot. slot) before last → Rise (λ slot. slot) before → Begins u8_format bytes v r → ¬ IfSome last (λ l. l < v)
    → IsRefuted (such u8_format (AboveSlots before)) bytes (Blames (a_slot before) bytes NotCanonical (length bytes))
slot_unordered before last bytes v r is up h low = record {
  none = λ w s k.
      let same = u8_free.one bytes v w r s h (record { fits = k.fits.0; parts = k.parts }) in
      low (subst (λ m. IfSome last (λ l. l < m)) (sym same.0) ((rise_above (λ slot. slot) before last w is up).1 k.fits.1));
  blame = λ file due. (bytes, refl, IsWrong.low_slot due h (λ above. low ((above_last (λ slot. slot) before last v is).1 above)));
}

pub slot_row_stop : (bytes xs rest : List ℕ) (i n : ℕ) (stop : FileStop) → IsRowSoFar u8_format RisingSlots bytes xs rest i → i < n
    → IsStop (such u8_format (AboveSlots xs)) rest (Blames (a_slot xs) rest) stop → IsStop (such (rows u8_format n) RisingSlots) bytes (Blames (many slots n) bytes) stop
slot_row_stop bytes xs rest i n stop h fewer k =
    row_stop u8_format RisingSlots (a_slot xs) (many slots n) u8_free (rise_front (λ slot. slot)) bytes xs rest i n stop h fewer (λ file due begun. Due.slot due begun fewer) k

slots_stop : (bytes : List ℕ) (stop : FileStop) → IsStop slot_rows bytes (Blames (a_count slots) bytes) stop → IsStop slots_format bytes (Blames (a_count slots) bytes) stop
slots_stop bytes stop h = stop_none slot_rows slots_format bytes bytes (Blames (a_count slots) bytes) stop (λ none vs s k. none vs s (slots_from bytes vs s k)) h

pub slots_begins : (bytes : List ℕ) (n : ℕ) (r vs s : List ℕ) → Begins u16_format bytes n r → Begins (such (rows u8_format n) RisingSlots) r vs s → Begins slots_format bytes vs s
slots_begins bytes n r vs s h k = slots_to bytes vs s (such_counted_begins u16_format u8_format RisingSlots bytes n r vs s h k)

pub slots_short : (bytes : List ℕ) (stop : FileStop) → IsStop u16_format bytes (IsCut 2 bytes) stop → IsStop slots_format bytes (Blames (a_count slots) bytes) stop
slots_short bytes stop h = slots_stop bytes stop (such_counted_short u8_format RisingSlots slots bytes stop h)

pub slots_row_stop : (bytes : List ℕ) (n : ℕ) (r : List ℕ) (stop : FileStop) → Begins u16_format bytes n r → IsStop (such (rows u8_format n) RisingSlots) r (Blames (many slots n) r) stop → IsStop slots_format bytes (Blames (a_count slots) bytes) stop
slots_row_stop bytes n r stop h k = slots_stop bytes stop (such_counted_stop u8_format RisingSlots slots bytes n r stop h k)

-- ---- frames

abbrev two_rows : Format (List (ℕ × Kind) × List ℕ)
two_rows = both places_format slots_format

pub depth_short : (bytes : List ℕ) (stop : FileStop) → IsStop u16_format bytes (IsCut 2 bytes) stop → IsStop frame_rest_format bytes (Blames a_depth bytes) stop
depth_short bytes stop h =
    stop_cut u16_format frame_rest_format 2 a_depth a_depth bytes bytes stop refl (λ none p s k. none p.0 (two_rows.spell p.1 ++ s) (both_first u16_format two_rows bytes p s k)) (λ file due. due) h

rest_none : (bytes : List ℕ) (n : ℕ) (r : List ℕ) → Begins u16_format bytes n r → BeginsNone two_rows r → BeginsNone frame_rest_format bytes
rest_none bytes n r h none p s k = none p.1 s (both_rest u16_format two_rows u16_free bytes n r p s h k).1

pub frame_rest_places : (bytes : List ℕ) (n : ℕ) (r : List ℕ) (stop : FileStop) → Begins u16_format bytes n r → IsStop places_format r (Blames (a_count places) r) stop → IsStop frame_rest_format bytes (Blames a_depth bytes) stop
frame_rest_places bytes n r stop h k =
    stop_due places_format frame_rest_format (a_count places) a_depth r bytes stop
    (λ none. rest_none bytes n r h (λ p s l. none p.0 (slots_format.spell p.1 ++ s) (both_first places_format slots_format r p s l))) (λ file due. Due.behind_depth due h) k

pub frame_rest_slots : (bytes : List ℕ) (n : ℕ) (r : List ℕ) (ps : List (ℕ × Kind)) (t : List ℕ) (stop : FileStop) → Begins u16_format bytes n r → Begins places_format r ps t → IsStop slots_format t (Blames (a_count slots) t) stop
    → IsStop frame_rest_format bytes (Blames a_depth bytes) stop
frame_rest_slots bytes n r ps t stop h g k =
    stop_due slots_format frame_rest_format (a_count slots) a_depth t bytes stop
    (λ none. rest_none bytes n r h (λ p s l. none p.1 s (both_rest places_format slots_format places_free r ps t p s g l).1)) (λ file due. Due.behind_places (Due.behind_depth due h) g) k

pub frame_begins : (bytes : List ℕ) (f : Frame) (r s : List ℕ) → Begins u16_format bytes f.pc r → Begins frame_rest_format r (f.depth, (f.places, f.slots)) s → Begins frame_format bytes f s
frame_begins bytes f r s h k = frame_to bytes f s (both_begins u16_format frame_rest_format bytes f.pc r (f.depth, (f.places, f.slots)) s h k)
