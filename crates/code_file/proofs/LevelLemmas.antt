-- Terms with a number of levels left: reading those with parts, and what stops it.
use Rattle.std.specs.Str.{encode_utf8_all, chars}
use Rattle.std.specs.List.{flat_map}
use Rattle.std.proofs.Common.{◌≡◌, ◌≢◌, ℕ, suc, ◌-◌, ◌<◌, ◌≤◌, List, [], ◌∷◌, ◌++◌, length, refl, sym, ap, subst, ◌∙◌, append_assoc, arith, Bool, true, false, ◌&&◌}
use Rattle.std.proofs.lemmas.List.{length-append}
use Rattle.std.proofs.Math.Utf8.{scalars}
use Rattle.std.proofs.lemmas.Str.{encodes-chars, scalars-chars}
use Rattle.term_core.specs.Datum.{Datum, items_of, entries_of, cells, cell_count}
use Rattle.term_core.specs.Datum.Datum.{integer, atom, tuple, map, nil, cons, binary}
use Rattle.term_core.specs.Limits.{AreScalars, IsTerm}
use Rattle.term_core.specs.MapPairs.{IsMapOf, IsMapFault}
use Rattle.term_core.specs.Fault.{IsFault}
use Rattle.term_core.specs.Sizes.{list_limit}
use Rattle.term_core.specs.declared.fault.Fault.{Fault}
use Rattle.term_core.specs.declared.fault.Fault.TheVariants as fault
use Rattle.term_core.proofs.LimitLemmas.{item_count-items_of, entry_count-entries_of, cell_count-cells, term-refused}
use Rattle.term_core.proofs.MapLemmas.{apart-no_twin, apart_from_rising, map_from_rising}
use Rattle.code_writer.specs.Spelling.{u16_bytes, u32_bytes, constant_bytes, pair_bytes}
use Rattle.code_writer.specs.File.{IsU8}
use Rattle.code_writer.specs.Format.{Format, Begins, BeginsNone, rows, counted, such}
use Rattle.code_writer.specs.Formats.{u8_format, u16_format, i64_format, bytes_format, constant_format, utf8_format, binary_format, tuple_format, pair_format, map_format, list_format, length_format, RisingPairs, IsNoCell}
use Rattle.code_writer.proofs.FormatLemmas.{both_first, both_rest, counted_first, counted_rest, counted_begins}
use Rattle.code_writer.proofs.NumberLemmas.{u16_free, length-u16_bytes}
use Rattle.code_writer.proofs.InstructionLemmas.{head_is}
use Rattle.code_writer.proofs.LeafLemmas.{utf8_free, length_free, chars_of_text}
use Rattle.code_writer.proofs.ConstantLemmas.{Node, node_of, tag_of, spelled, rest_bytes, Opened, opened, integer_in, atom_in, tuple_in, map_in, list_in, binary_in, pair_free, elements_free, constant_free, some_depth, tuple_bytes, map_bytes, list_bytes, cell_count-ends, fit_items, fit_entries, fit_cells}
use Rattle.code_file.specs.declared.stop.FileCause.TheVariants as causes
use Rattle.code_file.specs.declared.stop.FileStop.{FileStop}
use Rattle.code_file.specs.Due.{BeginsWith, Due}
use Rattle.code_file.specs.Due.Item.{a_count, many, a_term, a_tail, a_pair, a_text_size, a_list_length, a_binary_size, so_many}
use Rattle.code_file.specs.Due.Row.{terms, pairs}
use Rattle.code_file.specs.Causes.{IsWrong}
use Rattle.code_file.specs.Reads.{Blames, IsCut, IsRefuted, IsStop, limit_stop}
use Rattle.term_order.specs.Keys.{IsAboveKeys}
use Rattle.code_file.proofs.StopLemmas.{stop_due, stop_cut}
use Rattle.code_file.proofs.RowLemmas.{IsRowSoFar, row_start, row_step, row_end, row_stop, plain_stop, such_counted_none}

-- ---- the first byte

pub tag_short : (room : ℕ) (bytes : List ℕ) (stop : FileStop) → IsStop u8_format bytes (IsCut 1 bytes) stop → IsStop (constant_format room) bytes (Blames (a_term room) bytes) stop
tag_short room bytes stop h = stop_cut u8_format (constant_format room) 1 (a_term room) (a_term room) bytes bytes stop refl (λ none d s k. first d s k none) (λ file due. due) h
  where
    small : (n : Node) → IsU8 (tag_of n)
    small (Node.of_integer z) = omega arith
    small n = omega arith

    first : (d : Datum) (s : List ℕ) → Begins (constant_format room) bytes d s → BeginsNone u8_format bytes → ⊥
    first d s k none = none (tag_of (node_of d)) (rest_bytes (node_of d) ++ s) (record { fits = small (node_of d); parts = k.parts ∙ ap (λ (bs : List ℕ). bs ++ s) (spelled d) })

-- no level is left
pub level_past : (bytes : List ℕ) (b : ℕ) (r : List ℕ) → Begins u8_format bytes b r → IsRefuted (constant_format 0) bytes (Blames (a_term 0) bytes causes.Limit (length bytes))
level_past bytes b r h = record {
  none = λ d s k. omega (arith, some_depth d, k.fits.1);
  blame = λ file due. (b ∷ r, ap length h.parts, IsWrong.too_deep (subst (Due file (a_term 0)) h.parts due));
}

-- a term is due whose tag was read
tagged : {file : List ℕ} (room level : ℕ) (bytes : List ℕ) (b : ℕ) (r : List ℕ) → suc room ≡ level → Begins u8_format bytes b r → Due file (a_term level) bytes → Due file (a_term (suc room)) (b ∷ r)
tagged {file} room level bytes b r next h due = subst (λ l. Due file (a_term l) (b ∷ r)) (sym next) (subst (Due file (a_term level)) h.parts due)

-- ---- terms without parts

-- if what follows a tag is not spelled, neither is the term
behind_none : {X : Type 0} (F : Format X) (room level : ℕ) (bytes : List ℕ) (b : ℕ) (r : List ℕ) → suc room ≡ level → Begins u8_format bytes b r
    → ((n : Node) (s : List ℕ) → Opened b r room n s → BeginsNone F r → ⊥) → BeginsNone F r → BeginsNone (constant_format level) bytes
behind_none F room level bytes b r next h out none d s k = out (node_of d) s (opened room bytes b r d s h.parts (subst (λ l. Begins (constant_format l) bytes d s) (sym next) k)) none

integer_none : (room level : ℕ) (bytes r : List ℕ) → suc room ≡ level → Begins u8_format bytes 1 r → BeginsNone i64_format r → BeginsNone (constant_format level) bytes
integer_none room level bytes r next h none = behind_none i64_format room level bytes 1 r next h (λ n s o m. let v = integer_in r room n s o in m v.0 s v.2) none

pub integer_short : (room level : ℕ) (bytes r : List ℕ) (stop : FileStop) → suc room ≡ level → Begins u8_format bytes 1 r → IsStop i64_format r (IsCut 8 r) stop → IsStop (constant_format level) bytes (Blames (a_term level) bytes) stop
integer_short room level bytes r stop next h k =
    stop_cut i64_format (constant_format level) 8 (so_many 8) (a_term level) r bytes stop refl (integer_none room level bytes r next h) (λ file due. Due.integer (tagged room level bytes 1 r next h due)) k

pub text_stop : (room level : ℕ) (bytes r : List ℕ) (stop : FileStop) → suc room ≡ level → Begins u8_format bytes 2 r → IsStop utf8_format r (Blames a_text_size r) stop → IsStop (constant_format level) bytes (Blames (a_term level) bytes) stop
text_stop room level bytes r stop next h k =
    stop_due utf8_format (constant_format level) a_text_size (a_term level) r bytes stop
    (behind_none utf8_format room level bytes 2 r next h (λ n s o m. let v = atom_in r room n s o in m (encode_utf8_all v.0) s v.2)) (λ file due. Due.text_size (tagged room level bytes 2 r next h due)) k

pub content_stop : (room level : ℕ) (bytes r : List ℕ) (stop : FileStop) → suc room ≡ level → Begins u8_format bytes 7 r → IsStop binary_format r (Blames a_binary_size r) stop → IsStop (constant_format level) bytes (Blames (a_term level) bytes) stop
content_stop room level bytes r stop next h k =
    stop_due binary_format (constant_format level) a_binary_size (a_term level) r bytes stop
    (behind_none binary_format room level bytes 7 r next h (λ n s o m. let v = binary_in r room n s o in m v.0 s v.2)) (λ file due. Due.binary_size (tagged room level bytes 7 r next h due)) k

-- bytes that begin with a text begin with its atom
pub atom_begins : (level : ℕ) (bytes r bs s : List ℕ) → 0 < level → Begins u8_format bytes 2 r → Begins utf8_format r bs s → IsTerm (atom (chars bs)) → Begins (constant_format level) bytes (atom (chars bs)) s
atom_begins level bytes r bs s some h k term =
    let same = encodes-chars bs k.fits.1 in
    record {
      fits = (term.sound, omega arith);
      parts = h.parts ∙ ap (λ (t : List ℕ). 2 ∷ t) k.parts ∙ ap (λ (t : List ℕ). 2 ∷ (u16_bytes (length t) ++ t) ++ s) (sym same);
    }

-- the bytes of a text that has too many characters
scalars_each : (cs : List ℕ) → scalars cs ≡ true → AreScalars cs
scalars_each [] h = tt
scalars_each (c ∷ cs) h = let each = parts_so _ (scalars cs) h in (each.0, scalars_each cs each.1)
  where
    parts_so : (a b : Bool) → (a && b) ≡ true → (a ≡ true) × (b ≡ true)
    parts_so true b h = (refl, h)
    parts_so false b h = absurd (cc)

pub atom_refused : (room level : ℕ) (bytes r bs s : List ℕ) (f : Fault) (left : ℕ) → suc room ≡ level → Begins u8_format bytes 2 r → Begins utf8_format r bs s → IsFault f (atom (chars bs)) → left ≡ length r - 2
    → IsStop (constant_format level) bytes (Blames (a_term level) bytes) (limit_stop f left)
atom_refused room level bytes r bs s fault.Memory left next h k l left_is = tt
atom_refused room level bytes r bs s fault.TooDeep left next h k l left_is = absurd (omega (arith, l))
atom_refused room level bytes r bs s fault.DuplicateKey left next h k l left_is = absurd l
atom_refused room level bytes r bs s fault.TooLong left next h k l left_is = record {
  none = λ d t m.
      let o = atom_in r room (node_of d) t (opened room bytes 2 r d t h.parts (subst (λ q. Begins (constant_format q) bytes d t) (sym next) m)) in
      let same = utf8_free.one r bs (encode_utf8_all o.0) s t k o.2 in
      let cs_is : o.0 ≡ chars bs = sym (chars_of_text o.0 o.4) ∙ ap chars (sym same.0) in
      omega (arith, o.3, l.1, ap length cs_is);
  blame = λ file due.
      let size : Begins u16_format r (length bs) (bs ++ s) = record { fits = k.fits.0; parts = k.parts ∙ append_assoc (u16_bytes (length bs)) bs s } in
      let text : Begins (bytes_format (length bs)) (bs ++ s) (encode_utf8_all (chars bs)) s =
      record { fits = ap length (encodes-chars bs k.fits.1); parts = ap (λ (t : List ℕ). t ++ s) (sym (encodes-chars bs k.fits.1)) } in (
        bs ++ s,
        left_is ∙ omega (arith, ap length size.parts, length-append (u16_bytes (length bs)) (bs ++ s), length-u16_bytes (length bs)),
        IsWrong.many_characters (chars bs) (Due.text (Due.text_size (tagged room level bytes 2 r next h due)) size) (scalars_each (chars bs) (scalars-chars bs k.fits.1)) text l.1,
      );
}

-- making a term that is spelled fails only if memory runs out
pub made : (level : ℕ) (bytes : List ℕ) (d : Datum) (s : List ℕ) (f : Fault) → level < 256 → Begins (constant_format level) bytes d s → IsFault f d → f ≡ fault.Memory
made level bytes d s f small h k = term-refused f d (record { sound = h.fits.0; shallow = omega (arith, h.fits.1) }) k

-- making a binary that is spelled fails only if memory runs out
pub binary_made : (r bs s : List ℕ) (f : Fault) → Begins binary_format r bs s → IsFault f (binary bs) → f ≡ fault.Memory
binary_made r bs s fault.Memory h k = refl
binary_made r bs s fault.TooDeep h k = absurd (omega (arith, k))
binary_made r bs s fault.TooLong h k = absurd (omega (arith, k.1, h.fits))
binary_made r bs s fault.DuplicateKey h k = absurd k

pub nil_begins : (level : ℕ) (bytes : List ℕ) (b : ℕ) (r : List ℕ) → 0 < level → b ≡ 5 → Begins u8_format bytes b r → Begins (constant_format level) bytes nil r
nil_begins level bytes b r some five h = record { fits = (tt, omega arith); parts = h.parts ∙ ap (λ c. c ∷ r) five }

-- a byte is not the tag of a term
pub tag_unnamed : (room level : ℕ) (bytes : List ℕ) (b : ℕ) (r : List ℕ) → suc room ≡ level → Begins u8_format bytes b r → b ≢ 1 → b ≢ 2 → b ≢ 3 → b ≢ 4 → b ≢ 5 → b ≢ 6 → b ≢ 7
    → IsRefuted (constant_format level) bytes (Blames (a_term level) bytes causes.BadOpcode (length bytes))
tag_unnamed room level bytes b r next h n1 n2 n3 n4 n5 n6 n7 = record {
  none = λ d s k. go (node_of d) (opened room bytes b r d s h.parts (subst (λ l. Begins (constant_format l) bytes d s) (sym next) k)).tag_is;
  blame = λ file due. (
    b ∷ r,
    ap length h.parts,
    IsWrong.no_tag (tagged room level bytes b r next h due) (λ d w. go (node_of d) (head_is (tag_of (node_of d)) b (rest_bytes (node_of d)) w.0 (sym (spelled d) ∙ w.1))),
  );
}
  where
    go : (n : Node) → tag_of n ≡ b → ⊥
    go (Node.of_integer z) is = n1 (sym is)
    go (Node.of_atom cs) is = n2 (sym is)
    go (Node.of_tuple ds) is = n3 (sym is)
    go (Node.of_map ps) is = n4 (sym is)
    go Node.of_nil is = n5 (sym is)
    go (Node.of_list ds t) is = n6 (sym is)
    go (Node.of_binary bs) is = n7 (sym is)

-- ---- elements

pub elements_stop : (room n : ℕ) (bytes : List ℕ) (xs : List Datum) (rest : List ℕ) (i : ℕ) (stop : FileStop) → IsRowSoFar (constant_format room) (λ _. Unit {0}) bytes xs rest i → i < n
    → IsStop (constant_format room) rest (Blames (a_term room) rest) stop → IsStop (rows (constant_format room) n) bytes (Blames (many (terms room) n) bytes) stop
elements_stop room n bytes xs rest i stop h fewer k =
    plain_stop (constant_format room) (a_term room) (many (terms room) n) (constant_free room) bytes xs rest i n stop h fewer (λ file due begun. Due.term due begun fewer) k

-- ---- tuples

tuple_none : (room level : ℕ) (bytes r : List ℕ) → suc room ≡ level → Begins u8_format bytes 3 r → BeginsNone (tuple_format room) r → BeginsNone (constant_format level) bytes
tuple_none room level bytes r next h none = behind_none (tuple_format room) room level bytes 3 r next h (λ n s o m. let v = tuple_in r room n s o in m v.0 s v.2) none

pub tuple_short : (room level : ℕ) (bytes r : List ℕ) (stop : FileStop) → suc room ≡ level → Begins u8_format bytes 3 r → IsStop u16_format r (IsCut 2 r) stop → IsStop (constant_format level) bytes (Blames (a_term level) bytes) stop
tuple_short room level bytes r stop next h k =
    stop_cut u16_format (constant_format level) 2 (a_count (terms room)) (a_term level) r bytes stop refl
    (λ none. tuple_none room level bytes r next h (λ ds s l. none (length ds) (flat_map constant_bytes ds ++ s) (counted_first u16_format (constant_format room) r ds s l)))
    (λ file due. Due.tuple (tagged room level bytes 3 r next h due)) k

pub tuple_stop : (room level : ℕ) (bytes r : List ℕ) (n : ℕ) (t : List ℕ) (stop : FileStop) → suc room ≡ level → Begins u8_format bytes 3 r → Begins u16_format r n t
    → IsStop (rows (constant_format room) n) t (Blames (many (terms room) n) t) stop → IsStop (constant_format level) bytes (Blames (a_term level) bytes) stop
tuple_stop room level bytes r n t stop next h k l =
    stop_due (rows (constant_format room) n) (constant_format level) (many (terms room) n) (a_term level) t bytes stop
    (λ none. tuple_none room level bytes r next h (λ ds s m. none ds s (counted_rest u16_format (constant_format room) u16_free r n t ds s k m)))
    (λ file due. Due.behind_count (Due.tuple (tagged room level bytes 3 r next h due)) k) l

pub tuple_begins : (room level : ℕ) (bytes r : List ℕ) (n : ℕ) (t : List ℕ) (ds : List Datum) (s : List ℕ) → suc room ≡ level → Begins u8_format bytes 3 r → Begins u16_format r n t
    → Begins (rows (constant_format room) n) t ds s → Begins (constant_format level) bytes (tuple (items_of ds)) s
tuple_begins room level bytes r n t ds s next h k l =
    let all = counted_begins u16_format (constant_format room) r n t ds s k l in
    let within = fit_items room ds l.fits.1 in
    record {
      fits = ((omega (arith, item_count-items_of ds, all.fits.0), within.0), omega (arith, within.1, next));
      parts = h.parts ∙ ap (λ (x : List ℕ). 3 ∷ x) all.parts
          ∙ ap (λ (x : List ℕ). x ++ s) (sym (tuple_bytes ds));
    }

-- ---- pairs and maps

abbrev AbovePairs : List (Datum × Datum) → Datum × Datum → Type 0
AbovePairs before p = RisingPairs (before ++ p ∷ [])

pub rising_above : (ps : List (Datum × Datum)) (p : Datum × Datum) → RisingPairs ps → IsAboveKeys ps p.0 → RisingPairs (ps ++ p ∷ [])
rising_above [] p up above = (tt, tt)
rising_above (q ∷ []) p up above = (above, (tt, tt))
rising_above (q ∷ q' ∷ ps) p up above = (up.0, rising_above (q' ∷ ps) p up.1 above)

pub above_rising : (ps : List (Datum × Datum)) (p : Datum × Datum) → RisingPairs (ps ++ p ∷ []) → IsAboveKeys ps p.0
above_rising [] p up = tt
above_rising (q ∷ []) p up = up.0
above_rising (q ∷ q' ∷ ps) p up = above_rising (q' ∷ ps) p up.1

rising_front : (xs : List (Datum × Datum)) (z : Datum × Datum) (zs : List (Datum × Datum)) → RisingPairs (xs ++ z ∷ zs) → RisingPairs (xs ++ z ∷ [])
rising_front [] z zs up = (tt, tt)
rising_front (x ∷ []) z zs up = (up.0, (tt, tt))
rising_front (x ∷ x' ∷ xs) z zs up = (up.0, rising_front (x' ∷ xs) z zs up.1)

pub pair_key_stop : (room : ℕ) (before : List (Datum × Datum)) (bytes : List ℕ) (stop : FileStop) → IsStop (constant_format room) bytes (Blames (a_term room) bytes) stop
    → IsStop (such (pair_format room) (AbovePairs before)) bytes (Blames (a_pair room before) bytes) stop
pair_key_stop room before bytes stop h =
    stop_due (constant_format room) (such (pair_format room) (AbovePairs before)) (a_term room) (a_pair room before) bytes bytes stop
    (λ none p s k. none p.0 (constant_bytes p.1 ++ s) (both_first (constant_format room) (constant_format room) bytes p s (record { fits = k.fits.0; parts = k.parts }))) (λ file due. Due.key due) h

pub pair_value_stop : (room : ℕ) (before : List (Datum × Datum)) (bytes : List ℕ) (key : Datum) (r : List ℕ) (stop : FileStop) → Begins (constant_format room) bytes key r → IsAboveKeys before key
    → IsStop (constant_format room) r (Blames (a_term room) r) stop → IsStop (such (pair_format room) (AbovePairs before)) bytes (Blames (a_pair room before) bytes) stop
pair_value_stop room before bytes key r stop h above k =
    stop_due (constant_format room) (such (pair_format room) (AbovePairs before)) (a_term room) (a_pair room before) r bytes stop
    (λ none p s l. none p.1 s (both_rest (constant_format room) (constant_format room) (constant_free room) bytes key r p s h (record { fits = l.fits.0; parts = l.parts })).1) (λ file due. Due.value due h above) k

pub key_unordered : (room : ℕ) (before : List (Datum × Datum)) (bytes : List ℕ) (key : Datum) (r : List ℕ) → Begins (constant_format room) bytes key r → ¬ IsAboveKeys before key
    → IsRefuted (such (pair_format room) (AbovePairs before)) bytes (Blames (a_pair room before) bytes causes.NotCanonical (length bytes))
key_unordered room before bytes key r h low = record {
  none = λ p s k.
      let same = both_rest (constant_format room) (constant_format room) (constant_free room) bytes key r p s h (record { fits = k.fits.0; parts = k.parts }) in
      low (subst (IsAboveKeys before) (sym same.0) (above_rising before p k.fits.1));
  blame = λ file due. (bytes, refl, IsWrong.low_key due h low);
}

pub pair_begins : (room : ℕ) (before : List (Datum × Datum)) (bytes : List ℕ) (key : Datum) (r : List ℕ) (value : Datum) (s : List ℕ) → RisingPairs before → IsAboveKeys before key
    → Begins (constant_format room) bytes key r → Begins (constant_format room) r value s → Begins (such (pair_format room) (AbovePairs before)) bytes (key, value) s
pair_begins room before bytes key r value s up above h k = record {
  fits = ((h.fits, k.fits), rising_above before (key, value) up above);
  parts = h.parts ∙ ap (λ (t : List ℕ). constant_bytes key ++ t) k.parts ∙ sym (append_assoc (constant_bytes key) (constant_bytes value) s);
}

pub pairs_stop : (room n : ℕ) (bytes : List ℕ) (xs : List (Datum × Datum)) (rest : List ℕ) (i : ℕ) (stop : FileStop) → IsRowSoFar (pair_format room) RisingPairs bytes xs rest i → i < n
    → IsStop (such (pair_format room) (AbovePairs xs)) rest (Blames (a_pair room xs) rest) stop → IsStop (such (rows (pair_format room) n) RisingPairs) bytes (Blames (many (pairs room) n) bytes) stop
pairs_stop room n bytes xs rest i stop h fewer k =
    row_stop (pair_format room) RisingPairs (a_pair room xs) (many (pairs room) n) (pair_free room (constant_free room)) rising_front bytes xs rest i n stop h fewer (λ file due begun. Due.pair due begun fewer) k

map_none : (room level : ℕ) (bytes r : List ℕ) → suc room ≡ level → Begins u8_format bytes 4 r → BeginsNone (map_format room) r → BeginsNone (constant_format level) bytes
map_none room level bytes r next h none = behind_none (map_format room) room level bytes 4 r next h (λ n s o m. let v = map_in r room n s o in m v.0 s v.2) none

pub map_short : (room level : ℕ) (bytes r : List ℕ) (stop : FileStop) → suc room ≡ level → Begins u8_format bytes 4 r → IsStop u16_format r (IsCut 2 r) stop → IsStop (constant_format level) bytes (Blames (a_term level) bytes) stop
map_short room level bytes r stop next h k =
    stop_cut u16_format (constant_format level) 2 (a_count (pairs room)) (a_term level) r bytes stop refl
    (λ none. map_none room level bytes r next h (λ ps s l. none (length ps) (flat_map pair_bytes ps ++ s) (counted_first u16_format (pair_format room) r ps s (record { fits = l.fits.0; parts = l.parts }))))
    (λ file due. Due.map (tagged room level bytes 4 r next h due)) k

pub map_stop : (room level : ℕ) (bytes r : List ℕ) (n : ℕ) (t : List ℕ) (stop : FileStop) → suc room ≡ level → Begins u8_format bytes 4 r → Begins u16_format r n t
    → IsStop (such (rows (pair_format room) n) RisingPairs) t (Blames (many (pairs room) n) t) stop → IsStop (constant_format level) bytes (Blames (a_term level) bytes) stop
map_stop room level bytes r n t stop next h k l =
    stop_due (such (rows (pair_format room) n) RisingPairs) (constant_format level) (many (pairs room) n) (a_term level) t bytes stop
    (λ none. map_none room level bytes r next h (such_counted_none u16_format (pair_format room) RisingPairs u16_free r n t k none))
    (λ file due. Due.behind_count (Due.map (tagged room level bytes 4 r next h due)) k) l

pub map_begins : (room level : ℕ) (bytes r : List ℕ) (n : ℕ) (t : List ℕ) (ps : List (Datum × Datum)) (s : List ℕ) → suc room ≡ level → Begins u8_format bytes 4 r → Begins u16_format r n t
    → Begins (such (rows (pair_format room) n) RisingPairs) t ps s → Begins (constant_format level) bytes (map (entries_of ps)) s
map_begins room level bytes r n t ps s next h k l =
    let all = counted_begins u16_format (pair_format room) r n t ps s k (record { fits = l.fits.0; parts = l.parts }) in
    let within = fit_entries room ps l.fits.0.1 l.fits.1 in
    record {
      fits = ((omega (arith, entry_count-entries_of ps, all.fits.0), within.0), omega (arith, within.1, next));
      parts = h.parts ∙ ap (λ (x : List ℕ). 4 ∷ x) all.parts
          ∙ ap (λ (x : List ℕ). x ++ s) (sym (map_bytes ps));
    }

pub map_of_one : (room level : ℕ) (bytes r t : List ℕ) (p : Datum × Datum) (s : List ℕ) → suc room ≡ level → Begins u8_format bytes 4 r → Begins u16_format r 1 t
    → Begins (such (pair_format room) (λ q. RisingPairs ([] ++ q ∷ []))) t p s → Begins (constant_format level) bytes (map (entries_of (p ∷ []))) s
map_of_one room level bytes r t p s next h k l =
    map_begins room level bytes r 1 t (p ∷ []) s next h k
    (row_end (pair_format room) RisingPairs t (p ∷ []) s 1 (row_step (pair_format room) RisingPairs t [] t 0 p s (row_start (pair_format room) RisingPairs t tt) l))

pub map_made : (level : ℕ) (bytes : List ℕ) (ps : List (Datum × Datum)) (s : List ℕ) (f : Fault) → level < 256 → RisingPairs ps → Begins (constant_format level) bytes (map (entries_of ps)) s → IsMapFault f ps → f ≡ fault.Memory
map_made level bytes ps s fault.Memory small up h k = refl
map_made level bytes ps s fault.TooDeep small up h k = made level bytes (map (entries_of ps)) s fault.TooDeep small h k
map_made level bytes ps s fault.TooLong small up h k = made level bytes (map (entries_of ps)) s fault.TooLong small h k
map_made level bytes ps s fault.DuplicateKey small up h k = absurd (apart-no_twin ps (apart_from_rising ps up) k.2)

pub map_term : (ps : List (Datum × Datum)) (t : Datum) → RisingPairs ps → ((d : Datum) → IsMapOf ps d → d ≡ t) → map (entries_of ps) ≡ t
map_term ps t up only = only (map (entries_of ps)) (map_from_rising ps (map (entries_of ps)) up refl)

-- ---- lists

list_none : (room level : ℕ) (bytes r : List ℕ) → suc room ≡ level → Begins u8_format bytes 6 r → BeginsNone (list_format room) r → BeginsNone (constant_format level) bytes
list_none room level bytes r next h none = behind_none (list_format room) room level bytes 6 r next h (λ n s o m. let v = list_in r room n s o in m v.0 s v.2) none

abbrev elements_format : ℕ → Format (List Datum)
elements_format room = counted length_format (constant_format room)

abbrev end_format : ℕ → Format Datum
end_format room = such (constant_format room) IsNoCell

pub list_short : (room level : ℕ) (bytes r : List ℕ) (stop : FileStop) → suc room ≡ level → Begins u8_format bytes 6 r → IsStop length_format r (Blames a_list_length r) stop → IsStop (constant_format level) bytes (Blames (a_term level) bytes) stop
list_short room level bytes r stop next h k =
    stop_due length_format (constant_format level) a_list_length (a_term level) r bytes stop
    (λ none. list_none room level bytes r next h (λ l s m.
    let first = both_first (elements_format room) (end_format room) r l s m in
    none (length l.0) (flat_map constant_bytes l.0 ++ (constant_bytes l.1 ++ s)) (counted_first length_format (constant_format room) r l.0 (constant_bytes l.1 ++ s) first)))
    (λ file due. Due.list_length (tagged room level bytes 6 r next h due)) k

-- if a list's elements are not spelled, the list is not spelled
elements_none : (room level : ℕ) (bytes r : List ℕ) (n : ℕ) (t : List ℕ) → suc room ≡ level → Begins u8_format bytes 6 r → Begins length_format r n t → BeginsNone (rows (constant_format room) n) t → BeginsNone (constant_format level) bytes
elements_none room level bytes r n t next h k none = list_none room level bytes r next h (λ l s m.
    none l.0 (constant_bytes l.1 ++ s) (counted_rest length_format (constant_format room) length_free r n t l.0 (constant_bytes l.1 ++ s) k (both_first (elements_format room) (end_format room) r l s m)))

pub list_stop : (room level : ℕ) (bytes r : List ℕ) (n : ℕ) (t : List ℕ) (stop : FileStop) → suc room ≡ level → Begins u8_format bytes 6 r → Begins length_format r n t
    → IsStop (rows (constant_format room) n) t (Blames (many (terms room) n) t) stop → IsStop (constant_format level) bytes (Blames (a_term level) bytes) stop
list_stop room level bytes r n t stop next h k l =
    stop_due (rows (constant_format room) n) (constant_format level) (many (terms room) n) (a_term level) t bytes stop
    (elements_none room level bytes r n t next h k) (λ file due. Due.elements (tagged room level bytes 6 r next h due) k) l

-- if what follows a list's elements is not spelled as a tail, the list is not spelled
tail_none : (room level : ℕ) (bytes r : List ℕ) (n : ℕ) (t : List ℕ) (ds : List Datum) (u : List ℕ) → suc room ≡ level → Begins u8_format bytes 6 r → Begins length_format r n t → Begins (rows (constant_format room) n) t ds u
    → BeginsNone (end_format room) u → BeginsNone (constant_format level) bytes
tail_none room level bytes r n t ds u next h k l none = list_none room level bytes r next h (λ e s m.
    let all = counted_begins length_format (constant_format room) r n t ds u k l in
    none e.1 s (both_rest (elements_format room) (end_format room) (elements_free room (constant_free room)) r ds u e s all m).1)

list_parts : (room : ℕ) (bytes r : List ℕ) (n : ℕ) (t : List ℕ) (ds : List Datum) (u : List ℕ) → Begins u8_format bytes 6 r → Begins length_format r n t → Begins (rows (constant_format room) n) t ds u
    → bytes ≡ (6 ∷ u32_bytes n ++ flat_map constant_bytes ds) ++ u
list_parts room bytes r n t ds u h k l = h.parts ∙ ap (λ (x : List ℕ). 6 ∷ x) (k.parts ∙ ap (λ (x : List ℕ). u32_bytes n ++ x) l.parts ∙ sym (append_assoc (u32_bytes n) (flat_map constant_bytes ds) u))

-- the tail of a list is due after its elements
tail_due : {file : List ℕ} (room level : ℕ) (bytes r : List ℕ) (n : ℕ) (t : List ℕ) (ds : List Datum) (u : List ℕ) → suc room ≡ level → Begins u8_format bytes 6 r → Begins length_format r n t → Begins (rows (constant_format room) n) t ds u
    → Due file (a_term level) bytes → Due file (a_tail room) u
tail_due room level bytes r n t ds u next h k l due = Due.tail (tagged room level bytes 6 r next h due) (counted_begins length_format (constant_format room) r n t ds u k l)

pub tail_stop : (room level : ℕ) (bytes r : List ℕ) (n : ℕ) (t : List ℕ) (ds : List Datum) (u : List ℕ) (stop : FileStop) → suc room ≡ level → Begins u8_format bytes 6 r → Begins length_format r n t → Begins (rows (constant_format room) n) t ds u
    → ¬ BeginsWith (6 ∷ []) u → IsStop (constant_format room) u (Blames (a_term room) u) stop → IsStop (constant_format level) bytes (Blames (a_term level) bytes) stop
tail_stop room level bytes r n t ds u stop next h k l no_six m =
    stop_due (constant_format room) (constant_format level) (a_term room) (a_term level) u bytes stop
    (λ none. tail_none room level bytes r n t ds u next h k l (λ e s o. none e s (record { fits = o.fits.0; parts = o.parts })))
    (λ file due. Due.tail_term (tail_due room level bytes r n t ds u next h k l due) no_six) m

-- the tag of a list is where a tail is due
pub tail_joined : (room level : ℕ) (bytes r : List ℕ) (n : ℕ) (t : List ℕ) (ds : List Datum) (u : List ℕ) → suc room ≡ level → Begins u8_format bytes 6 r → Begins length_format r n t → Begins (rows (constant_format room) n) t ds u
    → BeginsWith (6 ∷ []) u → IsRefuted (constant_format level) bytes (Blames (a_term level) bytes causes.NotCanonical (length u))
tail_joined room level bytes r n t ds u next h k l six = record {
  none = tail_none room level bytes r n t ds u next h k l (λ e s o.
      no_list e o.fits.1 (sym (head_is 6 (tag_of (node_of e)) six.0 (rest_bytes (node_of e) ++ s) (sym six.1 ∙ o.parts ∙ ap (λ (bs : List ℕ). bs ++ s) (spelled e)))));
  blame = λ file due. (u, refl, IsWrong.list_as_tail (tail_due room level bytes r n t ds u next h k l due) six);
}
  where
    no_list : (e : Datum) → IsNoCell e → tag_of (node_of e) ≡ 6 → ⊥
    no_list (cons head tail) no_cell is = no_cell
    no_list (integer z) no_cell is = omega (arith, is)
    no_list e no_cell is = omega (arith, is)

pub tail_no_cell : (room : ℕ) (u : List ℕ) (d : Datum) (s : List ℕ) → Begins (constant_format room) u d s → ¬ BeginsWith (6 ∷ []) u → IsNoCell d
tail_no_cell room u (cons head tail) s h no_six = no_six (rest_bytes (node_of (cons head tail)) ++ s, h.parts ∙ ap (λ (bs : List ℕ). bs ++ s) (spelled (cons head tail)))
tail_no_cell room u d s h no_six = tt

pub list_begins : (room level : ℕ) (bytes r : List ℕ) (n : ℕ) (t : List ℕ) (ds : List Datum) (u : List ℕ) (d : Datum) (s : List ℕ) → suc room ≡ level → Begins u8_format bytes 6 r → Begins length_format r n t → Begins (rows (constant_format room) n) t ds u
    → Begins (constant_format room) u d s → IsNoCell d → Begins (constant_format level) bytes (cells ds d) s
list_begins room level bytes r n t [] u d s next h k l m no_cell = absurd (omega (arith, k.fits.0, l.fits.0))
list_begins room level bytes r n t (e ∷ ds) u d s next h k l m no_cell =
    let few : length (e ∷ ds) ≤ list_limit = omega (arith, k.fits.1, l.fits.0) in
    let within = fit_cells room ds d l.fits.1.1 m.fits no_cell (omega (arith, few)) in
    let count : cell_count (cells ds d) ≡ length ds = cell_count-cells ds d ∙ omega (arith, cell_count-ends d no_cell) in
    record {
      fits = ((omega (arith, count, few), l.fits.1.0.0, within.0), omega (arith, within.1, l.fits.1.0.1, next));
      parts = list_parts room bytes r n t (e ∷ ds) u h k l
          ∙ ap (λ (x : List ℕ). (6 ∷ u32_bytes n ++ flat_map constant_bytes (e ∷ ds)) ++ x) m.parts
          ∙ ap (λ (x : List ℕ). 6 ∷ x) (sym (append_assoc (u32_bytes n ++ flat_map constant_bytes (e ∷ ds)) (constant_bytes d) s))
          ∙ ap (λ (x : List ℕ). 6 ∷ x ++ s) (append_assoc (u32_bytes n) (flat_map constant_bytes (e ∷ ds)) (constant_bytes d))
          ∙ ap (λ m. 6 ∷ (u32_bytes m ++ (flat_map constant_bytes (e ∷ ds) ++ constant_bytes d)) ++ s) (sym l.fits.0)
          ∙ ap (λ (x : List ℕ). x ++ s) (sym (list_bytes (e ∷ ds) d (omega arith) no_cell));
    }
