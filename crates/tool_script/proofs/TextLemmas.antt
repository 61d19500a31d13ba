-- The lines of replies.
use Rattle.std.proofs.Common.{◌≡◌, ℕ, pos, List, [], ◌∷◌, ◌++◌, Some, None, refl, sym, ◌∙◌, ap, append_assoc, arith, length, ◌<◌, ◌^◌, decimal}
use Rattle.std.specs.Prelude.{codes, true, false, Result, Ok, Err, OnOk, is_ok, if◌then◌else◌}
use Rattle.std.specs.Str.{encode_utf8_all}
use Rattle.std.proofs.Math.Utf8.{encode}
use Rattle.std.proofs.lemmas.List.{append-nil}
use Rattle.std.proofs.lemmas.List.Concat.{flat_map-append}
use Rattle.term_core.specs.Datum.{Datum, items_of, cells}
use Rattle.term_core.specs.Datum.Datum.{integer, atom, tuple, nil}
use Rattle.term_core.specs.Datum.Items.{no_items, item}
use Rattle.term_operand.specs.Operand.{boolean}
use Rattle.term_text.specs.Character.{open_brace, close_brace, open_bracket, close_bracket, comma}
use Rattle.term_text.specs.declared.write.Form.TheVariants as forms
use Rattle.term_text.specs.Canonical.{text_as, items_text, more_items_text, is_reserved}
use Rattle.term_text.proofs.Bytes.{decimal_bytes, tuple_bytes, items_bytes, more_items_bytes, no_more_items, list_bytes}
use Rattle.mspec_syntax.specs.FaultNumbers.{number_of, clause_of, variable_of}
use Rattle.mspec_syntax.specs.declared.fault.SpecFault.{SpecFault}
use Rattle.tool_io.specs.Lines.{text_of, line}
use Rattle.tool_script.specs.Script.{error, key_or_end}
use Rattle.tool_script.specs.Replies.{behind_commas}
use Rattle.tool_script.specs.Walks.{arguments, fault_term, piece_term}

-- ---- what is written as it is

-- the bytes of a line are appended
pub put_line_as : {T E : Type 0} (r : Result T E) (old new bytes text : List ℕ) → text ≡ bytes → new ≡ (if is_ok r then old ++ bytes else old) → OnOk r (new ≡ old ++ text)
put_line_as (Ok v) old new bytes text is put = put ∙ ap (λ l. old ++ l) (sym is)
put_line_as (Err f) old new bytes text is put = tt

pub true_line : line (boolean true) ≡ codes "true.\n"
unfolding text_as is_reserved encode
true_line = refl

pub false_line : line (boolean false) ≡ codes "false.\n"
unfolding text_as is_reserved encode
false_line = refl

pub end_line : line (key_or_end None) ≡ codes "'$end_of_table'.\n"
unfolding text_as is_reserved encode
end_line = refl

pub empty_text : (ds : List Datum) → length ds < 1 → text_of (cells ds nil) ≡ codes "[]"
unfolding text_as encode
empty_text [] few = refl
empty_text (d ∷ ds) few = absurd (omega (arith, few))

-- a number in decimal
pub number_bytes : (n : ℕ) → n < 2 ^ 64 → text_of (integer (pos n)) ≡ decimal n
unfolding text_as
number_bytes n small = decimal_bytes n small

-- ---- errors

pub error_bytes : text_of (atom (codes "error")) ≡ codes "error"
unfolding text_as is_reserved encode
error_bytes = refl

pub error_line : (n : ℕ) → line (error n) ≡ codes "{error," ++ (text_of (integer (pos n)) ++ codes "}.\n")
error_line n =
    let d = integer (pos n) in
    let name = atom (codes "error") in
    let last : encode_utf8_all (more_items_text forms.Canonical (item d no_items)) ≡ comma ∷ text_of d =
    more_items_bytes forms.Canonical d [] ∙ ap (λ (l : List ℕ). comma ∷ (text_of d ++ l)) (no_more_items forms.Canonical) ∙ ap (λ (l : List ℕ). comma ∷ l) (append-nil (text_of d)) in
    let items : encode_utf8_all (items_text forms.Canonical (item name (item d no_items))) ≡ codes "error" ++ (comma ∷ text_of d) =
    items_bytes forms.Canonical name (d ∷ []) ∙ ap (λ (l : List ℕ). l ++ encode_utf8_all (more_items_text forms.Canonical (item d no_items))) error_bytes ∙ ap (λ (l : List ℕ). codes "error" ++ l) last in
    ap (λ (l : List ℕ). l ++ 46 ∷ 10 ∷ []) (tuple_bytes forms.Canonical (item name (item d no_items)) ∙ ap (λ (l : List ℕ). open_brace ∷ (l ++ close_brace ∷ [])) items)
    ∙ ap (λ (l : List ℕ). codes "{error," ++ l) (append_assoc (text_of d) (close_brace ∷ []) (46 ∷ 10 ∷ []))

-- ---- lists

more_bytes : (ds : List Datum) → encode_utf8_all (more_items_text forms.Canonical (items_of ds)) ≡ behind_commas ds
more_bytes [] = no_more_items forms.Canonical
more_bytes (d ∷ ds) =
    more_items_bytes forms.Canonical d ds ∙ ap (λ (l : List ℕ). comma ∷ (text_of d ++ l)) (more_bytes ds)

list_text : (d : Datum) (ds : List Datum) → text_of (cells (d ∷ ds) nil) ≡ codes "[" ++ (text_of d ++ (behind_commas ds ++ codes "]"))
list_text d ds =
    let text = text_of d in
    let rest = behind_commas ds in
    let items : encode_utf8_all (items_text forms.Canonical (items_of (d ∷ ds))) ≡ text ++ rest =
    items_bytes forms.Canonical d ds ∙ ap (λ l. text ++ l) (more_bytes ds) in
    list_bytes forms.Canonical (d ∷ ds) None (omega arith) tt refl ∙ ap (λ (l : List ℕ). open_bracket ∷ (l ++ close_bracket ∷ [])) items
    ∙ ap (λ (l : List ℕ). open_bracket ∷ l) (append_assoc text rest (close_bracket ∷ []))

-- the parts of a list are appended
pub list_put : (old between more new : List ℕ) (d : Datum) (ds : List Datum) → between ≡ old ++ (codes "[" ++ (text_of d ++ [])) → more ≡ between ++ behind_commas ds → new ≡ more ++ codes "]" → new ≡ old ++ text_of (cells (d ∷ ds) nil)
list_put old between more new d ds first second third =
    let text = text_of d in
    let rest = behind_commas ds in
    third ∙ ap (λ l. l ++ codes "]") (second ∙ ap (λ l. l ++ rest) (first ∙ ap (λ l. old ++ (codes "[" ++ l)) (append-nil text)))
    ∙ append_assoc (old ++ (codes "[" ++ text)) rest (codes "]")
    ∙ append_assoc old (codes "[" ++ text) (rest ++ codes "]")
    ∙ ap (λ l. old ++ l) (append_assoc (codes "[") text (rest ++ codes "]") ∙ sym (list_text d ds))

-- ---- what is appended part by part

pub four : (o a b c d : List ℕ) → (((o ++ a) ++ b) ++ c) ++ d ≡ o ++ (a ++ (b ++ (c ++ d)))
four o a b c d =
    append_assoc ((o ++ a) ++ b) c d ∙ append_assoc (o ++ a) b (c ++ d) ∙ append_assoc o a (b ++ (c ++ d))

five : (o a b c d e : List ℕ) → ((((o ++ a) ++ b) ++ c) ++ d) ++ e ≡ o ++ (a ++ (b ++ (c ++ (d ++ e))))
five o a b c d e = append_assoc (((o ++ a) ++ b) ++ c) d e ∙ four o a b c (d ++ e)

-- five parts appended one after the other
pub put_five : (old a b c d e p q r s new : List ℕ) → p ≡ old ++ a → q ≡ p ++ b → r ≡ q ++ c → s ≡ r ++ d → new ≡ s ++ e → new ≡ old ++ (a ++ (b ++ (c ++ (d ++ e))))
put_five old a b c d e p q r s new first second third fourth fifth =
    fifth ∙ ap (λ l. l ++ e) (fourth ∙ ap (λ l. l ++ d) (third ∙ ap (λ l. l ++ c) (second ∙ ap (λ l. l ++ b) first)))
    ∙ five old a b c d e

pub tuple_text : (d : Datum) (ds : List Datum) → text_of (tuple (items_of (d ∷ ds))) ≡ codes "{" ++ (text_of d ++ (behind_commas ds ++ codes "}"))
tuple_text d ds =
    let text = text_of d in
    let rest = behind_commas ds in
    let items : encode_utf8_all (items_text forms.Canonical (items_of (d ∷ ds))) ≡ text ++ rest =
    items_bytes forms.Canonical d ds ∙ ap (λ l. text ++ l) (more_bytes ds) in
    tuple_bytes forms.Canonical (items_of (d ∷ ds)) ∙ ap (λ (l : List ℕ). open_brace ∷ (l ++ close_brace ∷ [])) items
    ∙ ap (λ (l : List ℕ). open_brace ∷ l) (append_assoc text rest (close_brace ∷ []))

pub piece_line : (ds : List Datum) (n : ℕ) → line (piece_term ds n) ≡ codes "{" ++ (text_of (cells ds nil) ++ (codes "," ++ (text_of (integer (pos n)) ++ codes "}.\n")))
piece_line ds n =
    let list = text_of (cells ds nil) in
    let number = text_of (integer (pos n)) in
    ap (λ (l : List ℕ). l ++ 46 ∷ 10 ∷ []) (tuple_text (cells ds nil) (integer (pos n) ∷ []))
    ∙ ap (λ (l : List ℕ). open_brace ∷ l)
    (append_assoc list ((comma ∷ number ++ []) ++ close_brace ∷ []) (46 ∷ 10 ∷ [])
    ∙ ap (λ (l : List ℕ). list ++ l)
    (ap (λ (l : List ℕ). ((comma ∷ l) ++ close_brace ∷ []) ++ 46 ∷ 10 ∷ []) (append-nil number)
    ∙ ap (λ (l : List ℕ). comma ∷ l) (append_assoc number (close_brace ∷ []) (46 ∷ 10 ∷ []))))

-- a specification's fault and its arguments
pub fault_line : (f : SpecFault) → line (fault_term f) ≡ codes "{error" ++ (behind_commas (arguments (Some (number_of f))) ++ (behind_commas (arguments (clause_of f)) ++ (behind_commas (arguments (variable_of f)) ++ codes "}.\n")))
fault_line f =
    let first = arguments (Some (number_of f)) in
    let clause = arguments (clause_of f) in
    let variable = arguments (variable_of f) in
    let rest = behind_commas (first ++ (clause ++ variable)) in
    let split : rest ≡ behind_commas first ++ (behind_commas clause ++ behind_commas variable) =
    flat_map-append (λ d. comma ∷ text_of d) first (clause ++ variable)
    ∙ ap (λ l. behind_commas first ++ l) (flat_map-append (λ d. comma ∷ text_of d) clause variable) in
    ap (λ (l : List ℕ). l ++ 46 ∷ 10 ∷ []) (tuple_text (atom (codes "error")) (first ++ (clause ++ variable)) ∙ ap (λ l. codes "{" ++ (l ++ (rest ++ codes "}"))) error_bytes)
    ∙ ap (λ l. codes "{error" ++ l)
    (append_assoc rest (codes "}") (46 ∷ 10 ∷ []) ∙ ap (λ l. l ++ codes "}.\n") split
    ∙ append_assoc (behind_commas first) (behind_commas clause ++ behind_commas variable) (codes "}.\n")
    ∙ ap (λ l. behind_commas first ++ l) (append_assoc (behind_commas clause) (behind_commas variable) (codes "}.\n")))
