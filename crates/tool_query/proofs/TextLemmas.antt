-- The texts of what `test` and `verify` write.
use Rattle.std.proofs.Common.{◌≡◌, ℕ, pos, List, [], ◌∷◌, ◌++◌, Some, None, refl, sym, ◌∙◌, ap, append_assoc}
use Rattle.std.specs.Prelude.{codes}
use Rattle.std.proofs.Math.Utf8.{encode}
use Rattle.std.proofs.lemmas.List.{append-nil}
use Rattle.term_core.specs.Datum.{Datum}
use Rattle.term_core.specs.Datum.Datum.{integer}
use Rattle.term_core.specs.Datum.Items.{no_items, item}
use Rattle.std.specs.Str.{encode_utf8_all}
use Rattle.term_text.specs.Character.{open_brace, close_brace, comma}
use Rattle.term_text.specs.declared.write.Form.{Form}
use Rattle.term_text.specs.declared.write.Form.TheVariants as forms
use Rattle.term_text.specs.Canonical.{text_as, items_text, more_items_text, is_reserved}
use Rattle.term_text.proofs.Bytes.{tuple_bytes, items_bytes, more_items_bytes, no_more_items}
use Rattle.tool_io.specs.Lines.{text_in, text_of, line_in, line}
use Rattle.tool_query.specs.Answers.{outcome_of, ok_term}
use Rattle.tool_query.specs.Code.{verdict}

ok_bytes : (f : Form) → text_in f ok_term ≡ codes "ok"
unfolding text_as is_reserved encode
ok_bytes f = refl

-- the text of the last element of a tuple
last_item : (f : Form) (d : Datum) → encode_utf8_all (more_items_text f (item d no_items)) ≡ comma ∷ text_in f d
last_item f d =
    more_items_bytes f d [] ∙ ap (λ (l : List ℕ). comma ∷ (text_in f d ++ l)) (no_more_items f) ∙ ap (λ (l : List ℕ). comma ∷ l) (append-nil (text_in f d))

-- the line of an answer, between its braces
pub outcome_line : (f : Form) (d : Datum) → line_in f (outcome_of (Some d)) ≡ codes "{ok," ++ (text_in f d ++ codes "}.\n")
outcome_line f d =
    let text = text_in f d in
    let items : encode_utf8_all (items_text f (item ok_term (item d no_items))) ≡ codes "ok" ++ (comma ∷ text) =
    items_bytes f ok_term (d ∷ []) ∙ ap (λ (l : List ℕ). l ++ encode_utf8_all (more_items_text f (item d no_items))) (ok_bytes f) ∙ ap (λ (l : List ℕ). codes "ok" ++ l) (last_item f d) in
    ap (λ (l : List ℕ). l ++ 46 ∷ 10 ∷ []) (tuple_bytes f (item ok_term (item d no_items)) ∙ ap (λ (l : List ℕ). open_brace ∷ (l ++ close_brace ∷ [])) items)
    ∙ ap (λ (l : List ℕ). codes "{ok," ++ l) (append_assoc text (close_brace ∷ []) (46 ∷ 10 ∷ []))

-- the line if there is no answer
pub false_line : (f : Form) → line_in f (outcome_of None) ≡ codes "false.\n"
unfolding text_as is_reserved encode
false_line f = refl

-- the line of a verdict, by its two numbers
pub verdict_line : (budget depth : ℕ)
    → line (verdict budget depth) ≡ codes "{ok," ++ (text_of (integer (pos budget)) ++ (codes "," ++ (text_of (integer (pos depth)) ++ codes "}.\n")))
verdict_line budget depth =
    let first = text_of (integer (pos budget)) in
    let second = text_of (integer (pos depth)) in
    let more : encode_utf8_all (more_items_text forms.Canonical (item (integer (pos budget)) (item (integer (pos depth)) no_items))) ≡ comma ∷ (first ++ (comma ∷ second)) =
    more_items_bytes forms.Canonical (integer (pos budget)) (integer (pos depth) ∷ []) ∙ ap (λ (l : List ℕ). comma ∷ (first ++ l)) (last_item forms.Canonical (integer (pos depth))) in
    let all = item ok_term (item (integer (pos budget)) (item (integer (pos depth)) no_items)) in
    let items : encode_utf8_all (items_text forms.Canonical all) ≡ codes "ok" ++ (comma ∷ (first ++ (comma ∷ second))) =
    items_bytes forms.Canonical ok_term (integer (pos budget) ∷ integer (pos depth) ∷ []) ∙ ap (λ (l : List ℕ). l ++ encode_utf8_all (more_items_text forms.Canonical (item (integer (pos budget)) (item (integer (pos depth)) no_items)))) (ok_bytes forms.Canonical)
    ∙ ap (λ (l : List ℕ). codes "ok" ++ l) more in
    ap (λ (l : List ℕ). l ++ 46 ∷ 10 ∷ []) (tuple_bytes forms.Canonical all ∙ ap (λ (l : List ℕ). open_brace ∷ (l ++ close_brace ∷ [])) items)
    ∙ ap (λ (l : List ℕ). codes "{ok," ++ l)
    (append_assoc (first ++ (comma ∷ second)) (close_brace ∷ []) (46 ∷ 10 ∷ []) ∙ append_assoc first (comma ∷ second) (close_brace ∷ 46 ∷ 10 ∷ []))

-- the two parts of a verdict's line are appended
pub verdict_put : (old between new : List ℕ) (x y : Datum) (budget depth : ℕ) → x ≡ integer (pos budget) → y ≡ integer (pos depth)
    → between ≡ old ++ (codes "{ok," ++ (text_of x ++ codes ",")) → new ≡ between ++ (text_of y ++ codes "}.\n") → new ≡ old ++ line (verdict budget depth)
verdict_put old between new x y budget depth x_is y_is first second =
    let rest = text_of y ++ codes "}.\n" in
    let joined : new ≡ old ++ (codes "{ok," ++ (text_of x ++ (codes "," ++ rest))) =
    second ∙ ap (λ l. l ++ rest) first ∙ append_assoc old (codes "{ok," ++ (text_of x ++ codes ",")) rest
    ∙ ap (λ l. old ++ (codes "{ok," ++ l)) (append_assoc (text_of x) (codes ",") rest) in
    joined ∙ ap (λ d. old ++ (codes "{ok," ++ (text_of d ++ (codes "," ++ rest)))) x_is
    ∙ ap (λ d. old ++ (codes "{ok," ++ (text_of (integer (pos budget)) ++ (codes "," ++ (text_of d ++ codes "}.\n"))))) y_is
    ∙ ap (λ l. old ++ l) (sym (verdict_line budget depth))
