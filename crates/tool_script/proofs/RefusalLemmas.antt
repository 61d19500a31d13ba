-- The line of the error reply to a text.
use Rattle.std.proofs.Common.{◌≡◌, List, [], ◌∷◌, ◌++◌, Some, ◌∙◌, ap, append_assoc}
use Rattle.std.specs.Prelude.{codes}
use Rattle.std.proofs.lemmas.List.Concat.{flat_map-append}
use Rattle.term_core.specs.Datum.Datum.{atom}
use Rattle.term_text.specs.Character.{comma}
use Rattle.term_text.specs.FaultNumbers.{number_of, place_of}
use Rattle.term_text.specs.declared.fault.TextFault.{TextFault}
use Rattle.std.proofs.Common.{ℕ}
use Rattle.tool_io.specs.Lines.{text_of, line}
use Rattle.tool_script.specs.Replies.{behind_commas}
use Rattle.tool_script.specs.Shell.{refusal}
use Rattle.tool_script.specs.Walks.{arguments}
use Rattle.tool_script.proofs.TextLemmas.{error_bytes, four, tuple_text}

-- the error code of a fault, and its byte offset
pub place_line : (f : TextFault) → line (refusal f) ≡ codes "{error" ++ (behind_commas (arguments (Some (number_of f))) ++ (behind_commas (arguments (place_of f)) ++ codes "}.\n"))
place_line f =
    let first = arguments (Some (number_of f)) in
    let place = arguments (place_of f) in
    let rest = behind_commas (first ++ place) in
    let split : rest ≡ behind_commas first ++ behind_commas place = flat_map-append (λ d. comma ∷ text_of d) first place in
    ap (λ (l : List ℕ). l ++ 46 ∷ 10 ∷ []) (tuple_text (atom (codes "error")) (first ++ place) ∙ ap (λ l. codes "{" ++ (l ++ (rest ++ codes "}"))) error_bytes)
    ∙ ap (λ l. codes "{error" ++ l)
    (append_assoc rest (codes "}") (46 ∷ 10 ∷ []) ∙ ap (λ l. l ++ codes "}.\n") split
    ∙ append_assoc (behind_commas first) (behind_commas place) (codes "}.\n"))

-- four parts appended one after the other
pub put_four : (old a b c d p q r new : List ℕ) → p ≡ old ++ a → q ≡ p ++ b → r ≡ q ++ c → new ≡ r ++ d → new ≡ old ++ (a ++ (b ++ (c ++ d)))
put_four old a b c d p q r new first second third fourth =
    fourth ∙ ap (λ l. l ++ d) (third ∙ ap (λ l. l ++ c) (second ∙ ap (λ l. l ++ b) first)) ∙ four old a b c d
