use Rattle.std.proofs.Common.{◌≡◌, [], ◌∷◌, ◌++◌, List, ℕ, sym, ap, ◌∙◌, arith, rules}
use Rattle.std.proofs.lemmas.List.{append-nil}
use Rattle.std.specs.Option.{option_copied}
use Rattle.std.proofs.lemmas.Bool.{and_parts}
use Rattle.term_core.specs.Term.{tail_of}
use Rattle.term_core.specs.Datum.{Datum, entries_of}
use Rattle.term_core.specs.Limits.{entries_depth}
use Rattle.term_text.specs.Character.{comma, equals, greater, number_sign, open_brace, close_brace, open_bracket, close_bracket, bar}
use Rattle.term_text.proofs.Bytes.{tuple_bytes, map_bytes, list_bytes, pair_bytes, three, four, tail_bytes, onto, two_onto, no_elements, no_pairs, one_element, one_pair, next_element, next_pair, past_elements, past_pairs, entry_depth, IsPlain, string_bytes, string_ends}
use Rattle.term_text.proofs.write.+put.Goals as goal
use Rattle.term_text.proofs.write.+put.Goals.{put_list-in-Some+in_ok-push-2+in_ok-put, put_list-in_default}

pub put_elements-returns-in_default-clause-items : goal.put_elements-returns-in_default-clause-items
put_elements-returns-in_default-clause-items g t c = rw (no_elements _ _ c.in_default.ensures.cases) (sym (append-nil _))

pub put_elements-loop-element-init : goal.put_elements-loop-element-init
put_elements-loop-element-init g t c = (search rules, rw (one_element _ _ _ _ c.in-Some.ensures.cases.0) (onto _ _ _ _ c.in_ok-put.ensures.items))

pub put_elements-loop-element-preserved : goal.put_elements-loop-element-preserved
put_elements-loop-element-preserved g t c =
    (search rules, two_onto _ (comma ∷ []) _ _ _ _ c.in_ok-push.ensures.items c.in_ok-put-2.ensures.items ∙ ap (λ (x : List ℕ). c.loop-element.out.items ++ x) (sym (next_element _ _ c.loop-element.element-index c.element-item.result c.loop-element-test.true c.element-item.is)) ∙ c.loop-element.invariant.1)

pub put_elements-returns-clause-items : goal.put_elements-returns-clause-items
put_elements-returns-clause-items g t c = sym (ap (λ (x : List ℕ). c.loop-element.out.items ++ x) (past_elements _ _ c.loop-element.element-index c.loop-element-test.false) ∙ append-nil c.loop-element.out.items) ∙ c.loop-element.invariant.1

pub put_map-returns-clause-items : goal.put_map-returns-clause-items
put_map-returns-clause-items g t c = rw (map_bytes _ _) (three _ (number_sign ∷ open_brace ∷ []) _ (close_brace ∷ []) _ _ _ c.in_ok-extend_from_slice.ensures.items c.in_ok-put_pairs.ensures.items c.in_ok-push.ensures.items)

pub put_pair-returns-clause-items : goal.put_pair-returns-clause-items
put_pair-returns-clause-items g t c = rw (pair_bytes _ _ _) (three _ _ (equals ∷ greater ∷ []) _ _ _ _ c.in_ok-put.ensures.items c.in_ok-extend_from_slice.ensures.items c.in_ok-put-2.ensures.items)

pub put_pairs-returns-in_default-clause-items : goal.put_pairs-returns-in_default-clause-items
put_pairs-returns-in_default-clause-items g t c = rw (no_pairs _ _ c.in_default.ensures.cases) (sym (append-nil _))

pub put_pairs-loop-key-init : goal.put_pairs-loop-key-init
put_pairs-loop-key-init g t c = (search rules, rw (one_pair _ _ _ _ c.in-Some.ensures.cases.0) (onto _ _ _ _ c.in_ok-put_pair.ensures.items))

pub put_pairs-loop-key-preserved : goal.put_pairs-loop-key-preserved
put_pairs-loop-key-preserved g t c =
    (search rules, two_onto _ (comma ∷ []) _ _ _ _ c.in_ok-push.ensures.items c.in_ok-put_pair-2.ensures.items ∙ ap (λ (x : List ℕ). c.loop-key.out.items ++ x) (sym (next_pair _ _ c.loop-key.key-index c.loop-key-item.result c.loop-key-test.true c.loop-key-item.is)) ∙ c.loop-key.invariant.1)

pub put_pairs-returns-clause-items : goal.put_pairs-returns-clause-items
put_pairs-returns-clause-items g t c = sym (ap (λ (x : List ℕ). c.loop-key.out.items ++ x) (past_pairs _ _ c.loop-key.key-index c.loop-key-test.false) ∙ append-nil c.loop-key.out.items) ∙ c.loop-key.invariant.1

pub put_tuple-returns-clause-items : goal.put_tuple-returns-clause-items
put_tuple-returns-clause-items g t c = rw (tuple_bytes _ _) (three _ (open_brace ∷ []) _ (close_brace ∷ []) _ _ _ c.in_ok-push.ensures.items c.in_ok-put_elements.ensures.items c.in_ok-push-2.ensures.items)

pub put_list-returns-clause-items : goal.put_list-returns-clause-items
put_list-returns-clause-items g t c =
    let plain : IsPlain c.args.form c.args.elements.now (tail_of (option_copied c.args.tail)) = sym c.is_string.ensures ∙ c.if-is_string.false in
    let tail : c.match-tail.out.items ≡ c.put_elements.new.out.items ++ tail_bytes c.args.form (option_copied c.args.tail) =
    elim c.match-tail.branch [
      | put_list-in-Some+in_ok-push-2+in_ok-put w ↦ rw (w.out-is, w.in-Some.is) (w.in_ok-put.ensures.items ∙ onto _ (bar ∷ []) _ _ w.in_ok-push-2.ensures.items)
      | put_list-in_default w ↦ rw (w.out-is, w.in_default.is) (sym (append-nil _))
    ]
    in
    rw (list_bytes c.args.form _ _ c.requires.0 c.requires.1 plain) (four _ (open_bracket ∷ []) _ _ (close_bracket ∷ []) _ _ _ _ c.in_ok-push.ensures.items c.in_ok-put_elements.ensures.items tail c.in_ok-push-3.ensures.items)

pub put_list-returns-then-is_string-clause-items : goal.put_list-returns-then-is_string-clause-items
put_list-returns-then-is_string-clause-items g t c =
    let shown = sym c.is_string.ensures ∙ c.if-is_string.true in
    rw (string_bytes c.args.form c.args.elements.now (option_copied c.args.tail) c.requires.0 c.requires.1 shown) c.put_string.ensures.items

pub put_list-put_string-requires : goal.put_list-put_string-requires
put_list-put_string-requires g t c =
    let shown = sym c.is_string.ensures ∙ c.if-is_string.true in
    string_ends c.args.elements.now (option_copied c.args.tail) c.requires.1 (and_parts _ _ shown).1

pub put_pairs-put_pair-requires-in-loop-key : goal.put_pairs-put_pair-requires-in-loop-key
put_pairs-put_pair-requires-in-loop-key g t c =
    let below = entry_depth _ c.loop-key.key-index c.loop-key-item.result c.loop-key-test.true c.loop-key-item.is in
    let all = ap (λ (es : List (Datum × Datum)). entries_depth (entries_of es)) c.in-Some.ensures.cases.0 in
    λ κs within. (omega arith, within)
