-- Lines that were read.
use Rattle.std.proofs.Common.{◌≡◌, ◌≢◌, ℕ, ◌+◌, ◌-◌, Bool, true, false, eqb, cond, List, [], ◌∷◌, ◌++◌, All, length, take, drop, get_or, refl, sym, ap, subst, ◌∙◌, arith, rules, Option, Some, None, IfSome, take_all, take-append-drop}
use Rattle.std.proofs.lemmas.List.{append-nil, take_more, length-drop}
use Rattle.std.proofs.lemmas.List.Elements.{All-append, All-head, All-tail}
use Rattle.std.proofs.lemmas.Bool.{eqb-true}
use Rattle.std.proofs.Math.Seq.{drop-append_seam}
use Rattle.std.specs.Io.{StartsWith, StopsAt, appended_bytes}
use Rattle.std.specs.Io.KnownBytes.{Consumes}
use Rattle.std.specs.Io.BufRead.{take_through}
use Rattle.std.proofs.BufReadLemmas.{through_part, take_through-append, drop_through-append}
use Rattle.tool_script.specs.declared.line.Progress.{Progress}
use Rattle.tool_script.specs.declared.line.Progress.TheVariants as progress
use Rattle.tool_script.specs.declared.line.Within.{Within}
use Rattle.tool_script.specs.declared.line.Within.TheVariants as within
use Rattle.tool_script.specs.Line.{IsLineBefore, IsLine, EndsLine, TakesLine, within_after, within_end}

-- bytes that end with their only line feed are a line, whatever follows
line_before : (line rest : List ℕ) → StopsAt line 10 → EndsLine line progress.More → IsLineBefore line rest
line_before line rest stops ends =
    through_part 10 line rest stops (λ some. ends.1) (λ none. absurd (omega (arith, none, ends.0)))

-- bytes without a line feed are the last line
last_line : (line : List ℕ) → All (λ x. x ≢ 10) line → IsLineBefore line []
last_line line free =
    (take_through-append 10 line [] free ∙ append-nil line, drop_through-append 10 line [] free)

-- a line that does not end with a line feed has none
free_of : (line : List ℕ) → StopsAt line 10 → EndsLine line progress.End → All (λ x. x ≢ 10) line
free_of [] stops ends = stops
free_of (x ∷ xs) stops ends =
    let line = x ∷ xs in
    let front = take (length line - 1) line in
    let split : line ≡ front ++ get_or line (length line - 1) 0 ∷ [] =
    sym (take_all (length line - 1 + 1) line (omega arith)) ∙ take_more line (length line - 1) 0 (omega arith) in
    subst (All (λ y. y ≢ 10)) (sym split) (All-append (λ y. y ≢ 10) front (get_or line (length line - 1) 0 ∷ []) stops (alone (get_or line (length line - 1) 0) (ends (omega arith))))
  where
    alone : (y : ℕ) → y ≢ 10 → All (λ z. z ≢ 10) (y ∷ [])
    alone y other = search rules

-- if the first line has no line feed, it was all that was left
all_taken : (xs : List ℕ) → All (λ x. x ≢ 10) (take_through 10 xs) → take_through 10 xs ≡ xs
all_taken [] free = refl
all_taken (x ∷ xs) free = by_test (eqb x 10) refl free (all_taken xs)
  where
    by_test : (b : Bool) → eqb x 10 ≡ b → All (λ y. y ≢ 10) (cond b (x ∷ []) (x ∷ take_through 10 xs)) → (All (λ y. y ≢ 10) (take_through 10 xs) → take_through 10 xs ≡ xs)
        → cond b (x ∷ []) (x ∷ take_through 10 xs) ≡ x ∷ xs
    by_test true is free rest = absurd (All-head (λ y. y ≢ 10) x [] free (eqb-true x 10 is))
    by_test false is free rest = ap (λ l. x ∷ l) (rest (All-tail (λ y. y ≢ 10) x (take_through 10 xs) free))

all_left : (before : Option (List ℕ)) (old new : List ℕ) → IfSome before (λ xs. new ≡ old ++ take_through 10 xs) → All (λ x. x ≢ 10) (appended_bytes old new) → IfSome before (λ bytes. bytes ≡ appended_bytes old new)
all_left None old new is free = tt
all_left (Some xs) old new is free =
    let line : appended_bytes old new ≡ take_through 10 xs = ap (drop (length old)) is ∙ drop-append_seam old (take_through 10 xs) in
    sym (line ∙ all_taken xs (subst (All (λ x. x ≢ 10)) line free))

pub taken : (before after : Option (List ℕ)) (old new : List ℕ) (p : Progress) → StartsWith new old → StopsAt (appended_bytes old new) 10 → Consumes before after (appended_bytes old new)
    → IfSome before (λ xs. new ≡ old ++ take_through 10 xs) → EndsLine (appended_bytes old new) p → TakesLine before after old new p
taken before after old new p front stops lost is ends =
    record {
      line = appended_bytes old new;
      gained = sym (take-append-drop (length old) new) ∙ ap (λ l. l ++ appended_bytes old new) front;
      lost = lost;
      whole = whole_by p ends;
    }
  where
    whole_by : (q : Progress) → EndsLine (appended_bytes old new) q → IsLine (appended_bytes old new) q before
    whole_by progress.More ends = λ rest. line_before (appended_bytes old new) rest stops ends
    whole_by progress.End ends =
        let free = free_of (appended_bytes old new) stops ends in
        (last_line (appended_bytes old new) free, all_left before old new is free)

-- dropping bytes, then taking as many as are left, takes all of them
pub slice_end : (xs : List ℕ) (n : ℕ) → take (length xs - n) (drop n xs) ≡ drop n xs
slice_end xs n = take_all (length xs - n) (drop n xs) (omega (arith, length-drop n xs))

-- the bytes before a line that was appended
pub begun_front : (begun line text : List ℕ) (n : ℕ) → n ≡ length begun → text ≡ begun ++ line → begun ≡ take n text
begun_front begun line text n size is =
    sym (take_front begun line) ∙ ap (λ k. take k (begun ++ line)) (sym size) ∙ ap (take n) (sym is)
  where
    take_front : (xs ys : List ℕ) → take (length xs) (xs ++ ys) ≡ xs
    take_front [] ys = refl
    take_front (x ∷ xs) ys = ap (λ l. x ∷ l) (take_front xs ys)

within_append : (w : Within) (xs ys : List ℕ) → within_end w (xs ++ ys) ≡ within_end (within_end w xs) ys
within_append w [] ys = refl
within_append w (x ∷ xs) ys = within_append (within_after w x) xs ys

-- what the end of a text is within, by its front and the line after it
pub end_kept : (text : List ℕ) (n : ℕ) (w r : Within) → w ≡ within_end within.Nothing (take n text) → r ≡ within_end w (take (length text - n) (drop n text)) → r ≡ within_end within.Nothing text
end_kept text n w r before is =
    is ∙ ap (λ v. within_end v (take (length text - n) (drop n text))) before ∙ ap (within_end (within_end within.Nothing (take n text))) (slice_end text n)
    ∙ sym (within_append within.Nothing (take n text) (drop n text)) ∙ ap (within_end within.Nothing) (take-append-drop n text)
