-- Integers, bare words, and what a term begins with.
use Rattle.std.proofs.Common.{◌≡◌, ℕ, suc, ◌+◌, ◌*◌, ◌≤◌, ◌<◌, ◌⊎◌, inl, inr, Bool, true, false, cond, List, [], ◌∷◌, ◌++◌, length, take, drop, Option, Some, None, Ok, Err, ℤ, refl, sym, ap, ◌∙◌, arith, one-add}
use Rattle.std.specs.Prelude.{IfOk, IfSome, ◌==◌, nat_lt}
use Rattle.std.proofs.lemmas.Bool.{eqb-true, leb-true, ltb-false, le-leb, le-ltb, lt-ltb, cases_Bool}
use Rattle.std.proofs.lemmas.List.{take_at, drop_at}
use Rattle.std.proofs.lemmas.List.Folds.{length-prefix_len}
use Rattle.std.specs.List.{AllByRecursion, prefix_len}
use Rattle.std.specs.Option.{option_map}
use Rattle.std.specs.Char.{is_ascii_digit, is_ascii_lowercase, digit_value}
use Rattle.std.specs.Str.Parse.{digits_value_after}
use Rattle.term_core.specs.declared.TheConstants.{MAX_CHARACTERS}
use Rattle.term_text.specs.Character.{plus, minus, single_quote, double_quote, open_brace, open_bracket, number_sign, less, is_word}
use Rattle.term_text.specs.declared.stop.Cause.TheVariants.{TooLong}
use Rattle.term_text.specs.declared.token.Opening.{Opening}
use Rattle.term_text.specs.declared.token.Opening.TheVariants as opens
use Rattle.term_text.specs.Tokens.{EndsRun, Run, Number, Integer}
use Rattle.term_text.specs.Tokens.Integer.{unsigned, positive, negative}
use Rattle.term_text.specs.TokenReading.{behind, begins, opening, is_sign, number_run, number_at, after_sign, integer_at, word_at, signed, fits}
use Rattle.term_text.proofs.Steps.{if_holds}
use Rattle.term_text.proofs.Tokens.{if_is}

-- ---- runs

pub run_holds : (p : ℕ → Bool) (text : List ℕ) → Run p text (take (prefix_len p text) text) (drop (prefix_len p text) text)
run_holds p [] = record { whole = refl; each = tt; ended = tt }
run_holds p (c ∷ text) = elim (cases_Bool (p c)) [
  | inl e ↦ let r = run_holds p text in rw (e, one-add) (record { whole = ap (λ (t : List ℕ). c ∷ t) r.whole; each = (e, r.each); ended = r.ended })
  | inr e ↦ rw e (record { whole = refl; each = tt; ended = e })
]

pub run_len : (p : ℕ → Bool) (run rest : List ℕ) → AllByRecursion (λ c. p c ≡ true) run → EndsRun p rest → prefix_len p (run ++ rest) ≡ length run
run_len p [] [] all ended = refl
run_len p [] (c ∷ rest) all ended = rw ended refl
run_len p (c ∷ run) rest all ended = rw (all.0, one-add) (ap suc (run_len p run rest all.1 ended))

-- a run has only one end
pub run_again : (p : ℕ → Bool) {text run rest : List ℕ} → Run p text run rest → prefix_len p text ≡ length run
run_again p {text} {run} {rest} r = ap (prefix_len p) r.whole ∙ run_len p run rest r.each r.ended

-- ---- integers

-- the digits at the beginning, and their number as a continuation of n
pub record Digits (n : ℕ) (text : List ℕ) (v : ℕ) (rest : List ℕ) : Type 0 where
  pub digits : List ℕ
  pub run : Run is_ascii_digit text digits rest
  pub value : v ≡ digits_value_after 10 n digits

pub digits_hold : (n : ℕ) (text : List ℕ) → Digits n text (number_run n text).0 (number_run n text).1
digits_hold n [] = record { digits = []; run = record { whole = refl; each = tt; ended = tt }; value = refl }
digits_hold n (c ∷ text) =
    if_is (λ (r : ℕ × List ℕ). Digits n (c ∷ text) r.0 r.1) (is_ascii_digit c) _ _
    (λ e. let d = digits_hold (n * 10 + digit_value c) text in
    record { digits = c ∷ d.digits; run = record { whole = ap (λ (t : List ℕ). c ∷ t) d.run.whole; each = (e, d.run.each); ended = d.run.ended }; value = d.value })
    (λ e. record { digits = []; run = record { whole = refl; each = tt; ended = e }; value = refl })

digits_again_in : (n : ℕ) (digits rest : List ℕ) → AllByRecursion (λ c. is_ascii_digit c ≡ true) digits → EndsRun is_ascii_digit rest → number_run n (digits ++ rest) ≡ (digits_value_after 10 n digits, rest)
digits_again_in n [] [] all ended = refl
digits_again_in n [] (c ∷ rest) all ended = rw ended refl
digits_again_in n (c ∷ digits) rest all ended = rw all.0 (digits_again_in (n * 10 + digit_value c) digits rest all.1 ended)

pub number_again : {text rest : List ℕ} {n : ℕ} → Number text n rest → number_run 0 text ≡ (n, rest)
number_again {text} {rest} {n} h = ap (number_run 0) h.run.whole ∙ digits_again_in 0 h.digits rest h.run.each h.run.ended ∙ ap (λ (v : ℕ). (v, rest)) (sym h.value)

begins_some : (digits rest : List ℕ) → begins is_ascii_digit (digits ++ rest) ≡ true → EndsRun is_ascii_digit rest → 0 < length digits
begins_some [] [] b e = absurd cc
begins_some [] (c ∷ rest) b e = absurd cc
begins_some (c ∷ digits) rest b e = omega arith

pub number_holds : (text : List ℕ) → begins is_ascii_digit text ≡ true → Number text (number_run 0 text).0 (number_run 0 text).1
number_holds text b =
    let d = digits_hold 0 text in
    record { digits = d.digits; some = begins_some d.digits _ (rw d.run.whole at b) d.run.ended; run = d.run; value = d.value }

-- the text of an integer begins here
abbrev pub BeginsInteger : List ℕ → Type 0
BeginsInteger [] = ⊥
BeginsInteger (c ∷ cs) = (is_ascii_digit c ≡ true) ⊎ ((is_sign c ≡ true) × (begins is_ascii_digit cs ≡ true))

signed_holds : (below : Bool) (start text : List ℕ) (P : ℤ → List ℕ → Type 0) → (fits below (number_run 0 text).0 ≡ true → P (signed below (number_run 0 text).0) (number_run 0 text).1) → IfOk (number_at below start text) (λ x. P x.0 x.1)
signed_holds below start text P h = if_holds (λ (x : ℤ × List ℕ). P x.0 x.1) (fits below (number_run 0 text).0) _ _ h (λ _. tt)

pub integer_holds : (text : List ℕ) → BeginsInteger text → IfOk (integer_at text) (λ x. Integer text x.0 x.1)
unfolding integer_at
integer_holds [] h = absurd h
integer_holds (c ∷ cs) h = elim (cases_Bool (c == minus)) [
  | inl m ↦
      let e : c ≡ minus = eqb-true c minus m in
      rw (m, e) (signed_holds true (minus ∷ cs) cs (λ z rest. Integer (minus ∷ cs) z rest) (λ f. negative (number_holds cs (elim h [ inl d ↦ absurd (grind arith) | inr s ↦ s.1 ])) (leb-true _ _ f)))
  | inr n ↦ elim (cases_Bool (c == plus)) [
    | inl m ↦
        let e : c ≡ plus = eqb-true c plus m in
        rw (n, m, e) (signed_holds false (plus ∷ cs) cs (λ z rest. Integer (plus ∷ cs) z rest) (λ f. positive (number_holds cs (elim h [ inl d ↦ absurd (grind arith) | inr s ↦ s.1 ])) (leb-true _ _ f)))
    | inr o ↦
        rw (n, o) (signed_holds false (c ∷ cs) (c ∷ cs) (λ z rest. Integer (c ∷ cs) z rest) (λ f. unsigned (number_holds (c ∷ cs) (elim h [ inl d ↦ d | inr s ↦ absurd (grind arith) ])) (leb-true _ _ f)))
  ]
]

digit_no_sign : (c : ℕ) → is_ascii_digit c ≡ true → (c == minus ≡ false) × (c == plus ≡ false)
digit_no_sign c h = (grind arith, grind arith)

digits_begin : (digits rest : List ℕ) → 0 < length digits → AllByRecursion (λ c. is_ascii_digit c ≡ true) digits → begins is_ascii_digit (digits ++ rest) ≡ true
digits_begin [] rest some all = absurd (omega arith)
digits_begin (c ∷ digits) rest some all = all.0

pub number_begins : {text rest : List ℕ} {n : ℕ} → Number text n rest → begins is_ascii_digit text ≡ true
number_begins {text} {rest} h = rw h.run.whole (digits_begin h.digits rest h.some h.run.each)

pub unsigned_sign : (text : List ℕ) → begins is_ascii_digit text ≡ true → after_sign text ≡ (false, text)
unsigned_sign [] b = absurd cc
unsigned_sign (c ∷ cs) b = let d = digit_no_sign c b in rw (d.0, d.1) refl

pub integer_again : {text rest : List ℕ} {z : ℤ} → Integer text z rest → integer_at text ≡ Ok (z, rest)
unfolding integer_at
integer_again (unsigned {text} {rest} {n} h l) = rw (unsigned_sign text (number_begins h), number_again h, le-leb _ _ l) refl
integer_again (positive h l) = rw (number_again h, le-leb _ _ l) refl
integer_again (negative h l) = rw (number_again h, le-leb _ _ l) refl

-- ---- bare words

pub word_holds : (text : List ℕ) → IfOk (word_at text) (λ x. Run is_word text x.0 x.1 × (length x.0 ≤ MAX_CHARACTERS))
unfolding word_at
word_holds text = if_holds (λ (x : List ℕ × List ℕ). Run is_word text x.0 x.1 × (length x.0 ≤ MAX_CHARACTERS)) (nat_lt MAX_CHARACTERS (prefix_len is_word text)) _ _ (λ _. tt)
    (λ f. (run_holds is_word text, let le = ltb-false _ _ f in let len = length-prefix_len is_word text in omega arith))

pub word_again : {text cs rest : List ℕ} → Run is_word text cs rest → length cs ≤ MAX_CHARACTERS → word_at text ≡ Ok (cs, rest)
unfolding word_at
word_again {text} {cs} {rest} r h =
    let len : prefix_len is_word text ≡ length cs = run_again is_word r in
    rw (len, le-ltb MAX_CHARACTERS (length cs) h, r.whole, take_at cs rest (length cs) refl, drop_at cs rest (length cs) refl) refl

-- the word so far, and the rest of its text
pub record WordSoFar (text cs rest : List ℕ) : Type 0 where
  pub whole : text ≡ cs ++ rest
  pub each : AllByRecursion (λ c. is_word c ≡ true) cs
  pub few : length cs ≤ MAX_CHARACTERS

pub each_more : (cs : List ℕ) (c : ℕ) → AllByRecursion (λ c. is_word c ≡ true) cs → is_word c ≡ true → AllByRecursion (λ c. is_word c ≡ true) (cs ++ c ∷ [])
each_more [] c all here = (here, tt)
each_more (d ∷ cs) c all here = (all.0, each_more cs c all.1 here)

pub word_ends : (text cs rest : List ℕ) → WordSoFar text cs rest → EndsRun is_word rest → word_at text ≡ Ok (cs, rest)
word_ends text cs rest w ended = word_again (record { whole = w.whole; each = w.each; ended = ended }) w.few

pub word_stops : (text cs rest : List ℕ) (c : ℕ) (behind : List ℕ) → WordSoFar text cs rest → rest ≡ c ∷ behind → is_word c ≡ false → word_at text ≡ Ok (cs, rest)
word_stops text cs rest c behind w e other = word_ends text cs rest w (rw e other)

passed : (cs : List ℕ) (c : ℕ) (rest : List ℕ) → AllByRecursion (λ c. is_word c ≡ true) cs → is_word c ≡ true → length cs < prefix_len is_word (cs ++ c ∷ rest)
passed [] c rest all here = rw here (omega arith)
passed (d ∷ cs) c rest all here = let more = passed cs c rest all.1 here in rw all.0 (omega arith)

pub word_too_long : (text cs rest : List ℕ) (c : ℕ) (behind : List ℕ) → WordSoFar text cs rest → rest ≡ c ∷ behind → is_word c ≡ true → length cs ≡ MAX_CHARACTERS → word_at text ≡ Err (TooLong, length rest)
unfolding word_at
word_too_long text cs rest c behind w e here full =
    let whole : text ≡ cs ++ c ∷ behind = w.whole ∙ ap (λ (r : List ℕ). cs ++ r) e in
    let more : length cs < prefix_len is_word (cs ++ c ∷ behind) = passed cs c behind w.each here in
    rw (whole, lt-ltb MAX_CHARACTERS (prefix_len is_word (cs ++ c ∷ behind)) (omega arith), drop_at cs (c ∷ behind) MAX_CHARACTERS full, e) refl

-- ---- what a term begins with

abbrev pub BeginsWord : List ℕ → Type 0
BeginsWord [] = ⊥
BeginsWord (c ∷ cs) = is_ascii_lowercase c ≡ true

-- what a text begins with, given its first token, and what follows
abbrev pub Opens : Opening → List ℕ → List ℕ → Type 0
Opens opens.Integer text rest = (text ≡ rest) × BeginsInteger text
Opens opens.Word text rest = (text ≡ rest) × BeginsWord text
Opens opens.QuotedAtom text rest = text ≡ single_quote ∷ rest
Opens opens.String text rest = text ≡ double_quote ∷ rest
Opens opens.Tuple text rest = text ≡ open_brace ∷ rest
Opens opens.List text rest = text ≡ open_bracket ∷ rest
Opens opens.Map text rest = text ≡ number_sign ∷ open_brace ∷ rest
Opens opens.Binary text rest = text ≡ less ∷ less ∷ rest

if_some : {X : Type 0} (P : X → Type 0) (b : Bool) (r t : Option X) → (b ≡ true → IfSome r P) → (b ≡ false → IfSome t P) → IfSome (cond b r t) P
if_some P true r t h k = h refl
if_some P false r t h k = k refl

pub behind_holds : (a : ℕ) (text : List ℕ) → IfSome (behind a text) (λ rest. text ≡ a ∷ rest)
behind_holds a [] = tt
behind_holds a (c ∷ cs) = if_some (λ rest. c ∷ cs ≡ a ∷ rest) (c == a) _ _ (λ e. ap (λ (x : ℕ). x ∷ cs) (eqb-true c a e)) (λ _. tt)

mapped : {X Y : Type 0} (f : X → Y) (P : X → Type 0) (Q : Y → Type 0) (o : Option X) → IfSome o P → ((x : X) → P x → Q (f x)) → IfSome (option_map f o) Q
mapped f P Q None h k = tt
mapped f P Q (Some x) h k = k x h

pub opening_holds : (text : List ℕ) → IfSome (opening text) (λ o. Opens o.0 text o.1)
opening_holds [] = tt
opening_holds (c ∷ cs) =
    let P : Opening × List ℕ → Type 0 = λ o. Opens o.0 (c ∷ cs) o.1 in
    let here : (a : ℕ) → (c == a) ≡ true → c ∷ cs ≡ a ∷ cs = λ a e. ap (λ (x : ℕ). x ∷ cs) (eqb-true c a e) in
    if_some P (is_ascii_digit c) _ _ (λ d. (refl, inl d))
    (λ _. if_some P (is_sign c) _ _ (λ s. if_some P (begins is_ascii_digit cs) _ _ (λ b. (refl, inr (s, b))) (λ _. tt))
    (λ _. if_some P (is_ascii_lowercase c) _ _ (λ l. (refl, l))
    (λ _. if_some P (c == single_quote) _ _ (here single_quote)
    (λ _. if_some P (c == double_quote) _ _ (here double_quote)
    (λ _. if_some P (c == open_brace) _ _ (here open_brace)
    (λ _. if_some P (c == open_bracket) _ _ (here open_bracket)
    (λ _. if_some P (c == number_sign) _ _ (λ e. mapped _ (λ rest. cs ≡ open_brace ∷ rest) P (behind open_brace cs) (behind_holds open_brace cs) (λ rest h. here number_sign e ∙ ap (λ (t : List ℕ). number_sign ∷ t) h))
    (λ _. if_some P (c == less) _ _ (λ e. mapped _ (λ rest. cs ≡ less ∷ rest) P (behind less cs) (behind_holds less cs) (λ rest h. here less e ∙ ap (λ (t : List ℕ). less ∷ t) h))
    (λ _. tt)))))))))

pub opening_integer : (text : List ℕ) → BeginsInteger text → opening text ≡ Some (opens.Integer, text)
opening_integer [] h = absurd h
opening_integer (c ∷ cs) (inl d) = rw d refl
opening_integer (c ∷ cs) (inr s) = elim (cases_Bool (is_ascii_digit c)) [
  | inl d ↦ rw d refl
  | inr d ↦ rw (d, s.0, s.1) refl
]

begins_integer : (text : List ℕ) → begins is_ascii_digit text ≡ true → BeginsInteger text
begins_integer [] h = absurd cc
begins_integer (c ∷ cs) h = inl h

pub integer_begins : {text rest : List ℕ} {z : ℤ} → Integer text z rest → BeginsInteger text
integer_begins (unsigned {text} h l) = begins_integer text (number_begins h)
integer_begins (positive h l) = inr (refl, number_begins h)
integer_begins (negative h l) = inr (refl, number_begins h)

lowercase_alone : (c : ℕ) → is_ascii_lowercase c ≡ true → (is_ascii_digit c ≡ false) × (is_sign c ≡ false)
lowercase_alone c h = (grind arith, grind arith)

pub opening_word : (c : ℕ) (cs : List ℕ) → is_ascii_lowercase c ≡ true → opening (c ∷ cs) ≡ Some (opens.Word, c ∷ cs)
opening_word c cs h = let a = lowercase_alone c h in rw (a.0, a.1, h) refl
