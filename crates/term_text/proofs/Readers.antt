-- Steps of the functions that read terms.
use Rattle.std.proofs.Common.{◌≡◌, ℕ, zero, suc, ◌-◌, ◌<◌, inl, inr, Bool, true, false, List, [], ◌∷◌, ◌++◌, length, Option, Some, None, Result, Ok, Err, refl, sym, arith}
use Rattle.std.proofs.lemmas.Bool.{cases_Bool, eqb-true}
use Rattle.std.specs.Prelude.{◌==◌}
use Rattle.std.specs.Ordering.{is_eq}
use Rattle.std.specs.Option.{is_some}
use Rattle.std.specs.BTreeMap.{is_at, insert_entry}
use Rattle.term_core.specs.declared.TheConstants.{MAX_MAP}
use Rattle.term_text.specs.Character.{equals, greater}
use Rattle.term_text.specs.declared.stop.Cause.TheVariants.{DuplicateKey}
use Rattle.std.specs.Map.{lookup}
use Rattle.term_core.specs.Datum.{Datum, cells}
use Rattle.term_core.specs.Order.{datum_cmp}
use Rattle.term_text.specs.declared.stop.Stop.{Stop}
use Rattle.term_text.specs.declared.stop.Stop.TheVariants as stops
use Rattle.term_text.specs.declared.token.Opening.{Opening}
use Rattle.term_text.specs.declared.token.Opening.TheVariants as opens
use Rattle.term_text.specs.TokenReading.{Fault, Read, ◌>>=◌, Fails, all_steps, after_gap, expect_both}
use Rattle.term_text.specs.Reading.{TermReader, enter, term_at, tail_at, form_at, tail_form, after_comma, separated, element_at, pair_at, sentence_at, sentence_step, next_from, next_at, text_at, has_key}
use Rattle.term_text.proofs.Steps.{holds_at}
use Rattle.term_text.proofs.Words.{Opens}
use Rattle.term_text.proofs.Sound.{enter_holds}

pub bind_fails : {A B : Type 0} (e : Stop) (r : Result A Fault) (f : A → Result B Fault) → Fails e r → Fails e (r >>= f)
bind_fails stops.Memory r f h = tt
bind_fails (stops.At cause left) r f h = rw h refl

pub term_fails : (e : Stop) (levels room : ℕ) (text : List ℕ) → Fails e (enter levels room text) → Fails e (term_at levels room text)
unfolding term_at
term_fails e zero room text h = bind_fails e (enter zero room text) _ h
term_fails e (suc n) room text h = bind_fails e (enter (suc n) room text) _ h

pub tail_fails : (e : Stop) (levels : ℕ) (front : List Datum) (text : List ℕ) → Fails e (enter levels 1 text) → Fails e (tail_at levels front text)
unfolding tail_at
tail_fails e zero front text h = bind_fails e (enter zero 1 text) _ h
tail_fails e (suc n) front text h = bind_fails e (enter (suc n) 1 text) _ h

entered : (levels room : ℕ) (text rest : List ℕ) (o : Opening) → enter levels room text ≡ Ok (o, rest) → 0 < levels
entered levels room text rest o e = (holds_at (λ (o : Opening × List ℕ). Opens o.0 text o.1 × (0 < levels) × (0 < room)) (enter levels room text) (o, rest) (enter_holds levels room text) e).1

pub term_is : (levels room : ℕ) (text rest : List ℕ) (o : Opening) → enter levels room text ≡ Ok (o, rest) → term_at levels room text ≡ form_at (term_at (levels - 1)) (tail_at (levels - 1)) (levels - 1) o rest
unfolding term_at
term_is zero room text rest o e = absurd (let l = entered zero room text rest o e in omega arith)
term_is (suc n) room text rest o e = let less : suc n - 1 ≡ n = omega arith in rw (e, less) refl

pub tail_is : (levels : ℕ) (front : List Datum) (text rest : List ℕ) (o : Opening) → enter levels 1 text ≡ Ok (o, rest) → tail_at levels front text ≡ tail_form (term_at (levels - 1)) (tail_at (levels - 1)) (levels - 1) front o rest
unfolding tail_at
tail_is zero front text rest o e = absurd (let l = entered zero 1 text rest o e in omega arith)
tail_is (suc n) front text rest o e = let less : suc n - 1 ≡ n = omega arith in rw (e, less) refl

-- a list whose tail is no list
abbrev ended : List Datum → Read Datum → Read Datum
ended front r = r >>= λ x. Ok (cells front x.0, x.1)

pub tail_form_is : (read : TermReader) (read_tail : List Datum → List ℕ → Read Datum) (levels : ℕ) (front : List Datum) (o : Opening) (text : List ℕ) → (o ≡ opens.String → ⊥) → (o ≡ opens.List → ⊥) → tail_form read read_tail levels front o text ≡ ended front (form_at read read_tail levels o text)
tail_form_is read read_tail levels front opens.Integer text h k = refl
tail_form_is read read_tail levels front opens.Word text h k = refl
tail_form_is read read_tail levels front opens.QuotedAtom text h k = refl
tail_form_is read read_tail levels front opens.String text h k = absurd (h refl)
tail_form_is read read_tail levels front opens.Tuple text h k = refl
tail_form_is read read_tail levels front opens.List text h k = absurd (k refl)
tail_form_is read read_tail levels front opens.Map text h k = refl
tail_form_is read read_tail levels front opens.Binary text h k = refl

-- ---- one more element

pub element_fails : (e : Stop) (read : TermReader) (limit room : ℕ) (ds : List Datum) (text : List ℕ) → room ≡ limit - length ds → Fails e (read room text) → Fails e (separated (element_at read limit) ds text)
unfolding element_at
element_fails e read limit room ds text h f = bind_fails e (element_at read limit ds text) _ (bind_fails e (read (limit - length ds) text) _ (rw h at f))

pub element_is : (read : TermReader) (limit room : ℕ) (ds : List Datum) (text : List ℕ) (d : Datum) (rest : List ℕ) (goes : Bool) (t : List ℕ) → room ≡ limit - length ds → read room text ≡ Ok (d, rest) → (goes, t) ≡ after_comma rest → separated (element_at read limit) ds text ≡ Ok (goes, ds ++ d ∷ [], t)
unfolding element_at
element_is read limit room ds text d rest goes t h e b = rw (← h, e, ← b) refl

-- ---- one more segment or pair

pub item_fails : {S : Type 0} (e : Stop) (item : S → List ℕ → Read S) (s : S) (text : List ℕ) → Fails e (item s text) → Fails e (separated item s text)
item_fails e item s text f = bind_fails e (item s text) _ f

pub item_is : {S : Type 0} (item : S → List ℕ → Read S) (s u : S) (text rest : List ℕ) (goes : Bool) (t : List ℕ) → item s text ≡ Ok (u, rest) → (goes, t) ≡ after_comma rest → separated item s text ≡ Ok (goes, u, t)
item_is item s u text rest goes t e b = rw (e, ← b) refl

-- ---- a key among those of a map

pub has_key-lookup : (k : Datum) (es : List (Datum × Datum)) → is_some (lookup (is_at (datum_cmp k)) es) ≡ has_key k es
has_key-lookup k [] = refl
has_key-lookup k (e ∷ es) = elim (cases_Bool (is_eq (datum_cmp k e.0))) [
  | inl same ↦ rw same refl
  | inr other ↦ rw other (has_key-lookup k es)
]

module _ (read : TermReader) (room : ℕ) (es : List (Datum × Datum)) (text : List ℕ) (key : Datum) (t : List ℕ) (left : room ≡ MAX_MAP - length es) (e : read room text ≡ Ok (key, t)) where
  pub pair_twice : has_key key es ≡ true → pair_at read es text ≡ Err (DuplicateKey, length text)
  unfolding pair_at
  pair_twice h = rw (← left, e, h) refl

  pub pair_no_arrow : (f : Stop) → has_key key es ≡ false → Fails f (expect_both equals greater (after_gap false t)) → Fails f (pair_at read es text)
  unfolding pair_at
  pair_no_arrow f h k = rw (← left, e, h) (bind_fails f (expect_both equals greater (after_gap false t)) _ k)

  pub pair_no_value : (f : Stop) (rest : List ℕ) → has_key key es ≡ false → expect_both equals greater (after_gap false t) ≡ Ok rest → Fails f (read 1 (after_gap false rest)) → Fails f (pair_at read es text)
  unfolding pair_at
  pair_no_value f rest h a k = rw (← left, e, h, a) (bind_fails f (read 1 (after_gap false rest)) _ k)

  pub pair_is : (rest : List ℕ) (value : Datum) (behind : List ℕ) → has_key key es ≡ false → expect_both equals greater (after_gap false t) ≡ Ok rest → read 1 (after_gap false rest) ≡ Ok (value, behind) → pair_at read es text ≡ Ok (insert_entry datum_cmp es key value, behind)
  unfolding pair_at
  pair_is rest value behind h a k = rw (← left, e, h, a, k) refl

abbrev made : {X : Type 0} → X → Result X Fault
made x = Ok x

pub with_rest : {X : Type 0} (x y : X) (rest : List ℕ) → made x ≡ made y → made {X = X × List ℕ} (x, rest) ≡ made {X = X × List ℕ} (y, rest)
with_rest x y rest h = let same : x ≡ y = cc in rw same refl

-- ---- one more sentence

pub sentence_fails : (e : Stop) (ds : List Datum) (text : List ℕ) → 0 < length text → Fails e (sentence_at text) → Fails e (sentence_step ds text)
unfolding sentence_step
sentence_fails e ds [] some f = absurd (omega arith)
sentence_fails e ds (c ∷ cs) some f = bind_fails e (sentence_at (c ∷ cs)) _ f

pub sentence_is : (ds : List Datum) (text : List ℕ) (d : Datum) (rest : List ℕ) → 0 < length text → sentence_at text ≡ Ok (d, rest) → sentence_step ds text ≡ Ok (true, ds ++ d ∷ [], after_gap false rest)
unfolding sentence_step
sentence_is ds [] d rest some e = absurd (omega arith)
sentence_is ds (c ∷ cs) d rest some e = rw e refl

pub no_sentence : (ds : List Datum) (text : List ℕ) → length text ≡ 0 → sentence_step ds text ≡ Ok (false, ds, [])
unfolding sentence_step
no_sentence ds [] h = refl
no_sentence ds (c ∷ cs) h = absurd (omega arith)

-- a whole text fails as its steps do
pub text_fails : (e : Stop) (text : List ℕ) → Fails e (all_steps sentence_step [] (after_gap false text)) → Fails e (text_at text)
unfolding text_at
text_fails e text h = bind_fails e (all_steps sentence_step [] (after_gap false text)) _ h

pub text_is : (text : List ℕ) (ds : List Datum) (rest : List ℕ) → all_steps sentence_step [] (after_gap false text) ≡ Ok (ds, rest) → text_at text ≡ Ok ds
unfolding text_at
text_is text ds rest h = rw h refl

-- ---- the next term

next_from_fails : (e : Stop) (g : List ℕ) → (length g == 0) ≡ false → Fails e (sentence_at g) → Fails e (next_from g)
next_from_fails e [] some f = absurd cc
next_from_fails e (c ∷ cs) some f = bind_fails e (sentence_at (c ∷ cs)) _ f

pub next_fails : (e : Stop) (text g : List ℕ) → g ≡ after_gap false text → false ≡ (length g == 0) → Fails e (sentence_at g) → Fails e (next_at text)
unfolding next_at
next_fails e text g is some f = rw (← is) (next_from_fails e g (sym some) f)

next_from_is : (g : List ℕ) (d : Datum) (rest : List ℕ) → (length g == 0) ≡ false → sentence_at g ≡ Ok (d, rest) → next_from g ≡ Ok (Some (d, rest))
next_from_is [] d rest some e = absurd cc
next_from_is (c ∷ cs) d rest some e = rw e refl

pub next_is : (text g : List ℕ) (d : Datum) (rest : List ℕ) → g ≡ after_gap false text → false ≡ (length g == 0) → sentence_at g ≡ Ok (d, rest) → next_at text ≡ Ok (Some (d, rest))
unfolding next_at
next_is text g d rest is some e = rw (← is) (next_from_is g d rest (sym some) e)

next_from_none : (g : List ℕ) → (length g == 0) ≡ true → next_from g ≡ Ok None
next_from_none [] none = refl
next_from_none (c ∷ cs) none = absurd (let no = eqb-true (length (c ∷ cs)) 0 none in omega arith)

pub next_none : (text g : List ℕ) → g ≡ after_gap false text → true ≡ (length g == 0) → next_at text ≡ Ok None
unfolding next_at
next_none text g is none = rw (← is) (next_from_none g (sym none))

-- the condition on a step is what it says of the failed step
pub failed_before : (e : Stop) (r : Read Datum) → (let some : Datum × List ℕ → Result (Option (Datum × List ℕ)) Fault = λ x. Ok (Some x) in Fails e (r >>= some)) → Fails e r
failed_before stops.Memory r f = tt
failed_before (stops.At cause left) (Ok x) f = absurd cc
failed_before (stops.At cause left) (Err f) same = let is : f ≡ (cause, left) = cc in rw is refl

read_before : (r : Read Datum) (y : Datum × List ℕ) → (let some : Datum × List ℕ → Result (Option (Datum × List ℕ)) Fault = λ x. Ok (Some x) in (r >>= some) ≡ Ok (Some y)) → r ≡ Ok y
read_before (Ok x) y e = let is : x ≡ y = cc in rw is refl
read_before (Err f) y e = absurd cc

step_fails : (e : Stop) (ds : List Datum) (g : List ℕ) → Fails e (next_from g) → Fails e (sentence_step ds g)
step_fails stops.Memory ds g f = tt
step_fails (stops.At cause left) ds [] f = absurd cc
step_fails (stops.At cause left) ds (c ∷ cs) f = sentence_fails (stops.At cause left) ds (c ∷ cs) (omega arith) (failed_before (stops.At cause left) (sentence_at (c ∷ cs)) f)

pub next_step_fails : (e : Stop) (ds : List Datum) (text : List ℕ) → Fails e (next_at text) → Fails e (sentence_step ds (after_gap false text))
unfolding next_at
next_step_fails e ds text f = step_fails e ds (after_gap false text) f

step_is : (ds : List Datum) (g : List ℕ) (d : Datum) (rest : List ℕ) → next_from g ≡ Ok (Some (d, rest)) → sentence_step ds g ≡ Ok (true, ds ++ d ∷ [], after_gap false rest)
step_is ds [] d rest e = absurd cc
step_is ds (c ∷ cs) d rest e = sentence_is ds (c ∷ cs) d rest (omega arith) (read_before (sentence_at (c ∷ cs)) (d, rest) e)

pub next_step_is : (ds : List Datum) (text : List ℕ) (d : Datum) (rest : List ℕ) → next_at text ≡ Ok (Some (d, rest)) → sentence_step ds (after_gap false text) ≡ Ok (true, ds ++ d ∷ [], after_gap false rest)
unfolding next_at
next_step_is ds text d rest e = step_is ds (after_gap false text) d rest e

some_after : (r : Read Datum) → (let some : Datum × List ℕ → Result (Option (Datum × List ℕ)) Fault = λ x. Ok (Some x) in (r >>= some) ≡ Ok None) → ⊥
some_after (Ok x) e = absurd cc
some_after (Err f) e = absurd cc

nothing_from : (g : List ℕ) → next_from g ≡ Ok None → g ≡ []
nothing_from [] e = refl
nothing_from (c ∷ cs) e = absurd (some_after (sentence_at (c ∷ cs)) e)

pub next_nothing : (text : List ℕ) → next_at text ≡ Ok None → after_gap false text ≡ []
unfolding next_at
next_nothing text e = nothing_from (after_gap false text) e
