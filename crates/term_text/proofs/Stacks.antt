-- Terms that are read onto a stack.
use Rattle.std.proofs.Common.{◌≡◌, ℕ, ◌-◌, ◌≤◌, ◌<◌, Bool, true, false, List, [], ◌∷◌, ◌++◌, length, take, drop, Option, Some, None, Result, Ok, Err, refl, sym, ap, ◌∙◌, arith}
use Rattle.std.proofs.lemmas.List.{length-append, length-drop, drop_all, take_all, take-append-drop, take-append-le, drop-append-le}
use Rattle.term_core.specs.Datum.{Datum}
use Rattle.term_text.specs.declared.stop.Stop.{Stop}
use Rattle.term_text.specs.declared.stop.Stop.TheVariants as stops
use Rattle.std.specs.Prelude.{◌==◌}
use Rattle.term_text.specs.TokenReading.{Fault, Read, ◌>>=◌, Fails, after_gap}
use Rattle.term_text.specs.Reading.{separated, after_comma, element_at, elements_at, elements_from, term_at, sentence_at, next_at}
use Rattle.term_text.specs.Stack.{pushed, pushed_if, pushed_next}
use Rattle.term_text.proofs.Readers.{bind_fails, element_is, next_fails, next_is, next_none}
use Rattle.term_text.proofs.Sound.{term_holds, element_shrinks}
use Rattle.term_text.proofs.Short.{element_stops, element_more}

abbrev pub stacked : List Datum → Result (List Datum) Fault
stacked ds = Ok ds

abbrev pub stack_and : List Datum → List ℕ → List Datum × List ℕ
stack_and ds rest = (ds, rest)

abbrev pub read_stack : List Datum → List ℕ → Read (List Datum)
read_stack ds rest = Ok (ds, rest)

abbrev pub read_term : Datum → List ℕ → Read Datum
read_term d rest = Ok (d, rest)

-- what is read fails as its push does
pub pushed_fails : (e : Stop) (front : List Datum) (r : Read Datum) → Fails e (pushed front r) → Fails e r
pushed_fails stops.Memory front r f = tt
pushed_fails (stops.At cause left) front (Ok x) f = absurd cc
pushed_fails (stops.At cause left) front (Err f) same = let is : f ≡ (cause, left) = cc in rw is refl

pub push_fails : (e : Stop) (front : List Datum) (r : Read Datum) → Fails e r → Fails e (pushed front r)
push_fails e front r f = bind_fails e r _ f

-- a term that was pushed
pub record Pushed (front : List Datum) (r : Read Datum) (new : List Datum) (rest : List ℕ) : Type 0 where
  pub top : Datum
  pub read : r ≡ Ok (top, rest)
  pub stack : new ≡ front ++ top ∷ []

pub was_pushed : (front : List Datum) (r : Read Datum) (new : List Datum) (rest : List ℕ) → pushed front r ≡ read_stack new rest → Pushed front r new rest
was_pushed front (Ok x) new rest e =
    let both : stack_and (front ++ x.0 ∷ []) x.1 ≡ stack_and new rest = cc in
    record {
      top = x.0;
      read = ap (λ (t : List ℕ). read_term x.0 t) (ap (λ (p : List Datum × List ℕ). p.1) both);
      stack = sym (ap (λ (p : List Datum × List ℕ). p.0) both);
    }
was_pushed front (Err f) new rest e = absurd cc

-- a term that was put in the place of others
pub put_is : (front : List Datum) (r : Read Datum) (d : Datum) (new : List Datum) (rest : List ℕ) → r ≡ read_term d rest → stacked (front ++ d ∷ []) ≡ stacked new → pushed front r ≡ read_stack new rest
put_is front r d new rest e is = let same : front ++ d ∷ [] ≡ new = cc in rw (e, same) refl

pub all_of : (base : ℕ) (ds : List Datum) → base ≡ length ds → take base ds ≡ ds
all_of base ds e = take_all base ds (omega arith)

pub none_behind : (base : ℕ) (ds : List Datum) → base ≡ length ds → drop base ds ≡ []
none_behind base ds e = drop_all base ds (omega arith)

pub record Taken (old : List Datum) (r : Read Datum) (new : List Datum) (d : Datum) (rest : List ℕ) : Type 0 where
  pub read : r ≡ read_term d rest
  pub stack : new ≡ old

-- ---- elements on a stack, those from a base on

-- one more element was pushed: what is on the stack, and what is left to read
pub record OneMore (n limit base : ℕ) (ds : List Datum) (text : List ℕ) (total : Read (List Datum)) (new : List Datum) (goes : Bool) (t : List ℕ) : Type 0 where
  pub within : base ≤ length new
  pub front : take base new ≡ take base ds
  pub more : elements_from (term_at n) limit goes (drop base new) t ≡ total
  pub shorter : goes ≡ true → length t < length text

module _ (n limit base : ℕ) (ds : List Datum) (text : List ℕ) (total : Read (List Datum)) (so_far : elements_at (term_at n) limit (drop base ds) text ≡ total) (within : base ≤ length ds) (room : ℕ) (left : room ≡ limit - (length ds - base)) where
  count : room ≡ limit - length (drop base ds)
  count = left ∙ ap (λ (k : ℕ). limit - k) (sym (length-drop base ds))

  pub stack_stops : (e : Stop) → Fails e (pushed ds (term_at n room text)) → Fails e total
  stack_stops e f = element_stops n limit (drop base ds) text total so_far room count e (pushed_fails e ds (term_at n room text) f)

  one_more : (new : List Datum) (rest : List ℕ) (goes : Bool) (t : List ℕ) → Pushed ds (term_at n room text) new rest → (goes, t) ≡ after_comma rest → OneMore n limit base ds text total new goes t
  one_more new rest goes t one after =
      let behind_more : drop base new ≡ drop base ds ++ one.top ∷ [] = rw one.stack (drop-append-le base ds (one.top ∷ []) within) in
      record {
        within = rw one.stack (omega (arith, length-append ds (one.top ∷ [])));
        front = rw one.stack (take-append-le base ds (one.top ∷ []) within);
        more = rw behind_more (element_more n limit (drop base ds) text total so_far room count one.top rest goes t one.read after);
        shorter = λ goes_on. (element_shrinks n (term_at n) (term_holds n) limit).shorter (drop base ds) text _
            (element_is (term_at n) limit room (drop base ds) text one.top rest goes t count one.read after) goes_on;
      }

  pub stack_more : (new : List Datum) (rest : List ℕ) (goes : Bool) (t : List ℕ) → pushed ds (term_at n room text) ≡ read_stack new rest → (goes, t) ≡ after_comma rest → OneMore n limit base ds text total new goes t
  stack_more new rest goes t read after = one_more new rest goes t (was_pushed ds (term_at n room text) new rest read) after

-- ---- the last term of a stack

pub record SameLast {X : Type 0} (xs : List X) (x : X) (ys : List X) (y : X) : Type 0 where
  pub front : xs ≡ ys
  pub last : x ≡ y

pub same_last : {X : Type 0} (xs : List X) (x : X) (ys : List X) (y : X) → xs ++ x ∷ [] ≡ ys ++ y ∷ [] → SameLast xs x ys y
same_last [] x [] y e = let same : x ≡ y = cc in record { front = refl; last = same }
same_last [] x (b ∷ []) y e = absurd cc
same_last [] x (b ∷ c ∷ ys) y e = absurd cc
same_last (a ∷ []) x [] y e = absurd cc
same_last (a ∷ d ∷ xs) x [] y e = absurd cc
same_last (a ∷ xs) x (b ∷ ys) y e =
    let heads : a ≡ b = cc in
    let tails : xs ++ x ∷ [] ≡ ys ++ y ∷ [] = cc in
    let again = same_last xs x ys y tails in
    record { front = rw (heads, again.front) refl; last = again.last }

-- a term that was pushed and taken again
pub taken_again : (front : List Datum) (r : Read Datum) (pushed_on : List Datum) (rest : List ℕ) (new : List Datum) (d : Datum) → pushed front r ≡ read_stack pushed_on rest → pushed_on ≡ new ++ d ∷ [] → Taken front r new d rest
taken_again front r pushed_on rest new d e is =
    let one = was_pushed front r pushed_on rest e in
    let same = same_last new d front one.top (sym is ∙ one.stack) in
    record { read = one.read ∙ ap (λ (x : Datum). read_term x rest) (sym same.last); stack = same.front }

pub some_pushed : (front : List Datum) (r : Read Datum) (new : List Datum) (rest : List ℕ) → pushed front r ≡ read_stack new rest → 0 < length new
some_pushed front r new rest e = let one = was_pushed front r new rest e in rw one.stack (omega (arith, length-append front (one.top ∷ [])))

-- ---- the next term of a text

abbrev pub Next : Type 0
Next = Result (Option (Datum × List ℕ)) Fault

abbrev pub next_stack : List Datum → Option (List ℕ) → Result (List Datum × Option (List ℕ)) Fault
next_stack ds rest = Ok (ds, rest)

abbrev pub next_read : Option (Datum × List ℕ) → Next
next_read next = Ok next

abbrev stack_or : List Datum → Option (List ℕ) → List Datum × Option (List ℕ)
stack_or ds rest = (ds, rest)

pub next_push_fails : (e : Stop) (front : List Datum) (text g : List ℕ) → g ≡ after_gap false text → false ≡ (length g == 0) → Fails e (pushed front (sentence_at g)) → Fails e (pushed_next front (next_at text))
next_push_fails e front text g is some f = bind_fails e (next_at text) _ (next_fails e text g is some (pushed_fails e front (sentence_at g) f))

pub next_pushed : (front : List Datum) (text g : List ℕ) (new : List Datum) (rest : List ℕ) → g ≡ after_gap false text → false ≡ (length g == 0) → pushed front (sentence_at g) ≡ read_stack new rest → pushed_next front (next_at text) ≡ next_stack new (Some rest)
next_pushed front text g new rest is some e =
    let one = was_pushed front (sentence_at g) new rest e in
    rw (next_is text g one.top rest is some one.read, ← one.stack) refl

pub next_none_pushed : (front : List Datum) (text g : List ℕ) → g ≡ after_gap false text → true ≡ (length g == 0) → pushed_next front (next_at text) ≡ next_stack front None
next_none_pushed front text g is none = rw (next_none text g is none) refl

-- what was read of a text before it was pushed
pub next_failed : (e : Stop) (front : List Datum) (n : Next) → Fails e (pushed_next front n) → Fails e n
next_failed stops.Memory front n f = tt
next_failed (stops.At cause left) front (Ok x) f = absurd cc
next_failed (stops.At cause left) front (Err f) same = let is : f ≡ (cause, left) = cc in rw is refl

pub record NextPushed (front : List Datum) (n : Next) (new : List Datum) (rest : List ℕ) : Type 0 where
  pub top : Datum
  pub read : n ≡ next_read (Some (top, rest))
  pub stack : new ≡ front ++ top ∷ []

abbrev rest_or : List ℕ → Option (List ℕ) → List ℕ
rest_or other (Some rest) = rest
rest_or other None = other

pub next_was_pushed : (front : List Datum) (n : Next) (new : List Datum) (rest : List ℕ) → pushed_next front n ≡ next_stack new (Some rest) → NextPushed front n new rest
next_was_pushed front (Ok (Some x)) new rest e =
    let both : stack_or (front ++ x.0 ∷ []) (Some x.1) ≡ stack_or new (Some rest) = cc in
    record {
      top = x.0;
      read = ap (λ (t : List ℕ). next_read (Some (x.0, t))) (ap (λ (p : List Datum × Option (List ℕ)). rest_or [] p.1) both);
      stack = sym (ap (λ (p : List Datum × Option (List ℕ)). p.0) both);
    }
next_was_pushed front (Ok None) new rest e =
    let both : stack_or front None ≡ stack_or new (Some rest) = cc in
    let none : (let nothing : Option (List ℕ) = None in nothing ≡ Some rest) = ap (λ (p : List Datum × Option (List ℕ)). p.1) both in
    absurd cc
next_was_pushed front (Err f) new rest e = absurd cc

pub record NoNext (front : List Datum) (n : Next) (new : List Datum) : Type 0 where
  pub read : n ≡ next_read None
  pub stack : new ≡ front

pub next_was_none : (front : List Datum) (n : Next) (new : List Datum) → pushed_next front n ≡ next_stack new None → NoNext front n new
next_was_none front (Ok (Some x)) new e =
    let both : stack_or (front ++ x.0 ∷ []) (Some x.1) ≡ stack_or new None = cc in
    let none : (let nothing : Option (List ℕ) = None in Some x.1 ≡ nothing) = ap (λ (p : List Datum × Option (List ℕ)). p.1) both in
    absurd cc
next_was_none front (Ok None) new e =
    let both : stack_or front None ≡ stack_or new None = cc in
    record { read = refl; stack = sym (ap (λ (p : List Datum × Option (List ℕ)). p.0) both) }
next_was_none front (Err f) new e = absurd cc

pub some_next : (front : List Datum) (n : Next) (new : List Datum) (rest : List ℕ) → pushed_next front n ≡ next_stack new (Some rest) → 0 < length new
some_next front n new rest e = let one = next_was_pushed front n new rest e in rw one.stack (omega (arith, length-append front (one.top ∷ [])))

pub record NextTaken (old : List Datum) (n : Next) (new : List Datum) (d : Datum) (rest : List ℕ) : Type 0 where
  pub read : n ≡ next_read (Some (d, rest))
  pub stack : new ≡ old

pub next_taken : (front : List Datum) (n : Next) (pushed_on : List Datum) (rest : List ℕ) (new : List Datum) (d : Datum) → pushed_next front n ≡ next_stack pushed_on (Some rest) → pushed_on ≡ new ++ d ∷ [] → NextTaken front n new d rest
next_taken front n pushed_on rest new d e is =
    let one = next_was_pushed front n pushed_on rest e in
    let same = same_last new d front one.top (sym is ∙ one.stack) in
    record { read = one.read ∙ ap (λ (x : Datum). next_read (Some (x, rest))) (sym same.last); stack = same.front }
