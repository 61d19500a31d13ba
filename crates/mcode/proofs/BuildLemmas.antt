-- Building code.
use Rattle.std.specs.Prelude.{ℕ, zero, suc, ◌≡◌, ◌-◌, ◌<◌, ◌≤◌, Result, Ok, Err, is_ok, if◌then◌else◌, Option, Some, None, ⊤, List, [], ◌∷◌, ◌++◌, All, length, get_or, set}
use Rattle.std.proofs.Common.{ap, ap₂, arith, refl, sym, subst, ◌∙◌}
use Rattle.std.proofs.lemmas.List.{length-append}
use Rattle.std.proofs.lemmas.List.Elements.{All-cons, All-nil, All-append}
use Rattle.std.proofs.lemmas.Option.{none-some, get_or_from_slice_get, slice_get_within}
use Rattle.term_core.specs.Datum.{Datum}
use Rattle.mcode.specs.Program.{Program, Body, Routine, most_parts, most_routines, IsBody, IsRoutine, IsProgram, IsWhole, IsSeenBy, routine_of, code_of, seen_body, seen_by, seen_from}
use Rattle.mcode.specs.Building.{with_body_at, with_last_body, with_routine, main_of, finished, finished_from, begun, IsBegun, IsRoutineTooMuch, empty_body, one_routine_more, with_body, with_stored}
use Rattle.mcode.specs.declared.kind.Kind.{Kind}

-- code with a body and routines that satisfy their conditions is whole
pub code_whole : (cs : List Datum) (b : Body) (ts : List Routine) → length cs ≤ most_parts → IsBody b → length ts ≤ most_routines → All IsRoutine ts → IsWhole (code_of cs b ts)
code_whole cs b ts few body count routines = record {
  seen =
      record { slots = body.slots; constants = few; instructions = body.instructions; frame_count = body.frame_count; frames = body.frames };
  number = refl;
  main = refl;
  routine_count = count;
  routines = routines;
}

-- the body that is viewed satisfies its conditions
pub body_whole : (p : Program) → IsProgram p → IsBody (seen_body p)
body_whole p h = record { slots = h.slots; instructions = h.instructions; frame_count = h.frame_count; frames = h.frames }

-- routines with one more satisfy their conditions
pub routines_more : (ts : List Routine) (t : Routine) → All IsRoutine ts → IsRoutine t → All IsRoutine (ts ++ t ∷ [])
routines_more ts t all one = All-append IsRoutine ts (t ∷ []) all (All-cons IsRoutine t [] one (All-nil IsRoutine))

-- whole code viewed from a body is a program
pub seen_program : (p : Program) (n : ℕ) (t : Option Routine) → IsSeenBy p n t → IsProgram (seen_by p n t)
seen_program p n None h = h.whole.seen
seen_program p zero (Some t) h = absurd (none-some t h.routine)
seen_program p (suc n) (Some t) h =
    let inside = slice_get_within p.around.routines n t h.routine in
    let one = subst IsRoutine (get_or_from_slice_get p.around.routines n t t h.routine) (h.whole.routines n t inside) in
    record {
      slots = one.body.slots;
      constants = h.whole.seen.constants;
      instructions = one.body.instructions;
      frame_count = one.body.frame_count;
      frames = one.body.frames;
    }

-- replacing the body of one routine keeps the conditions of all
pub body_set : (ts : List Routine) (n : ℕ) (b : Body) (old new : Routine) → n < length ts → old ≡ get_or ts n old → new ≡ routine_of old.arguments old.result b → set ts n new ≡ with_body_at ts n b
body_set [] n b old new inside was is = absurd (omega (arith, inside))
body_set (t ∷ ts) zero b old new inside was is =
    ap (λ (x : Routine). x ∷ ts) (is ∙ ap (λ (x : Routine). routine_of x.arguments x.result b) was)
body_set (t ∷ ts) (suc n) b old new inside was is =
    ap (λ xs. t ∷ xs) (body_set ts n b old new (omega (arith, inside)) was is)

-- replacing the body at the last place replaces the last body
pub last_stored : (ts : List Routine) (n : ℕ) (b : Body) → length ts ≡ suc n → with_body_at ts n b ≡ with_last_body ts b
last_stored [] n b is = absurd (omega (arith, is))
last_stored (t ∷ []) zero b is = refl
last_stored (t ∷ []) (suc n) b is = absurd (omega (arith, is))
last_stored (t ∷ t' ∷ ts) zero b is = absurd (omega (arith, is))
last_stored (t ∷ t' ∷ ts) (suc n) b is =
    ap (λ xs. t ∷ xs) (last_stored (t' ∷ ts) n b (omega (arith, is)))

-- replacing the body before the last routine replaces the last body of those before it
pub stored_before : (ts : List Routine) (n : ℕ) (b : Body) (more : Routine) → length ts ≡ suc n → with_body_at (ts ++ more ∷ []) n b ≡ with_last_body ts b ++ more ∷ []
stored_before [] n b more is = absurd (omega (arith, is))
stored_before (t ∷ []) zero b more is = refl
stored_before (t ∷ []) (suc n) b more is = absurd (omega (arith, is))
stored_before (t ∷ t' ∷ ts) zero b more is = absurd (omega (arith, is))
stored_before (t ∷ t' ∷ ts) (suc n) b more is =
    ap (λ xs. t ∷ xs) (stored_before (t' ∷ ts) n b more (omega (arith, is)))

-- replacing the last body does not change the number of routines
pub as_many : (ts : List Routine) (b : Body) → length (with_last_body ts b) ≡ length ts
as_many [] b = refl
as_many (t ∷ []) b = refl
as_many (t ∷ t' ∷ ts) b = ap suc (as_many (t' ∷ ts) b)

-- replacing the last body replaces the body of the routine appended last
pub last_given : (ts : List Routine) (t : Routine) (b : Body) → with_last_body (ts ++ t ∷ []) b ≡ ts ++ routine_of t.arguments t.result b ∷ []
last_given [] t b = refl
last_given (t' ∷ []) t b = refl
last_given (t' ∷ t'' ∷ ts) t b = ap (λ xs. t' ∷ xs) (last_given (t'' ∷ ts) t b)

-- the routines after a push, whether or not it failed
pub routines_pushed : {E : Type 0} (r : Result ⊤ E) (ts us : List Routine) (t : Routine) → us ≡ (if is_ok r then ts ++ t ∷ [] else ts) → length ts < most_routines → All IsRoutine ts → IsRoutine t → (length us ≤ most_routines) × All IsRoutine us
routines_pushed (Ok x) ts us t is few all one =
    (omega (arith, few, ap length is, length-append ts (t ∷ [])), subst (All IsRoutine) (sym is) (routines_more ts t all one))
routines_pushed (Err e) ts us t is few all one =
    (omega (arith, few, ap length is), subst (All IsRoutine) (sym is) all)

-- if there is a separate main body, a routine was begun
pub some_begun : (p : Program) (main : Option Body) (b : Body) → main ≡ Some b → IsBegun p main → 0 < length p.around.routines
some_begun p main b is begun = by p.around.routines refl
  where
    by : (ts : List Routine) → p.around.routines ≡ ts → 0 < length ts
    by [] none = absurd (none-some b (sym (begun.1 none) ∙ is))
    by (t ∷ ts) some = omega arith

-- the code that was built, if there is a separate main body
pub finished_some : (p q r : Program) (main : Option Body) (b newest : Body) → main ≡ Some b → q ≡ with_body p b → newest ≡ seen_body p → IsBegun p main → r ≡ with_stored q (length p.around.routines - 1) newest → r ≡ finished (begun p main)
finished_some p q r main b newest is exchanged old begun_is stored =
    let some = some_begun p main b is begun_is in
    stored
    ∙ ap (λ (x : Program). with_stored x (length p.around.routines - 1) newest) exchanged
    ∙ ap (λ x. code_of p.constants b (with_body_at p.around.routines (length p.around.routines - 1) x)) old
    ∙ ap (code_of p.constants b) (last_stored p.around.routines (length p.around.routines - 1) (seen_body p) (omega (arith, some)))
    ∙ ap (λ o. finished (begun p o)) (sym is)

-- the code that was built, if there is no separate main body
pub finished_none : (p : Program) (main : Option Body) → main ≡ None → IsWhole p → IsBegun p main → p ≡ finished (begun p main)
finished_none p main is whole begun_is =
    (λ i. record { slots = p.slots; constants = p.constants; instructions = p.instructions; frames = p.frames; around = record { number = (whole.number ∙ sym (ap length (begun_is.0 is))) i; main = (whole.main ∙ sym is) i; routines = p.around.routines } })
    ∙ ap (λ o. finished_from (begun p main) o) (sym is)

-- the code after a further routine was begun
pub next_begun : (p q r s : Program) (main : Option Body) (arguments : List Kind) (gives : Kind) (slots n : ℕ) (seen : Body) → IsBegun p main → length p.around.routines ≡ suc n → q ≡ one_routine_more p (routine_of arguments gives (empty_body slots)) → r ≡ with_body q (empty_body slots) → seen ≡ seen_body q → s ≡ with_stored r n seen → (begun s main ≡ with_routine (begun p main) arguments gives slots) × IsBegun s main × (length s.around.routines ≡ suc (length p.around.routines))
next_begun p q r s main arguments gives slots n seen begun_is some pushed exchanged old stored =
    let t = routine_of arguments gives (empty_body slots) in
    let r_is : r ≡ code_of p.constants (empty_body slots) (p.around.routines ++ t ∷ []) = exchanged ∙ ap (λ x. with_body x (empty_body slots)) pushed in
    let s_is : s ≡ code_of p.constants (empty_body slots) (with_last_body p.around.routines (seen_body p) ++ t ∷ []) =
    stored
    ∙ ap₂ (λ x b. with_stored x n b) r_is (old ∙ ap seen_body pushed)
    ∙ ap (code_of p.constants (empty_body slots)) (stored_before p.around.routines n (seen_body p) t some) in
    let long : length s.around.routines ≡ suc (length p.around.routines) = ap (λ (x : Program). length x.around.routines) s_is ∙ count p.around.routines (seen_body p) t in (
      ap (λ x. begun x main) s_is
          ∙ ap₂ (λ k o. seen_from p (empty_body slots) (record { number = k; main = o; routines = with_last_body p.around.routines (seen_body p) ++ t ∷ [] })) (count p.around.routines (seen_body p) t) (kept main refl),
      (λ none. absurd (none_length (begun_is.0 none)), λ empty. absurd (omega (arith, long, ap length empty))),
      long,
    )
  where
    count : (ts : List Routine) (b : Body) (t : Routine) → length (with_last_body ts b ++ t ∷ []) ≡ suc (length ts)
    count ts b t = omega (arith, length-append (with_last_body ts b) (t ∷ []), as_many ts b)

    none_length : p.around.routines ≡ [] → ⊥
    none_length empty = omega (arith, some, ap length empty)

    kept : (o : Option Body) → main ≡ o → main ≡ Some (main_of main (seen_body p))
    kept None none = absurd (none_length (begun_is.0 none))
    kept (Some b) is = is ∙ ap (λ o. Some (main_of o (seen_body p))) (sym is)

-- a routine that is too much for a number of routines is too much for an equal number
pub still_too_much : (n m : ℕ) (xs ys : List Kind) (slots : ℕ) → n ≡ m → xs ≡ ys → IsRoutineTooMuch n xs slots → IsRoutineTooMuch m ys slots
still_too_much n m xs ys slots same alike much =
    subst (λ k. IsRoutineTooMuch k ys slots) same (subst (λ ks. IsRoutineTooMuch n ks slots) alike much)
