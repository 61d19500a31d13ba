-- What was seen stays true, however the histories grow.
use Rattle.std.proofs.Common.{◌≡◌, ℕ, ◌<◌, inl, inr, refl, ap, sym, subst, ◌∙◌, arith, List, [], ◌∷◌, ◌++◌, length}
use Rattle.std.specs.Prelude.{Bool, IsTrue, All, Some, take, slice_get, flat_map}
use Rattle.std.proofs.lemmas.List.{take-append-le, get_or_append_left, length-append}
use Rattle.std.proofs.lemmas.List.Elements.{All-weaker, All-head, All-tail, Contains-append_left}
use Rattle.std.proofs.lemmas.Nat.{mod_below}
use Rattle.std.proofs.lemmas.Option.{slice_get_within, slice_get-get_or}
use Rattle.term_core.specs.Datum.{Datum}
use Rattle.term_core.specs.KeyHash.{key_hash}
use Rattle.part_core.specs.Acts.{History}
use Rattle.part_core.specs.Content.{content}
use Rattle.part_core.specs.Legal.{state_after, IsLegal}
use Rattle.part_core.specs.Visits.{is_inside, yields}
use Rattle.part_core.proofs.LawLemmas.{inside_stays}
use Rattle.tables.specs.Options.{settings_of}
use Rattle.tables.specs.Turns.{Views}
use Rattle.walk_core.specs.Walk.{Walk, Position, IsWalk, IsPosition, is_done, scope_from}
use Rattle.walk_core.specs.Walk.Position.{InPart, AtNamed, Over}
use Rattle.walk_core.specs.Moments.{Span, IsMoment, IsMet, Mark, Gathers, IsSoFar, IsGrown, answers_at, part_of_key}

-- the part of a key is one of the table's
pub key_inside : (w : Walk) (k : Datum) → IsWalk w → part_of_key w k < w.options.parts
key_inside w k walk = mod_below (key_hash k) w.options.parts walk.parts.0

pub grown_position : (w : Walk) (now later : Views) (at : Position) → IsWalk w → IsGrown w.options now later → IsPosition w now at → IsPosition w later at
grown_position w now later (InPart part cursor) walk grown position =
    let o = settings_of w.options in
    let inside : part < w.options.parts = omega (arith, position.2, walk.parts.1) in
    let g = grown part inside in (
      position.0,
      position.1,
      position.2,
      subst (λ (log : History). IsTrue (is_inside o (state_after o log) (scope_from cursor))) (sym g.1) (inside_stays o (now part) g.0 (scope_from cursor) (subst (IsLegal o) g.1 g.2) position.3),
    )
grown_position w now later (AtNamed n) walk grown position = position
grown_position w now later Over walk grown position = tt

-- ---- moments

slice_stays : {X : Type 0} (xs ys : List X) (i : ℕ) (x : X) → slice_get xs i ≡ Some x → slice_get (xs ++ ys) i ≡ Some x
slice_stays xs ys i x is =
    let within = slice_get_within xs i x is in
    slice_get-get_or (xs ++ ys) i x (let long = length-append xs ys in omega (arith, within, long))
    ∙ ap Some (get_or_append_left xs ys x i within) ∙ sym (slice_get-get_or xs i x within) ∙ is

pub grown_moment : (w : Walk) (calls : List Span) (now later : Views) (k : Datum) (moment : ℕ) → IsWalk w → IsGrown w.options now later → IsMoment w calls now k moment → IsMoment w calls later k moment
grown_moment w calls now later k moment walk grown m =
    let g = grown (part_of_key w k) (key_inside w k walk) in
    record {
      call = m.call;
      made = m.made;
      within = m.within;
      entry = m.entry;
      stands = subst (λ (log : History). slice_get log moment ≡ Some m.entry) (sym g.1) (slice_stays (now (part_of_key w k)) g.0 moment m.entry m.stands);
      visit = m.visit;
    }

pub grown_answers : (w : Walk) (calls : List Span) (now later : Views) (k : Datum) (moment : ℕ) → IsWalk w → IsGrown w.options now later → IsMoment w calls now k moment → answers_at w later k moment ≡ answers_at w now k moment
grown_answers w calls now later k moment walk grown m =
    let g = grown (part_of_key w k) (key_inside w k walk) in
    let within : moment < length (now (part_of_key w k)) = slice_get_within (now (part_of_key w k)) moment m.entry m.stands in
    let front : take moment (later (part_of_key w k)) ≡ take moment (now (part_of_key w k)) = ap (take moment) g.1 ∙ take-append-le moment (now (part_of_key w k)) g.0 (omega (arith, within)) in
    ap (λ (log : History). yields w.purpose w.program (content (settings_of w.options) k log)) front

-- a moment of a list of calls is a moment of a longer list
pub more_calls : (w : Walk) (calls more : List Span) (now : Views) (k : Datum) (moment : ℕ) → IsMoment w calls now k moment → IsMoment w (calls ++ more) now k moment
more_calls w calls more now k moment m = record {
  call = m.call;
  made = Contains-append_left calls more m.call m.made;
  within = m.within;
  entry = m.entry;
  stands = m.stands;
  visit = m.visit;
}

-- ---- what is collected

marks_answer : (w : Walk) (calls : List Span) (now later : Views) (marks : List Mark) → IsWalk w → IsGrown w.options now later → All (λ m. IsMoment w calls now m.key m.moment) marks → flat_map (λ m. answers_at w now m.key m.moment) marks ≡ flat_map (λ m. answers_at w later m.key m.moment) marks
marks_answer w calls now later [] walk grown moments = refl
marks_answer w calls now later (m ∷ marks) walk grown moments =
    ap (λ xs. xs ++ flat_map (λ l. answers_at w now l.key l.moment) marks) (sym (grown_answers w calls now later m.key m.moment walk grown (All-head (λ l. IsMoment w calls now l.key l.moment) m marks moments)))
    ∙ ap (λ xs. answers_at w later m.key m.moment ++ xs) (marks_answer w calls now later marks walk grown (All-tail (λ l. IsMoment w calls now l.key l.moment) m marks moments))

pub grown_gathers : (w : Walk) (calls : List Span) (now later : Views) (done : Datum → Bool) (xs : List Datum) → IsWalk w → IsGrown w.options now later → Gathers w calls now done xs → Gathers w calls later done xs
grown_gathers w calls now later done xs walk grown g = record {
  marks = g.marks;
  apart = g.apart;
  inside = g.inside;
  moments = All-weaker (λ m. IsMoment w calls now m.key m.moment) (λ m. IsMoment w calls later m.key m.moment) (λ m moment. grown_moment w calls now later m.key m.moment walk grown moment) g.marks g.moments;
  sum = g.sum ∙ marks_answer w calls now later g.marks walk grown g.moments;
  silent = λ k is. of k (g.silent k is);
}
  where
    of : (k : Datum) → IsMet w calls now g.marks k → IsMet w calls later g.marks k
    of k (inl marked) = inl marked
    of k (inr (moment, is, none)) = inr (moment, grown_moment w calls now later k moment walk grown is, grown_answers w calls now later k moment walk grown is ∙ none)

pub more_gathers : (w : Walk) (calls more : List Span) (now : Views) (done : Datum → Bool) (xs : List Datum) → Gathers w calls now done xs → Gathers w (calls ++ more) now done xs
more_gathers w calls more now done xs g = record {
  marks = g.marks;
  apart = g.apart;
  inside = g.inside;
  moments = All-weaker (λ m. IsMoment w calls now m.key m.moment) (λ m. IsMoment w (calls ++ more) now m.key m.moment) (λ m moment. more_calls w calls more now m.key m.moment moment) g.marks g.moments;
  sum = g.sum;
  silent = λ k is. of k (g.silent k is);
}
  where
    of : (k : Datum) → IsMet w calls now g.marks k → IsMet w (calls ++ more) now g.marks k
    of k (inl marked) = inl marked
    of k (inr (moment, is, none)) = inr (moment, more_calls w calls more now k moment is, none)

pub grown_so_far : (w : Walk) (calls : List Span) (given : List Datum) (now later : Views) (at : Position) (kept : List Datum) → IsWalk w → IsGrown w.options now later → IsSoFar w calls given now at kept → IsSoFar w calls given later at kept
grown_so_far w calls given now later at kept walk grown s = record {
  gathers = grown_gathers w calls now later (is_done w at) (given ++ kept) walk grown s.gathers;
  position = grown_position w now later at walk grown s.position;
}
