-- The walks of one worker, part after part.
use Rattle.std.proofs.Common.{zero, suc, ◌≡◌, ℕ, ◌+◌, ◌<◌, inl, inr, refl, ap, sym, subst, ◌∙◌, arith, List, [], ◌∷◌, ◌++◌, length}
use Rattle.std.specs.Prelude.{Bool, true, false, IsTrue, MatchBool, ◌==◌, if◌then◌else◌, min}
use Rattle.std.proofs.lemmas.Bool.{eq-eqb, eqb-true}
use Rattle.std.proofs.lemmas.List.{length-append}
use Rattle.term_core.specs.Datum.{Datum}
use Rattle.part_core.specs.Replies.{most_counted}
use Rattle.part_core.proofs.KeyLemmas.{by_test}
use Rattle.tables.specs.Turns.{Home, Views, Follows}
use Rattle.walk_core.specs.Walk.{Walk}
use Rattle.walk_core.specs.Walk.Position.{Over}
use Rattle.parallel_select.specs.declared.gained.Gained.{Gained}
use Rattle.parallel_select.specs.Gained.{IsGained, IsCounted, Gains}
use Rattle.parallel_select.specs.Parts.{Selects, Passes, PassesCounting, CeasesAt, CeasesCounting, Works, Broken, Counted, BrokenAt, number_gained, answers_of}
use Rattle.parallel_select.specs.Parts.Works.{begins, passes}
use Rattle.parallel_select.proofs.GainLemmas.{counted_too}

next_is : (n : ℕ) → n + 1 ≡ suc n
next_is n = omega arith

passes_by : (h : Home) (walk : ℕ → Walk) (own : ℕ → Bool) (part : ℕ) (xs ys : List Datum) (v u : Views) → (IsTrue (own part) → xs ≡ ys) → Passes h walk own part xs v u → Passes h walk own part ys v u
passes_by h walk own part xs ys v u same = of (own part) refl
  where
    of : (mine : Bool) → own part ≡ mine → MatchBool mine (Selects h (walk part) Over xs v u) (u ≡ v) → MatchBool mine (Selects h (walk part) Over ys v u) (u ≡ v)
    of true is p = subst (λ (zs : List Datum). Selects h (walk part) Over zs v u) (same is) p
    of false is p = p

-- only what is gained from the worker's own parts matters
pub works_by : (h : Home) (walk : ℕ → Walk) (own : ℕ → Bool) (gained others : ℕ → List Datum) (v : Views) (n : ℕ) (u : Views) → ((part : ℕ) → part < n → IsTrue (own part) → gained part ≡ others part) → Works h walk own gained v n u → Works h walk own others v n u
works_by h walk own gained others v n u same begins = begins
works_by h walk own gained others v n u same (passes {part = part} {u = x} {w = y} works pass) =
    passes (works_by h walk own gained others v part x (λ k below mine. same k (omega (arith, below)) mine) works) (passes_by h walk own part (gained part) (others part) x y (same part (omega arith)) pass)

-- ---- answers, part by part

earlier_there : (xs : List (List Datum)) (ys : List Datum) (n : ℕ) → n < length xs → answers_of (xs ++ ys ∷ []) n ≡ answers_of xs n
earlier_there [] ys n inside = absurd (omega (arith, inside))
earlier_there (x ∷ xs) ys zero inside = refl
earlier_there (x ∷ xs) ys (suc n) inside = earlier_there xs ys n (omega (arith, inside))

last_there : (xs : List (List Datum)) (ys : List Datum) → answers_of (xs ++ ys ∷ []) (length xs) ≡ ys
last_there [] ys = refl
last_there (x ∷ xs) ys = last_there xs ys

last_at : (xs : List (List Datum)) (ys : List Datum) (part : ℕ) → length xs ≡ part → answers_of (xs ++ ys ∷ []) part ≡ ys
last_at xs ys part long = ap (answers_of (xs ++ ys ∷ [])) (sym long) ∙ last_there xs ys

works_more : (h : Home) (walk : ℕ → Walk) (own : ℕ → Bool) (xs : List (List Datum)) (ys : List Datum) (part : ℕ) (v u : Views) → length xs ≡ part → Works h walk own (answers_of xs) v part u → Works h walk own (answers_of (xs ++ ys ∷ [])) v part u
works_more h walk own xs ys part v u long works =
    works_by h walk own (answers_of xs) (answers_of (xs ++ ys ∷ [])) v part u (λ k below mine. sym (earlier_there xs ys k (omega (arith, long, below)))) works

pub works_nothing : (h : Home) (walk : ℕ → Walk) (own : ℕ → Bool) (gained : ℕ → List Datum) (now : Views → Type 0) → Follows now now (λ v u. Works h walk own gained v 0 u)
works_nothing h walk own gained now v b = (v, b, begins)

-- one more part
pub works_once : (h : Home) (walk : ℕ → Walk) (own : ℕ → Bool) (xs : List (List Datum)) (ys : List Datum) (part : ℕ) (before now later : Views → Type 0) → length xs ≡ part → Follows before now (λ v u. Works h walk own (answers_of xs) v part u) → Follows now later (Passes h walk own part ys) → Follows before later (λ v u. Works h walk own (answers_of (xs ++ ys ∷ [])) v (part + 1) u)
works_once h walk own xs ys part before now later long so_far pass v b =
    let s = so_far v b in
    let t = pass s.0 s.1 in
    (t.0, t.1, passes (works_more h walk own xs ys part v s.0 long s.2) (passes_by h walk own part ys (answers_of (xs ++ ys ∷ []) part) s.0 t.0 (λ mine. sym (last_at xs ys part long)) t.2))

-- no part
pub broken_at_once : (h : Home) (walk : ℕ → Walk) (own : ℕ → Bool) (now : Views → Type 0) → Follows now now (Broken h walk own)
broken_at_once h walk own now v b = (v, b, ((λ k. []), 0, inl (omega arith, begins)))

-- a part that failed
pub works_until : (h : Home) (walk : ℕ → Walk) (own : ℕ → Bool) (xs : List (List Datum)) (part : ℕ) (before now later : Views → Type 0) → length xs ≡ part → part < h.options.parts → Follows before now (λ v u. Works h walk own (answers_of xs) v part u) → Follows now later (λ v u. (found : List Datum) × CeasesAt h walk own part found v u) → Follows before later (Broken h walk own)
works_until h walk own xs part before now later long inside so_far ceases v b =
    let s = so_far v b in
    let t = ceases s.0 s.1 in (
      t.0,
      t.1,
      (
        answers_of (xs ++ t.2.0 ∷ []),
        part,
        inr (record {
          inside = inside;
          before = s.0;
          works = works_more h walk own xs t.2.0 part v s.0 long s.2;
          last = subst (λ (zs : List Datum). CeasesAt h walk own part zs s.0 t.0) (sym (last_at xs t.2.0 part long)) t.2.1;
        }),
      ),
    )

-- a worker that came to its end counts as one of a selection that may fail later
pub broken_at_end : (h : Home) (walk : ℕ → Walk) (own : ℕ → Bool) (gained : ℕ → List Datum) (before now : Views → Type 0) → Follows before now (λ v u. Works h walk own gained v h.options.parts u) → Follows before now (Broken h walk own)
broken_at_end h walk own gained before now works v b =
    let s = works v b in (s.0, s.1, (gained, h.options.parts, inl (omega arith, s.2)))

-- ---- counts

-- the same gains except at one part
abbrev pub gained_at : ℕ → List Datum → (ℕ → List Datum) → ℕ → List Datum
gained_at part found gained k = if k == part then found else gained k

at_itself : (part : ℕ) (found : List Datum) (gained : ℕ → List Datum) → gained_at part found gained part ≡ found
at_itself part found gained = ap (λ (b : Bool). if b then found else gained part) (eq-eqb part part refl)

at_others : (part : ℕ) (found : List Datum) (gained : ℕ → List Datum) (k : ℕ) → k < part → gained_at part found gained k ≡ gained k
at_others part found gained k below =
    by_test (k == part) _ (λ same. let is = eqb-true k part same in absurd (omega (arith, is, below))) (λ other. ap (λ (b : Bool). if b then found else gained k) other)

number_by : (own : ℕ → Bool) (gained others : ℕ → List Datum) (n : ℕ) → ((k : ℕ) → k < n → gained k ≡ others k) → number_gained own gained n ≡ number_gained own others n
number_by own gained others zero same = refl
number_by own gained others (suc n) same =
    rw (number_by own gained others n (λ k below. same k (omega (arith, below))), same n (omega arith)) refl

number_own : (own : ℕ → Bool) (gained : ℕ → List Datum) (n : ℕ) → own n ≡ true → number_gained own gained (n + 1) ≡ number_gained own gained n + length (gained n)
number_own own gained n mine = rw (next_is n) (ap (λ (b : Bool). number_gained own gained n + (if b then length (gained n) else 0)) mine)

number_other : (own : ℕ → Bool) (gained : ℕ → List Datum) (n : ℕ) → own n ≡ false → number_gained own gained (n + 1) ≡ number_gained own gained n
number_other own gained n other = rw (next_is n) (ap (λ (b : Bool). number_gained own gained n + (if b then length (gained n) else 0)) other ∙ plus_none (number_gained own gained n))
  where
    plus_none : (m : ℕ) → m + 0 ≡ m
    plus_none m = omega arith

-- the walks so far, and how many objects they gained
pub record CountsSoFar {A : Type 0} (h : Home) (walk : ℕ → Walk) (own : ℕ → Bool) (g : Gained A) (part : ℕ) (v u : Views) : Type 0 where
  pub gained : ℕ → List Datum
  pub works : Works h walk own gained v part u
  pub all : List Datum
  pub is_all : IsGained g all
  pub number : length all ≡ number_gained own gained part

pub counts_nothing : {A : Type 0} (h : Home) (walk : ℕ → Walk) (own : ℕ → Bool) (g : Gained A) (now : Views → Type 0) → IsGained g [] → Follows now now (CountsSoFar h walk own g 0)
counts_nothing h walk own g now none v b =
    (v, b, record { gained = λ k. []; works = begins; all = []; is_all = none; number = refl })

number_after : (own : ℕ → Bool) (gained : ℕ → List Datum) (found all : List Datum) (part : ℕ) → own part ≡ true → length all ≡ number_gained own gained part → length (all ++ found) ≡ number_gained own (gained_at part found gained) (part + 1)
number_after own gained found all part mine number =
    let before = number_by own gained (gained_at part found gained) part (λ k below. sym (at_others part found gained k below)) in
    let here = number_own own (gained_at part found gained) part mine in
    let itself = ap length (at_itself part found gained) in
    let long = length-append all found in
    omega (arith, long, number, before, here, itself)

counts_on : {A : Type 0} (h : Home) (walk : ℕ → Walk) (own : ℕ → Bool) (g k : Gained A) (part : ℕ) (v x u : Views) → CountsSoFar h walk own g part v x → PassesCounting h walk own part g k x u → CountsSoFar h walk own k (part + 1) v u
counts_on h walk own g k part v x u so_far = of (own part) refl
  where
    of : (mine : Bool) → own part ≡ mine → MatchBool mine ((found : List Datum) × Selects h (walk part) Over found x u × Gains g k found) ((u ≡ x) × (k ≡ g)) → CountsSoFar h walk own k (part + 1) v u
    of true is (found, selects, gains) =
        let gained = gained_at part found so_far.gained in
        record {
          gained = gained;
          works = passes (works_by h walk own so_far.gained gained v part x (λ j below mine. sym (at_others part found so_far.gained j below)) so_far.works)
              (subst (λ (b : Bool). MatchBool b (Selects h (walk part) Over (gained part) x u) (u ≡ x)) (sym is) (subst (λ (zs : List Datum). Selects h (walk part) Over zs x u) (sym (at_itself part found so_far.gained)) selects));
          all = so_far.all ++ found;
          is_all = gains so_far.all so_far.is_all;
          number = number_after own so_far.gained found so_far.all part is so_far.number;
        }
    of false is (same, unchanged) =
        record {
          gained = so_far.gained;
          works = passes so_far.works (subst (λ (b : Bool). MatchBool b (Selects h (walk part) Over (so_far.gained part) x u) (u ≡ x)) (sym is) same);
          all = so_far.all;
          is_all = subst (λ (y : Gained _). IsGained y so_far.all) (sym unchanged) so_far.is_all;
          number = so_far.number ∙ sym (number_other own so_far.gained part is);
        }

pub counts_once : {A : Type 0} (h : Home) (walk : ℕ → Walk) (own : ℕ → Bool) (g k : Gained A) (part : ℕ) (before now later : Views → Type 0) → Follows before now (CountsSoFar h walk own g part) → Follows now later (PassesCounting h walk own part g k) → Follows before later (CountsSoFar h walk own k (part + 1))
counts_once h walk own g k part before now later so_far pass v b =
    let s = so_far v b in
    let t = pass s.0 s.1 in
    (t.0, t.1, counts_on h walk own g k part v s.0 t.0 s.2 t.2)

-- the count at the end
pub counted : {A : Type 0} (h : Home) (walk : ℕ → Walk) (own : ℕ → Bool) (g : Gained A) (part count : ℕ) (before now : Views → Type 0) → part ≡ h.options.parts → ((all : List Datum) → IsCounted g all → count ≡ min (length all) most_counted) → Follows before now (CountsSoFar h walk own g part) → Follows before now (Counted h walk own count)
counted h walk own g part count before now end is so_far v b =
    let s = so_far v b in
    let x = s.2 in
    (s.0, s.1, (x.gained, subst (λ (n : ℕ). Works h walk own x.gained v n s.0) end x.works, is x.all (counted_too g x.all x.is_all) ∙ ap (λ (n : ℕ). min n most_counted) (x.number ∙ ap (number_gained own x.gained) end)))

-- the count if a part failed
pub broken_off : {A : Type 0} (h : Home) (walk : ℕ → Walk) (own : ℕ → Bool) (g k : Gained A) (part count : ℕ) (before now later : Views → Type 0) → part < h.options.parts → ((all : List Datum) → IsCounted k all → count ≡ min (length all) most_counted) → Follows before now (CountsSoFar h walk own g part) → Follows now later (CeasesCounting h walk own part g k) → Follows before later (BrokenAt h walk own count)
broken_off h walk own g k part count before now later inside is so_far ceases v b =
    let s = so_far v b in
    let t = ceases s.0 s.1 in
    let x = s.2 in
    let found = t.2.1.1 in
    let gained = gained_at part found x.gained in (
      t.0,
      t.1,
      (
        gained,
        part,
        record {
          inside = inside;
          before = s.0;
          works = works_by h walk own x.gained gained v part s.0 (λ j below mine. sym (at_others part found x.gained j below)) x.works;
          last = record { mine = t.2.0; at = t.2.1.0; selects = subst (λ (zs : List Datum). Selects h (walk part) t.2.1.0 zs s.0 t.0) (sym (at_itself part found x.gained)) t.2.1.2 };
        },
        is (x.all ++ found) (t.2.1.3 x.all x.is_all) ∙ ap (λ (n : ℕ). min n most_counted) (number_after own x.gained found x.all part t.2.0 x.number),
      ),
    )
