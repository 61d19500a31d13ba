-- What holds of each member, by its number, and numbers that add up.
use Rattle.std.proofs.Common.{zero, suc, ◌≡◌, ◌≢◌, ℕ, ◌+◌, ◌<◌, refl, ap, sym, subst, ◌∙◌, arith, List, [], ◌∷◌, ◌++◌, length}
use Rattle.std.specs.Prelude.{Bool, true, false, All, map, flat_map, get_or, nat_lt, min, ◌%◌, if◌then◌else◌, IfErr, IfOk, Result, Ok, Err}
use Rattle.std.proofs.lemmas.Bool.{ltb-true, ltb-false, eq-eqb, eqb-true}
use Rattle.std.proofs.lemmas.List.Elements.{All-cons}
use Rattle.std.proofs.lemmas.List.{append-nil, append_assoc, length-append}
use Rattle.term_core.specs.Datum.{Datum}
use Rattle.part_core.specs.Acts.{Purpose}
use Rattle.part_core.specs.Acts.Purpose.{Answers}
use Rattle.tables.specs.Turns.{Home, Views}
use Rattle.walk_query.specs.declared.query.Query.{Query}
use Rattle.parallel_select.specs.Parts.{answers_of, is_share, number_gained, part_walk, Broken, Works}
use Rattle.parallel_select.specs.Workers.{Did, Each, EachAdding, EachAnswers, EachBroken, EachTallied, Tallied}
use Rattle.parallel_select.proofs.StretchLemmas.{gained_below}

-- a choice for each number below another, as a function
pub chosen : {X : Type 0} (count : ℕ) (x : X) (R : ℕ → X → Type 0) → ((n : ℕ) → n < count → (y : X) × R n y) → (f : ℕ → X) × ((n : ℕ) → n < count → R n (f n))
chosen {X} count x R choose = ((λ n. (pick n (nat_lt n count) refl).0), (λ n. (pick n (nat_lt n count) refl).1))
  where
    pick : (n : ℕ) (below : Bool) → nat_lt n count ≡ below → (y : X) × (n < count → R n y)
    pick n true is = let c = choose n (ltb-true n count is) in (c.0, λ within. c.1)
    pick n false is = (x, λ within. let over = ltb-false n count is in absurd (omega (arith, over, within)))

-- an element within a list doesn't depend on the default
pub same_there : {T : Type 0} (xs : List T) (n : ℕ) (d e : T) → n < length xs → get_or xs n d ≡ get_or xs n e
same_there [] n d e within = absurd (omega (arith, within))
same_there (x ∷ xs) zero d e within = refl
same_there (x ∷ xs) (suc n) d e within = same_there xs n d e (omega (arith, within))

-- the total of the first numbers of a sequence
abbrev pub total_of : (ℕ → ℕ) → ℕ → ℕ
total_of f zero = 0
total_of f (suc count) = f 0 + total_of (λ n. f (suc n)) count

next_is : (number n : ℕ) → number + 1 + n ≡ number + suc n
next_is number n = omega arith

from_none : (n : ℕ) → 0 + n ≡ n
from_none n = omega arith

none_is : (number : ℕ) → number ≡ number + 0
none_is number = omega arith

-- a sequence with one more element in front
abbrev in_front : {X : Type 0} → X → (ℕ → X) → ℕ → X
in_front x f zero = x
in_front x f (suc n) = f n

module _ {T : Type 0} where
  -- each member keeps its home and can make turns
  pub each_stays : (is_ready : T → Type 0) {H : Type 0} (home : T → H) (P : ℕ → T → T → Type 0) → ((n : ℕ) (old new : T) → P n old new → is_ready new × (home new ≡ home old)) → (number : ℕ) (olds news : List T) → Each P number olds news → All is_ready news × (map home news ≡ map home olds)
  each_stays is_ready home P stays number [] [] each = ((λ k d within. absurd (omega (arith, within))), refl)
  each_stays is_ready home P stays number (old ∷ olds) (new ∷ news) each =
      let here = stays number old new each.0 in
      let rest = each_stays is_ready home P stays (number + 1) olds news each.1 in
      (All-cons is_ready new news here.0 rest.0, ap (λ h. h ∷ map home news) here.1 ∙ ap (λ hs. home old ∷ hs) rest.1)
  each_stays is_ready home P stays number [] (new ∷ news) each = absurd each
  each_stays is_ready home P stays number (old ∷ olds) [] each = absurd each

  pub adding_stays : (is_ready : T → Type 0) {H : Type 0} (home : T → H) (P : ℕ → ℕ → T → T → Type 0) → ((n count : ℕ) (old new : T) → P n count old new → is_ready new × (home new ≡ home old)) → (total number : ℕ) (olds news : List T) → EachAdding P total number olds news → All is_ready news × (map home news ≡ map home olds)
  adding_stays is_ready home P stays total number [] [] each = ((λ k d within. absurd (omega (arith, within))), refl)
  adding_stays is_ready home P stays total number (old ∷ olds) (new ∷ news) each =
      let here = stays number each.0 old new each.2 in
      let rest = adding_stays is_ready home P stays each.1 (number + 1) olds news each.3 in
      (All-cons is_ready new news here.0 rest.0, ap (λ h. h ∷ map home news) here.1 ∙ ap (λ hs. home old ∷ hs) rest.1)
  adding_stays is_ready home P stays total number [] (new ∷ news) each = absurd each
  adding_stays is_ready home P stays total number (old ∷ olds) [] each = absurd each

  pub each_long : (P : ℕ → T → T → Type 0) (number : ℕ) (olds news : List T) → Each P number olds news → length news ≡ length olds
  each_long P number [] [] each = refl
  each_long P number (old ∷ olds) (new ∷ news) each = ap suc (each_long P (number + 1) olds news each.1)
  each_long P number [] (new ∷ news) each = absurd each
  each_long P number (old ∷ olds) [] each = absurd each

  each_at : (P : ℕ → T → T → Type 0) (number : ℕ) (olds news : List T) → Each P number olds news → (n : ℕ) (d e : T) → n < length olds → P (number + n) (get_or olds n d) (get_or news n e)
  each_at P number (old ∷ olds) (new ∷ news) each zero d e within = subst (λ k. P k old new) (none_is number) each.0
  each_at P number (old ∷ olds) (new ∷ news) each (suc n) d e within =
      subst (λ k. P k (get_or olds n d) (get_or news n e)) (next_is number n) (each_at P (number + 1) olds news each.1 n d e (omega (arith, within)))
  each_at P number [] news each n d e within = absurd (omega (arith, within))
  each_at P number (old ∷ olds) [] each n d e within = absurd each

  pub each_first : (P : ℕ → T → T → Type 0) (olds news : List T) → Each P 0 olds news → (n : ℕ) (d e : T) → n < length olds → P n (get_or olds n d) (get_or news n e)
  each_first P olds news each n d e within =
      subst (λ k. P k (get_or olds n d) (get_or news n e)) (from_none n) (each_at P 0 olds news each n d e within)

  -- numbers, one for each member, that add up to a total
  pub record Adds (P : ℕ → ℕ → T → T → Type 0) (total number : ℕ) (olds news : List T) : Type 0 where
    pub counts : ℕ → ℕ
    pub each : (n : ℕ) (d e : T) → n < length olds → P (number + n) (counts n) (get_or olds n d) (get_or news n e)
    pub long : length news ≡ length olds
    pub sum : total ≡ total_of counts (length olds)

  pub adding_first : (P : ℕ → ℕ → T → T → Type 0) (total : ℕ) (olds news : List T) (a : Adds P total 0 olds news) (n : ℕ) (d e : T) → n < length olds → P n (a.counts n) (get_or olds n d) (get_or news n e)
  adding_first P total olds news a n d e within =
      subst (λ k. P k (a.counts n) (get_or olds n d) (get_or news n e)) (from_none n) (a.each n d e within)

  pub adding : (P : ℕ → ℕ → T → T → Type 0) (total number : ℕ) (olds news : List T) → EachAdding P total number olds news → Adds P total number olds news
  adding P total number [] [] each = record { counts = λ n. 0; each = λ n d e within. absurd (omega (arith, within)); long = refl; sum = each }
  adding P total number (old ∷ olds) (new ∷ news) each =
      let rest = adding P each.1 (number + 1) olds news each.3 in
      record {
        counts = in_front each.0 rest.counts;
        each = at rest;
        long = ap suc rest.long;
        sum = each.4 ∙ ap (λ r. each.0 + r) rest.sum;
      }
    where
      at : (rest : Adds P each.1 (number + 1) olds news) (n : ℕ) (d e : T) → n < suc (length olds) → P (number + n) (in_front each.0 rest.counts n) (get_or (old ∷ olds) n d) (get_or (new ∷ news) n e)
      at rest zero d e within = subst (λ k. P k each.0 old new) (none_is number) each.2
      at rest (suc n) d e within = subst (λ k. P k (rest.counts n) (get_or olds n d) (get_or news n e)) (next_is number n) (rest.each n d e (omega (arith, within)))
  adding P total number [] (new ∷ news) each = absurd each
  adding P total number (old ∷ olds) [] each = absurd each

module _ {T A : Type 0} (is_ready : T → Type 0) (home : T → Home) (sees : T → Views → Type 0) (q : Query A) (workers : ℕ) where
  answers_stay : (lists : List (List Datum)) (number : ℕ) (olds news : List T) → EachAnswers is_ready home sees q workers lists number olds news → All is_ready news × (map home news ≡ map home olds)
  answers_stay lists number olds news each =
      each_stays is_ready home (λ n old new. (length lists ≡ (home old).options.parts) × Did is_ready home sees (λ h v u. Works h (part_walk h Answers q) (is_share workers n) (answers_of lists) v h.options.parts u) old new) (λ n old new did. (did.1.0, did.1.1)) number olds news each

  broken_stay : (number : ℕ) (olds news : List T) → EachBroken is_ready home sees q workers number olds news → All is_ready news × (map home news ≡ map home olds)
  broken_stay number olds news each =
      each_stays is_ready home (λ n. Did is_ready home sees (λ h. Broken h (part_walk h Answers q) (is_share workers n))) (λ n old new did. (did.0, did.1)) number olds news each

  -- the members of a selection keep their homes and can make turns, whether or not it fails
  pub gathered_stay : {X E : Type 0} (given : X → List (List Datum)) (r : Result X E) (number : ℕ) (olds news : List T)
      → IfOk r (λ lists. EachAnswers is_ready home sees q workers (given lists) number olds news)
      → IfErr r (λ _. EachBroken is_ready home sees q workers number olds news)
      → All is_ready news × (map home news ≡ map home olds)
  gathered_stay given (Ok lists) number olds news done refused = answers_stay (given lists) number olds news done
  gathered_stay given (Err e) number olds news done refused = broken_stay number olds news refused

  pub tallied_stay : (purpose : Purpose) (refused : Bool) (count number : ℕ) (olds news : List T) → EachTallied is_ready home sees q purpose workers refused count number olds news → All is_ready news × (map home news ≡ map home olds)
  tallied_stay purpose refused count number olds news each =
      adding_stays is_ready home (λ n own. Did is_ready home sees (λ h. Tallied h (part_walk h purpose q) (is_share workers n) refused own)) (λ n own old new did. (did.0, did.1)) each.0 number olds news each.2

-- ---- totals

total_none : (f : ℕ → ℕ) (count : ℕ) → ((n : ℕ) → f n ≡ 0) → total_of f count ≡ 0
total_none f zero all = refl
total_none f (suc count) all = let here = all 0 in let rest = total_none (λ n. f (suc n)) count (λ n. all (suc n)) in omega (arith, here, rest)

total_one : (f : ℕ → ℕ) (count at : ℕ) → at < count → ((n : ℕ) → n ≢ at → f n ≡ 0) → total_of f count ≡ f at
total_one f zero at within others = absurd (omega (arith, within))
total_one f (suc count) zero within others =
    let rest = total_none (λ n. f (suc n)) count (λ n. others (suc n) (λ same. absurd (omega (arith, same)))) in omega (arith, rest)
total_one f (suc count) (suc at) within others =
    let here = others 0 (λ same. absurd (omega (arith, same))) in
    let rest = total_one (λ n. f (suc n)) count at (omega (arith, within)) (λ n apart. others (suc n) (λ same. apart (omega (arith, same)))) in
    omega (arith, here, rest)

total_plus : (f g : ℕ → ℕ) (count : ℕ) → total_of (λ n. f n + g n) count ≡ total_of f count + total_of g count
total_plus f g zero = refl
total_plus f g (suc count) = let rest = total_plus (λ n. f (suc n)) (λ n. g (suc n)) count in omega (arith, rest)

-- limiting each number of a sum doesn't change the limited sum
pub total_capped : (limit : ℕ) (f g : ℕ → ℕ) (count : ℕ) → ((n : ℕ) → n < count → f n ≡ min (g n) limit) → min (total_of f count) limit ≡ min (total_of g count) limit
total_capped limit f g zero each = refl
total_capped limit f g (suc count) each =
    let here = each 0 (omega arith) in
    let rest = total_capped limit (λ n. f (suc n)) (λ n. g (suc n)) count (λ n within. each (suc n) (omega (arith, within))) in
    omega (arith, here, rest)

-- what all workers count in their own parts adds up to what there is in all parts
pub total_gained : (workers : ℕ) (gained : ℕ → ℕ → List Datum) → ((part : ℕ) → part % workers < workers) → (parts : ℕ)
    → total_of (λ n. number_gained (is_share workers n) (gained n) parts) workers ≡ length (gained_below (λ part. gained (part % workers) part) parts)
total_gained workers gained shared zero = total_none (λ n. 0) workers (λ n. refl)
total_gained workers gained shared (suc part) =
    let so_far = total_gained workers gained shared part in
    let at = part % workers in
    let here : total_of (λ n. if is_share workers n part then length (gained n part) else 0) workers ≡ (if is_share workers at part then length (gained at part) else 0)
    = total_one (λ n. if is_share workers n part then length (gained n part) else 0) workers at (shared part) (λ n apart. of n apart (is_share workers n part) refl) in
    let mine : (if is_share workers at part then length (gained at part) else 0) ≡ length (gained at part) = ap (λ (b : Bool). if b then length (gained at part) else 0) (eq-eqb at at refl) in
    total_plus (λ n. number_gained (is_share workers n) (gained n) part) (λ n. if is_share workers n part then length (gained n part) else 0) workers
    ∙ ap (λ k. k + total_of (λ n. if is_share workers n part then length (gained n part) else 0) workers) so_far
    ∙ ap (λ k. length (gained_below (λ p. gained (p % workers) p) part) + k) (here ∙ mine)
    ∙ sym (length-append (gained_below (λ p. gained (p % workers) p) part) (gained at part))
  where
    of : (n : ℕ) → n ≢ part % workers → (b : Bool) → is_share workers n part ≡ b → (if b then length (gained n part) else 0) ≡ 0
    of n apart true is = absurd (apart (sym (eqb-true (part % workers) n is)))
    of n apart false is = refl

-- ---- lists of answers, joined

first_below : {X : Type 0} (f : ℕ → List X) (count : ℕ) → gained_below f (suc count) ≡ f 0 ++ gained_below (λ n. f (suc n)) count
first_below f zero = sym (append-nil (f 0))
first_below f (suc count) = ap (λ xs. xs ++ f (suc count)) (first_below f count) ∙ append_assoc (f 0) (gained_below (λ n. f (suc n)) count) (f (suc count))

pub lists_below : {X : Type 0} (lists : List (List X)) → gained_below (λ part. get_or lists part []) (length lists) ≡ flat_map (λ list. list) lists
lists_below [] = refl
lists_below (list ∷ lists) = first_below (λ part. get_or (list ∷ lists) part []) (length lists) ∙ ap (λ xs. list ++ xs) (lists_below lists)
