-- Workers in parallel.
use Rattle.std.proofs.Common.{zero, suc, ◌≡◌, ℕ, ◌+◌, ◌<◌, ◌≤◌, inl, refl, ap, sym, subst, ◌∙◌, arith, List, [], ◌∷◌, length}
use Rattle.std.specs.Prelude.{All, flat_map, get_or, map, ◌++◌, Bool, true, false, ◌||◌, if◌then◌else◌, min, Result, Ok, Err, IfOk, IfErr}
use Rattle.std.proofs.lemmas.Bool.{eqb-true, true≢false}
use Rattle.term_core.specs.Datum.{Datum}
use Rattle.part_core.specs.Acts.{Purpose}
use Rattle.part_core.specs.Acts.Purpose.{Answers}
use Rattle.part_core.specs.Replies.{most_counted}
use Rattle.part_core.proofs.KeyLemmas.{by_test}
use Rattle.tables.specs.declared.options.Options.{Options}
use Rattle.tables.specs.Turns.{Home, Views, Follows}
use Rattle.walk_core.specs.Walk.{Walk}
use Rattle.walk_query.specs.declared.query.Query.{Query}
use Rattle.parallel_select.specs.Parts.{part_walk, is_share, answers_of, Works, Broken}
use Rattle.parallel_select.specs.Workers.{AreOfOneTable, Each, EachAdding, Did, EachAnswers, EachBroken, AreJoined, AreBothJoined, Tallied, EachTallied, Gathered, GatheredEach}
use Rattle.parallel_select.proofs.WorkLemmas.{works_by, broken_at_end}

module _ {T : Type 0} where
  -- what holds of each member, with a property replaced by one that it implies
  pub each_by : (P Q : ℕ → T → T → Type 0) (number : ℕ) (olds news : List T) → ((n : ℕ) (old new : T) → number ≤ n → P n old new → Q n old new) → Each P number olds news → Each Q number olds news
  each_by P Q number [] [] by each = tt
  each_by P Q number (old ∷ olds) (new ∷ news) by each =
      (by number old new (omega arith) each.0, each_by P Q (number + 1) olds news (λ n o m above. by n o m (omega (arith, above))) each.1)
  each_by P Q number [] (new ∷ news) by each = absurd each
  each_by P Q number (old ∷ olds) [] by each = absurd each

  adding_by : (P Q : ℕ → ℕ → T → T → Type 0) (total number : ℕ) (olds news : List T) → ((n count : ℕ) (old new : T) → P n count old new → Q n count old new) → EachAdding P total number olds news → EachAdding Q total number olds news
  adding_by P Q total number [] [] by each = each
  adding_by P Q total number (old ∷ olds) (new ∷ news) by each =
      (each.0, each.1, by number each.0 old new each.2, adding_by P Q each.1 (number + 1) olds news by each.3, each.4)
  adding_by P Q total number [] (new ∷ news) by each = absurd each
  adding_by P Q total number (old ∷ olds) [] by each = absurd each

  module _ {A : Type 0} (is_ready : T → Type 0) (home : T → Home) (sees : T → Views → Type 0) (query : Query A) (workers : ℕ) where
    did_by : (R S : Home → Views → Views → Type 0) (old new : T) → ((v u : Views) → R (home old) v u → S (home old) v u) → Did is_ready home sees R old new → Did is_ready home sees S old new
    did_by R S old new by did =
        (did.0, did.1, λ v b. let f = did.2 v b in (f.0, f.1, by v f.0 f.2))

    abbrev answered : List (List Datum) → ℕ → T → T → Type 0
    answered lists n = Did is_ready home sees (λ h v u. Works h (part_walk h Answers query) (is_share workers n) (answers_of lists) v h.options.parts u)

    -- a worker's answers are in any lists that agree at its own parts
    answered_by : (n parts : ℕ) (lists others : List (List Datum)) (old new : T) → (home old).options.parts ≡ parts → ((part : ℕ) → part < parts → is_share workers n part ≡ true → answers_of lists part ≡ answers_of others part) → answered lists n old new → answered others n old new
    answered_by n parts lists others old new are same did =
        did_by (λ h v u. Works h (part_walk h Answers query) (is_share workers n) (answers_of lists) v h.options.parts u) (λ h v u. Works h (part_walk h Answers query) (is_share workers n) (answers_of others) v h.options.parts u) old new (λ v u works. works_by (home old) (part_walk (home old) Answers query) (is_share workers n) (answers_of lists) (answers_of others) v (home old).options.parts u (λ part below mine. same part (omega (arith, are, below)) mine) works) did

    one_share : (n number part : ℕ) → number + 1 ≤ n → is_share workers n part ≡ true → is_share workers number part ≡ false
    one_share n number part above mine =
        by_test (is_share workers number part) _ (λ also. let a = eqb-true _ n mine in let b = eqb-true _ number also in absurd (omega (arith, a, b, above))) (λ other. other)

    -- the answers of the first member and of the others, joined
    pub both_answer : {X E : Type 0} (given : X → List (List Datum)) (number parts : ℕ) (own others : Result X E) (lists : List (List Datum)) (old new : T) (olds news : List T)
        → (home old).options.parts ≡ parts → length lists ≡ parts
        → IfOk own (λ mine. (length (given mine) ≡ (home old).options.parts) × Did is_ready home sees (λ h v u. Works h (part_walk h Answers query) (is_share workers number) (answers_of (given mine)) v h.options.parts u) old new)
        → IfOk others (λ theirs. (length (given theirs) ≡ parts) × EachAnswers is_ready home sees query workers (given theirs) (number + 1) olds news)
        → AreBothJoined given workers number parts own others lists
        → EachAnswers is_ready home sees query workers lists number (old ∷ olds) (new ∷ news)
    both_answer given number parts (Ok mine) (Ok theirs) lists old new olds news are long first rest joined = (
      (long ∙ sym are, answered_by number parts (given mine) lists old new are (λ part below share. sym (joined part below ∙ ap (λ (b : Bool). if b then answers_of (given mine) part else answers_of (given theirs) part) share)) first.1),
      each_by (λ n o m. (length (given theirs) ≡ (home o).options.parts) × answered (given theirs) n o m) (λ n o m. (length lists ≡ (home o).options.parts) × answered lists n o m) (number + 1) olds news
          (λ n o m above did.
          let there : (home o).options.parts ≡ parts = sym did.0 ∙ rest.0 in
          (long ∙ sym there, answered_by n parts (given theirs) lists o m there (λ part below share. sym (joined part below ∙ ap (λ (b : Bool). if b then answers_of (given mine) part else answers_of (given theirs) part) (one_share n number part above share))) did.1))
          rest.1,
    )
    both_answer given number parts (Ok mine) (Err e) lists old new olds news are long first rest joined = absurd joined
    both_answer given number parts (Err e) others lists old new olds news are long first rest joined = absurd joined

    broken_too : (n : ℕ) (lists : List (List Datum)) (old new : T) → answered lists n old new → Did is_ready home sees (λ h. Broken h (part_walk h Answers query) (is_share workers n)) old new
    broken_too n lists old new did =
        (did.0, did.1, broken_at_end (home old) (part_walk (home old) Answers query) (is_share workers n) (answers_of lists) (sees old) (sees new) did.2)

    first_broken : {X E : Type 0} (given : X → List (List Datum)) (number : ℕ) (own : Result X E) (old new : T)
        → IfOk own (λ mine. (length (given mine) ≡ (home old).options.parts) × answered (given mine) number old new)
        → IfErr own (λ _. Did is_ready home sees (λ h. Broken h (part_walk h Answers query) (is_share workers number)) old new)
        → Did is_ready home sees (λ h. Broken h (part_walk h Answers query) (is_share workers number)) old new
    first_broken given number (Ok mine) old new done refused = broken_too number (given mine) old new done.1
    first_broken given number (Err e) old new done refused = refused

    pub rest_broken : (number : ℕ) (lists : List (List Datum)) (olds news : List T) → EachAnswers is_ready home sees query workers lists number olds news → EachBroken is_ready home sees query workers number olds news
    rest_broken number lists olds news each =
        each_by (λ n o m. (length lists ≡ (home o).options.parts) × answered lists n o m) (λ n. Did is_ready home sees (λ h. Broken h (part_walk h Answers query) (is_share workers n))) number olds news (λ n o m above did. broken_too n lists o m did.1) each

    pub others_broken : {X E : Type 0} (given : X → List (List Datum)) (number parts : ℕ) (others : Result X E) (olds news : List T)
        → IfOk others (λ theirs. (length (given theirs) ≡ parts) × EachAnswers is_ready home sees query workers (given theirs) number olds news)
        → IfErr others (λ _. EachBroken is_ready home sees query workers number olds news)
        → EachBroken is_ready home sees query workers number olds news
    others_broken given number parts (Ok theirs) olds news done refused = rest_broken number (given theirs) olds news done.1
    others_broken given number parts (Err e) olds news done refused = refused

    -- the first member and the others, if one of them failed
    pub both_broken : {X E : Type 0} (given : X → List (List Datum)) (number parts : ℕ) (own others : Result X E) (old new : T) (olds news : List T)
        → IfOk own (λ mine. (length (given mine) ≡ (home old).options.parts) × Did is_ready home sees (λ h v u. Works h (part_walk h Answers query) (is_share workers number) (answers_of (given mine)) v h.options.parts u) old new)
        → IfErr own (λ _. Did is_ready home sees (λ h. Broken h (part_walk h Answers query) (is_share workers number)) old new)
        → IfOk others (λ theirs. (length (given theirs) ≡ parts) × EachAnswers is_ready home sees query workers (given theirs) (number + 1) olds news)
        → IfErr others (λ _. EachBroken is_ready home sees query workers (number + 1) olds news)
        → EachBroken is_ready home sees query workers number (old ∷ olds) (new ∷ news)
    both_broken given number parts own others old new olds news done refused rest_done rest_refused =
        (first_broken given number own old new done refused, others_broken given (number + 1) parts others olds news rest_done rest_refused)

    tallied_by : (h : Home) (walk : ℕ → Walk) (own : ℕ → Bool) (refused more : Bool) (count : ℕ) (v u : Views) → (refused ≡ true → more ≡ true) → Tallied h walk own refused count v u → Tallied h walk own more count v u
    tallied_by h walk own true true count v u so t = t
    tallied_by h walk own true false count v u so t = absurd (true≢false (sym (so refl)))
    tallied_by h walk own false true count v u so t = inl t
    tallied_by h walk own false false count v u so t = t

    first_of : (a b : Bool) → a ≡ true → (a || b) ≡ true
    first_of a b is = rw is refl

    second_of : (a b : Bool) → b ≡ true → (a || b) ≡ true
    second_of true b is = refl
    second_of false b is = is

    sums : (limit one total others count : ℕ) → others ≡ min total limit → count ≡ min (one + others) limit → count ≡ min (one + total) limit
    sums limit one total others count is_others is = omega (arith, is_others, is)

    pub both_tallied : (purpose : Purpose) (number one others count : ℕ) (one_refused others_refused refused : Bool) (old new : T) (olds news : List T)
        → Did is_ready home sees (λ h. Tallied h (part_walk h purpose query) (is_share workers number) one_refused one) old new
        → EachTallied is_ready home sees query purpose workers others_refused others (number + 1) olds news
        → count ≡ min (one + others) most_counted → refused ≡ (one_refused || others_refused)
        → EachTallied is_ready home sees query purpose workers refused count number (old ∷ olds) (new ∷ news)
    both_tallied purpose number one others count one_refused others_refused refused old new olds news first rest is is_refused = (
      one + rest.0,
      sums most_counted one rest.0 others count rest.1 is,
      (
        one,
        rest.0,
        did_by (λ h. Tallied h (part_walk h purpose query) (is_share workers number) one_refused one) (λ h. Tallied h (part_walk h purpose query) (is_share workers number) refused one) old new (λ v u. tallied_by (home old) (part_walk (home old) purpose query) (is_share workers number) one_refused refused one v u (λ t. is_refused ∙ first_of one_refused others_refused t)) first,
        adding_by (λ n own. Did is_ready home sees (λ h. Tallied h (part_walk h purpose query) (is_share workers n) others_refused own)) (λ n own. Did is_ready home sees (λ h. Tallied h (part_walk h purpose query) (is_share workers n) refused own)) rest.0 (number + 1) olds news
            (λ n c o m. did_by (λ h. Tallied h (part_walk h purpose query) (is_share workers n) others_refused c) (λ h. Tallied h (part_walk h purpose query) (is_share workers n) refused c) o m (λ v u. tallied_by (home o) (part_walk (home o) purpose query) (is_share workers n) others_refused refused c v u (λ t. is_refused ∙ second_of one_refused others_refused t))) rest.2,
        refl,
      ),
    )

    pub none_tallied : (purpose : Purpose) (number count : ℕ) (refused : Bool) → count ≡ 0 → EachTallied is_ready home sees query purpose workers refused count number [] []
    none_tallied purpose number count refused none = (0, none, refl)

-- what holds of all holds of the first and of the rest
pub all_first : {T : Type 0} (P : T → Type 0) (xs rest : List T) (x : T) → xs ≡ x ∷ rest → All P xs → P x
all_first P xs rest x is all = subst (All P) is all 0 x (omega arith)

pub first_tallied : {T A : Type 0} (is_ready : T → Type 0) (home : T → Home) (sees : T → Views → Type 0) (query : Query A) (workers : ℕ) (purpose : Purpose) (number one others count : ℕ) (one_refused others_refused refused : Bool) (old new last : T) (olds news lasts : List T)
    → last ≡ new → lasts ≡ news
    → Did is_ready home sees (λ h. Tallied h (part_walk h purpose query) (is_share workers number) one_refused one) old new
    → EachTallied is_ready home sees query purpose workers others_refused others (number + 1) olds news
    → count ≡ min (one + others) most_counted → refused ≡ (one_refused || others_refused)
    → EachTallied is_ready home sees query purpose workers refused count number (old ∷ olds) (last ∷ lasts)
first_tallied is_ready home sees query workers purpose number one others count one_refused others_refused refused old new last olds news lasts is_last are_last first rest is is_refused =
    rw (is_last, are_last) (both_tallied is_ready home sees query workers purpose number one others count one_refused others_refused refused old new olds news first rest is is_refused)

mapped : {X Y : Type 0} (f : X → Y) (ys : List X) (n : ℕ) → n < length ys → n < length (map f ys)
mapped f [] n less = absurd (omega (arith, less))
mapped f (y ∷ ys) zero less = omega arith
mapped f (y ∷ ys) (suc n) less = let rest = mapped f ys n (omega (arith, less)) in omega (arith, rest)

mapped_there : {X Y : Type 0} (f : X → Y) (e : Y) (ys : List X) (n : ℕ) (c : X) → n < length ys → f (get_or ys n c) ≡ get_or (map f ys) n e
mapped_there f e [] n c less = absurd (omega (arith, less))
mapped_there f e (y ∷ ys) zero c less = refl
mapped_there f e (y ∷ ys) (suc n) c less = mapped_there f e ys n c (omega (arith, less))

-- sessions of one table have as many parts
pub same_parts : {T : Type 0} (home : T → Home) (xs : List T) (d : T) (parts : ℕ) → AreOfOneTable (map home xs) → 0 < length xs → parts ≡ (home (get_or xs 0 d)).options.parts → (k : ℕ) (e : T) → k < length xs → (home (get_or xs k e)).options.parts ≡ parts
same_parts home [] d parts one some is k e inside = absurd (omega (arith, some))
same_parts home (x ∷ xs) d parts one some is zero e inside = sym is
same_parts home (x ∷ xs) d parts one some is (suc k) e inside =
    ap (λ (h : Home). h.options.parts) (mapped_there home (home e) xs k e (omega (arith, inside))) ∙ ap (λ (o : Options). o.parts) (one k (home e) (mapped home xs k (omega (arith, inside)))).0 ∙ sym is

-- joining the lists of a list
pub flat_lists : {X Y : Type 0} (given : X → List Y) (xs : List X) → flat_map given xs ≡ flat_map (λ list. list) (map given xs)
flat_lists given [] = refl
flat_lists given (x ∷ xs) = ap (λ ys. given x ++ ys) (flat_lists given xs)

-- what holds of each of two lists of members holds of each of the joined list
each_append : {T : Type 0} (P : ℕ → T → T → Type 0) (number later : ℕ) (xs ys us vs : List T) → later ≡ number + length xs → Each P number xs ys → Each P later us vs → Each P number (xs ++ us) (ys ++ vs)
each_append P number later [] [] us vs is first rest = subst (λ n. Each P n us vs) (is ∙ plus_none number) rest
  where
    plus_none : (n : ℕ) → n + 0 ≡ n
    plus_none n = omega arith
each_append P number later (x ∷ xs) (y ∷ ys) us vs is first rest =
    (first.0, each_append P (number + 1) later xs ys us vs (omega (arith, is)) first.1 rest)
each_append P number later [] (y ∷ ys) us vs is first rest = absurd first
each_append P number later (x ∷ xs) [] us vs is first rest = absurd first

module _ {T A X : Type 0} (is_ready : T → Type 0) (home : T → Home) (sees : T → Views → Type 0) (query : Query A) (workers : ℕ) (given : X → List (List Datum)) where
  one_answer : (number parts : ℕ) (mine theirs lists : X) (ones lasts olds news : List T) → length ones ≡ 1 → All (λ x. (home x).options.parts ≡ parts) ones
      → EachAnswers is_ready home sees query workers (given mine) number ones lasts
      → (length (given theirs) ≡ parts) × EachAnswers is_ready home sees query workers (given theirs) (number + 1) olds news
      → length (given lists) ≡ parts
      → AreJoined workers number parts (given mine) (given theirs) (given lists)
      → EachAnswers is_ready home sees query workers (given lists) number (ones ++ olds) (lasts ++ news)
  one_answer number parts mine theirs lists (x ∷ []) (y ∷ []) olds news single are first rest long joined =
      both_answer is_ready home sees query workers given number parts (let r : Result X (Unit {0}) = Ok mine in r) (let r : Result X (Unit {0}) = Ok theirs in r) (given lists) x y olds news (are 0 x (omega arith)) long first.0 rest joined
  one_answer number parts mine theirs lists (x ∷ []) [] olds news single are first rest long joined = absurd first
  one_answer number parts mine theirs lists (x ∷ []) (y ∷ z ∷ zs) olds news single are first rest long joined = absurd first.1
  one_answer number parts mine theirs lists [] lasts olds news single are first rest long joined = absurd (omega (arith, single))
  one_answer number parts mine theirs lists (x ∷ w ∷ ws) lasts olds news single are first rest long joined = absurd (omega (arith, single))

module _ {T A X E : Type 0} (is_ready : T → Type 0) (home : T → Home) (sees : T → Views → Type 0) (query : Query A) (workers : ℕ) (given : X → List (List Datum)) where
  -- what one member gathered, as a list of one
  pub one_gathered : (number : ℕ) (r : Result X E) (olds news : List T) (old new : T) → olds ≡ old ∷ [] → news ≡ new ∷ []
      → IfOk r (λ lists. length (given lists) ≡ (home old).options.parts)
      → is_ready new → home new ≡ home old
      → IfOk r (λ lists. Follows (sees old) (sees new) (λ v u. Works (home old) (part_walk (home old) Answers query) (is_share workers number) (answers_of (given lists)) v (home old).options.parts u))
      → IfErr r (λ _. Follows (sees old) (sees new) (Broken (home old) (part_walk (home old) Answers query) (is_share workers number)))
      → Gathered is_ready home sees query workers number given r olds news
  one_gathered number (Ok lists) olds news old new olds_are news_are long ready same done refused =
      rw (olds_are, news_are) (record { done = ((long, (ready, same, done)), tt); refused = tt })
  one_gathered number (Err e) olds news old new olds_are news_are long ready same done refused =
      rw (olds_are, news_are) (record { done = tt; refused = ((ready, same, refused), tt) })

  -- there are as many lists as parts
  pub one_long : (number parts : ℕ) (own : Result X E) (ones lasts : List T) → length ones ≡ 1 → All (λ x. (home x).options.parts ≡ parts) ones
      → IfOk own (λ mine. EachAnswers is_ready home sees query workers (given mine) number ones lasts) → IfOk own (λ mine. length (given mine) ≡ parts)
  one_long number parts (Ok mine) (x ∷ xs) (y ∷ ys) single are first = first.0.0 ∙ are 0 x (omega arith)
  one_long number parts (Ok mine) (x ∷ xs) [] single are first = absurd first
  one_long number parts (Ok mine) [] lasts single are first = absurd (omega (arith, single))
  one_long number parts (Err e) ones lasts single are first = tt

  pub ones_answer : {F : Type 0} (number parts : ℕ) (own others : Result X E) (r : Result X F) (ones lasts olds news all_olds all_news : List T)
      → all_olds ≡ ones ++ olds → all_news ≡ lasts ++ news → length ones ≡ 1 → All (λ x. (home x).options.parts ≡ parts) ones
      → Gathered is_ready home sees query workers number given own ones lasts
      → GatheredEach is_ready home sees query workers (number + 1) parts given others olds news
      → IfOk r (λ lists. length (given lists) ≡ parts)
      → IfOk r (λ lists. AreBothJoined given workers number parts own others (given lists))
      → IfOk r (λ lists. EachAnswers is_ready home sees query workers (given lists) number all_olds all_news)
  ones_answer number parts (Ok mine) (Ok theirs) (Ok lists) ones lasts olds news all_olds all_news olds_are news_are single are first rest long joined =
      rw (olds_are, news_are) (one_answer is_ready home sees query workers given number parts mine theirs lists ones lasts olds news single are first.done rest.done long joined)
  ones_answer number parts (Ok mine) (Err e) (Ok lists) ones lasts olds news all_olds all_news olds_are news_are single are first rest long joined = absurd joined
  ones_answer number parts (Err e) others (Ok lists) ones lasts olds news all_olds all_news olds_are news_are single are first rest long joined = absurd joined
  ones_answer number parts own others (Err f) ones lasts olds news all_olds all_news olds_are news_are single are first rest long joined = tt

  first_ones : (number : ℕ) (own : Result X E) (ones lasts : List T) → Gathered is_ready home sees query workers number given own ones lasts → EachBroken is_ready home sees query workers number ones lasts
  first_ones number (Ok mine) ones lasts first = rest_broken is_ready home sees query workers number (given mine) ones lasts first.done
  first_ones number (Err e) ones lasts first = first.refused

  pub ones_broken : {F : Type 0} (number parts : ℕ) (own others : Result X E) (r : Result X F) (ones lasts olds news all_olds all_news : List T)
      → all_olds ≡ ones ++ olds → all_news ≡ lasts ++ news → length ones ≡ 1
      → Gathered is_ready home sees query workers number given own ones lasts
      → GatheredEach is_ready home sees query workers (number + 1) parts given others olds news
      → IfErr r (λ _. EachBroken is_ready home sees query workers number all_olds all_news)
  ones_broken number parts own others (Ok lists) ones lasts olds news all_olds all_news olds_are news_are single first rest = tt
  ones_broken number parts own others (Err f) ones lasts olds news all_olds all_news olds_are news_are single first rest =
      rw (olds_are, news_are) (each_append (λ n. Did is_ready home sees (λ h. Broken h (part_walk h Answers query) (is_share workers n))) number (number + 1) ones lasts olds news (omega (arith, single))
      (first_ones number own ones lasts first)
      (others_broken is_ready home sees query workers given (number + 1) parts others olds news rest.done rest.refused))

  pub ones_answer_at : {F : Type 0} (number parts : ℕ) (own others : Result X E) (r : Result X F) (ones lasts olds news ends last_ends : List T)
      → ends ≡ lasts → last_ends ≡ news → length ones ≡ 1 → All (λ x. (home x).options.parts ≡ parts) ones
      → Gathered is_ready home sees query workers number given own ones lasts
      → GatheredEach is_ready home sees query workers (number + 1) parts given others olds news
      → IfOk r (λ lists. length (given lists) ≡ parts)
      → IfOk r (λ lists. AreBothJoined given workers number parts own others (given lists))
      → IfOk r (λ lists. EachAnswers is_ready home sees query workers (given lists) number (ones ++ olds) (ends ++ last_ends))
  ones_answer_at number parts own others r ones lasts olds news ends last_ends ends_are last_are single are first rest long joined =
      rw (ends_are, last_are) (ones_answer number parts own others r ones lasts olds news (ones ++ olds) (lasts ++ news) refl refl single are first rest long joined)

  pub ones_broken_at : {F : Type 0} (number parts : ℕ) (own others : Result X E) (r : Result X F) (ones lasts olds news ends last_ends : List T)
      → ends ≡ lasts → last_ends ≡ news → length ones ≡ 1
      → Gathered is_ready home sees query workers number given own ones lasts
      → GatheredEach is_ready home sees query workers (number + 1) parts given others olds news
      → IfErr r (λ _. EachBroken is_ready home sees query workers number (ones ++ olds) (ends ++ last_ends))
  ones_broken_at number parts own others r ones lasts olds news ends last_ends ends_are last_are single first rest =
      rw (ends_are, last_are) (ones_broken number parts own others r ones lasts olds news (ones ++ olds) (lasts ++ news) refl refl single first rest)
