-- What the members of a selection find together.
use Rattle.std.proofs.Common.{◌≡◌, ℕ, ◌+◌, ◌<◌, ◌≤◌, ◌⊎◌, inl, inr, refl, ap, sym, subst, ◌∙◌, arith, List, [], ◌∷◌, ◌++◌, length}
use Rattle.std.specs.Prelude.{Bool, true, false, IsTrue, ◌&&◌, ◌%◌, All, AllPairs, Contains, Option, Some, None, option_map, filter, flat_map, get_or, map, min, nat_le, nat_lt}
use Rattle.std.proofs.lemmas.Bool.{eqb-true, eq-eqb, le-leb, lt-ltb}
use Rattle.std.proofs.lemmas.List.Elements.{All-head, All-tail, All-weaker}
use Rattle.std.proofs.lemmas.Nat.{mod_below}
use Rattle.term_core.specs.Datum.{Datum}
use Rattle.term_core.specs.KeyHash.{key_hash}
use Rattle.mcode.specs.Answer.{answer_of}
use Rattle.part_core.specs.Acts.{Purpose}
use Rattle.part_core.specs.Acts.Purpose.{Answers}
use Rattle.part_core.specs.Legal.{IsLegal}
use Rattle.part_core.specs.Replies.{most_counted}
use Rattle.part_core.specs.Settings.{is_object, key_of}
use Rattle.tables.specs.declared.options.Options.{Options}
use Rattle.tables.specs.Options.{settings_of}
use Rattle.tables.specs.Turns.{Home, Views}
use Rattle.walk_core.specs.Moments.{Span, span, IsMoment, IsMet, Mark, IsAnswer, IsGrown, ArePlaced, answers_at}
use Rattle.walk_core.specs.Once.{IsOnce}
use Rattle.walk_core.specs.Walk.{is_all, is_done, is_in_parts}
use Rattle.walk_core.specs.Walk.Position.{Over}
use Rattle.walk_query.specs.declared.query.Query.{Query}
use Rattle.walks.specs.Query.{plan_of}
use Rattle.parallel_select.specs.Joined.{PartWalks, IsPartMoment, IsUnanswered, AreAnswers, FindTogether, AreAt, part_answers_at, place_of, shared_walks}
use Rattle.parallel_select.specs.Laws.{IsAnsweredWithin, IsWell}
use Rattle.parallel_select.specs.Parts.{answers_of, is_share, number_gained, part_walk, stands_in, walk_through, Works}
use Rattle.parallel_select.specs.Workers.{Did, EachAnswers, EachTallied, Tallied}
use Rattle.parallel_select.proofs.KeyLemmas.{named_there}
use Rattle.parallel_select.proofs.LawLemmas.{parts_answered}
use Rattle.parallel_select.proofs.MemberLemmas.{adding, adding_first, chosen, each_first, each_long, lists_below, same_there, total_capped, total_gained}
use Rattle.parallel_select.proofs.StretchLemmas.{Stretch, gained_below, stretch_below}
use Rattle.parallel_select.proofs.WalkLemmas.{in_part}

and_true : (a b : Bool) → a ≡ true → b ≡ true → (a && b) ≡ true
and_true a b first second = rw (first, second) refl

flat_same : {M X : Type 0} (f g : M → List X) (ms : List M) → All (λ m. f m ≡ g m) ms → flat_map f ms ≡ flat_map g ms
flat_same f g [] all = refl
flat_same f g (m ∷ ms) all =
    ap (λ xs. xs ++ flat_map f ms) (All-head (λ x. f x ≡ g x) m ms all) ∙ ap (λ xs. g m ++ xs) (flat_same f g ms (All-tail (λ x. f x ≡ g x) m ms all))

all_pairs : {M : Type 0} (P : M → Type 0) (R : M → M → Type 0) (ms : List M) → ((l m : M) → P l → P m → R l m) → All P ms → AllPairs R ms
all_pairs P R ms of all i j d lt within = of _ _ (all i d (omega (arith, lt, within))) (all j d within)

-- ---- the walk of one part

module _ {A : Type 0} (o : Options) (number : ℕ) (purpose : Purpose) (q : Query A) (part : ℕ) where
  -- the keys that the walk does are in the part
  done_there : (k : Datum) → IsTrue (is_done (walk_through o number purpose q part) Over k) → place_of o k ≡ part
  done_there k = of (plan_of q o)
    where
      of : (plan : Option (List Datum)) → IsTrue (is_all (walk_through o number purpose q part) (option_map (filter (stands_in o part)) plan) k) → place_of o k ≡ part
      of None inside = eqb-true (place_of o k) part (in_part o part k inside)
      of (Some ks) among = eqb-true (place_of o k) part (named_there (stands_in o part) k ks among)

  there_inside : (k : Datum) → place_of o k ≡ part → IsTrue (is_in_parts (walk_through o number purpose q part) (part + 1) k)
  there_inside k is =
      and_true (nat_le part (place_of o k)) (nat_lt (place_of o k) (part + 1)) (le-leb part (place_of o k) (omega (arith, is))) (lt-ltb (place_of o k) (part + 1) (omega (arith, is)))

-- ---- the walk's answer, among those of all parts

module _ {A : Type 0} (o : Options) (numbers : ℕ → ℕ) (purpose : Purpose) (q : Query A) (workers : ℕ) (call : ℕ → Span) (now : ℕ → Views) where
  abbrev walks : PartWalks
  walks = shared_walks o numbers purpose q workers call now

  moment_there : (part : ℕ) (k : Datum) (moment : ℕ) → place_of o k ≡ part → IsMoment (walks.walk part) (call part ∷ []) (walks.now part) k moment → IsPartMoment o walks k moment
  moment_there part k moment is made =
      subst (λ (at : ℕ). IsMoment (walks.walk at) (call at ∷ []) (walks.now at) k moment) (sym is) made

  moment_here : (part : ℕ) (k : Datum) (moment : ℕ) → place_of o k ≡ part → IsPartMoment o walks k moment → IsMoment (walks.walk part) (call part ∷ []) (walks.now part) k moment
  moment_here part k moment is made =
      subst (λ (at : ℕ). IsMoment (walks.walk at) (call at ∷ []) (walks.now at) k moment) is made

  answers_there : (part : ℕ) (k : Datum) (moment : ℕ) → place_of o k ≡ part → answers_at (walks.walk part) (walks.now part) k moment ≡ part_answers_at o walks k moment
  answers_there part k moment is = ap (λ (at : ℕ). answers_at (walks.walk at) (walks.now at) k moment) (sym is)

  abbrev Gained : ℕ → ℕ → List Datum → Type 0
  Gained = Stretch (λ (m : Mark). m.key) (place_of o) (λ (m : Mark). IsPartMoment o walks m.key m.moment) (λ (m : Mark). part_answers_at o walks m.key m.moment) (IsUnanswered o q.code walks)

  part_gained : (part : ℕ) (found : List Datum) → IsAnswer (walks.walk part) (call part ∷ []) (walks.now part) found → Gained part (part + 1) found
  part_gained part found answer =
      let g = answer.gathers in
      let there : All (λ (m : Mark). place_of o m.key ≡ part) g.marks
      = All-weaker (λ (m : Mark). IsTrue (is_done (walks.walk part) Over m.key)) (λ (m : Mark). place_of o m.key ≡ part) (λ m done. done_there o (numbers (part % workers)) purpose q part m.key done) g.marks g.inside in
      record {
        marks = g.marks;
        apart = g.apart;
        ordered = all_pairs (λ (m : Mark). place_of o m.key ≡ part) (λ (l m : Mark). place_of o l.key ≤ place_of o m.key) g.marks (λ l m one two. omega (arith, one, two)) there;
        inside = All-weaker (λ (m : Mark). place_of o m.key ≡ part) (λ (m : Mark). (part ≤ place_of o m.key) × (place_of o m.key < part + 1)) (λ m is. (omega (arith, is), omega (arith, is))) g.marks there;
        moments = λ n d within. moment_there part (get_or g.marks n d).key (get_or g.marks n d).moment (there n d within) (g.moments n d within);
        sum = g.sum ∙ flat_same (λ (m : Mark). answers_at (walks.walk part) (walks.now part) m.key m.moment) (λ (m : Mark). part_answers_at o walks m.key m.moment) g.marks (λ n d within. answers_there part (get_or g.marks n d).key (get_or g.marks n d).moment (there n d within));
        silent = λ k low high. let is : place_of o k ≡ part = omega (arith, low, high) in of k is (answer.all k (there_inside o (numbers (part % workers)) purpose q part k is));
      }
    where
      met : (k : Datum) → place_of o k ≡ part → IsMet (walks.walk part) (call part ∷ []) (walks.now part) answer.gathers.marks k → Contains (map (λ (m : Mark). m.key) answer.gathers.marks) k ⊎ IsUnanswered o q.code walks k
      met k is (inl among) = inl among
      met k is (inr m) = inr (inl (m.0, moment_there part k m.0 is m.1, sym (answers_there part k m.0 is) ∙ m.2))

      of : (k : Datum) → place_of o k ≡ part → IsTrue (is_done (walks.walk part) Over k) ⊎ ((t : Datum) → IsTrue (is_object (settings_of o) t) → key_of (settings_of o) t ≡ k → answer_of q.code t ≡ None) → Contains (map (λ (m : Mark). m.key) answer.gathers.marks) k ⊎ IsUnanswered o q.code walks k
      of k is (inl done) = met k is (answer.gathers.silent k done)
      of k is (inr none) = inr (inr none)

  -- the answers of all parts are those that the walks found together
  pub all_gained : (gained : ℕ → List Datum) → 0 < o.parts
      → ((part : ℕ) → part < o.parts → IsAnswer (walks.walk part) (call part ∷ []) (walks.now part) (gained part) × IsOnce (walks.walk part) (call part ∷ []) (walks.now part) (is_done (walks.walk part) Over))
      → AreAnswers o q.code walks (gained_below gained o.parts)
  all_gained gained some each =
      let all = stretch_below (λ (m : Mark). m.key) (place_of o) (λ (m : Mark). IsPartMoment o walks m.key m.moment) (λ (m : Mark). part_answers_at o walks m.key m.moment) (IsUnanswered o q.code walks) o.parts gained (λ part inside. part_gained part (gained part) (each part inside).0) o.parts (omega arith) in
      record {
        marks = all.marks;
        apart = all.apart;
        ordered = all.ordered;
        moments = all.moments;
        sum = all.sum;
        silent = λ k. all.silent k (omega arith) (mod_below (key_hash k) o.parts some);
        once = λ k m n one two. (each (place_of o k) (mod_below (key_hash k) o.parts some)).1.once k m n one two;
      }

-- ---- what each worker did

-- a worker's session, and what its walks gained
record Worked {A : Type 0} (o : Options) (number : ℕ) (purpose : Purpose) (q : Query A) (workers place : ℕ) (gained : ℕ → List Datum) (v u : Views) : Type 0 where
  h : Home
  options : h.options ≡ o
  number_is : h.number ≡ number
  well : IsWell h v
  works : Works h (part_walk h purpose q) (is_share workers place) gained v h.options.parts u

module _ {A : Type 0} (o : Options) (number : ℕ) (purpose : Purpose) (q : Query A) (workers : ℕ) (gained : ℕ → List Datum) (v u : Views) where
  worker_answers : (part : ℕ) → part < o.parts → ArePlaced o u → Worked o number purpose q workers (part % workers) gained v u → IsAnsweredWithin (walk_through o number purpose q part) (gained part) v u
  worker_answers part inside placed w =
      let within : part < w.h.options.parts = subst (λ (x : Options). part < x.parts) (sym w.options) inside in
      subst (λ (x : Options). IsAnsweredWithin (walk_through x number purpose q part) (gained part) v u) w.options
      (subst (λ (n : ℕ). IsAnsweredWithin (walk_through w.h.options n purpose q part) (gained part) v u) w.number_is
      (parts_answered w.h purpose q (is_share workers (part % workers)) gained v w.well w.h.options.parts u (subst (λ (x : Options). ArePlaced x u) (sym w.options) placed) w.works part within within (eq-eqb (part % workers) (part % workers) refl)))

module _ {A : Type 0} (o : Options) (numbers : ℕ → ℕ) (purpose : Purpose) (q : Query A) (workers : ℕ) (gained : ℕ → ℕ → List Datum) (before now : ℕ → Views) where
  -- a walk has its answer within this call, and covers each key once
  record IsInCall (part : ℕ) (call : Span) : Type 0 where
    begins : IsGrown o (before (part % workers)) call.before
    ends : IsGrown o call.after (now (part % workers))
    answer : IsAnswer (walk_through o (numbers (part % workers)) purpose q part) (call ∷ []) (now (part % workers)) (gained (part % workers) part)
    once : IsOnce (walk_through o (numbers (part % workers)) purpose q part) (call ∷ []) (now (part % workers)) (is_done (walk_through o (numbers (part % workers)) purpose q part) Over)

  found_together : 0 < workers → 0 < o.parts
      → ((n : ℕ) → n < workers → ArePlaced o (now n))
      → ((n : ℕ) → n < workers → Worked o (numbers n) purpose q workers n (gained n) (before n) (now n))
      → FindTogether o numbers purpose q workers before now (gained_below (λ part. gained (part % workers) part) o.parts)
  found_together some parts placed worked =
      let calls = chosen o.parts (span (before 0) (now 0)) IsInCall (λ part inside.
      let at = mod_below part workers some in
      let a = worker_answers o (numbers (part % workers)) purpose q workers (gained (part % workers)) (before (part % workers)) (now (part % workers)) part inside (placed (part % workers) at) (worked (part % workers) at) in
      (span a.before a.after, record { begins = a.begins; ends = a.ends; answer = a.answer; once = a.once })) in
      record {
        call = calls.0;
        within = λ part inside. let c = calls.1 part inside in (c.begins, c.ends);
        answers = all_gained o numbers purpose q workers calls.0 now (λ part. gained (part % workers) part) parts (λ part inside. let c = calls.1 part inside in (c.answer, c.once));
      }

-- ---- from what the calls ensure

module _ {T A : Type 0} (is_ready : T → Type 0) (home : T → Home) (sees : T → Views → Type 0)
    (fits : (s : T) → is_ready s → (0 < (home s).options.parts) × ((home s).number < (home s).options.sessions))
    (legal : (s : T) (v : Views) (part : ℕ) → is_ready s → sees s v → part < (home s).options.parts → IsLegal (settings_of (home s).options) (v part))
    (o : Options) (numbers : ℕ → ℕ) (q : Query A) (before : ℕ → Views) where
  -- members that can still make turns, at the same table with the same numbers
  still_at : (olds news : List T) (d : T) (now : ℕ → Views) → length news ≡ length olds → AreAt is_ready home sees o numbers before olds
      → ((n : ℕ) → n < length olds → is_ready (get_or news n d) × (home (get_or news n d) ≡ home (get_or olds n d)) × sees (get_or news n d) (now n))
      → AreAt is_ready home sees o numbers now news
  still_at olds news d now long at each = record {
    ready = λ n e within. subst is_ready (same_there news n d e within) (each n (omega (arith, long, within))).0;
    home_of = λ n e within.
        let less : n < length olds = omega (arith, long, within) in
        subst (λ (t : T). ((home t).options ≡ o) × ((home t).number ≡ numbers n)) (same_there news n d e within)
        (subst (λ (h : Home). (h.options ≡ o) × (h.number ≡ numbers n)) (sym (each n less).1) (at.home_of n d less));
    seen = λ n e within. subst (λ (t : T). sees t (now n)) (same_there news n d e within) (each n (omega (arith, long, within))).2;
  }

  worked_of : (olds : List T) (d : T) (purpose : Purpose) (workers n : ℕ) (gained : ℕ → List Datum) (u : Views) → n < length olds → AreAt is_ready home sees o numbers before olds
      → Works (home (get_or olds n d)) (part_walk (home (get_or olds n d)) purpose q) (is_share workers n) gained (before n) (home (get_or olds n d)).options.parts u
      → Worked o (numbers n) purpose q workers n gained (before n) u
  worked_of olds d purpose workers n gained u less at works =
      let t = get_or olds n d in
      let fit = fits t (at.ready n d less) in
      record {
        h = home t;
        options = (at.home_of n d less).0;
        number_is = (at.home_of n d less).1;
        well = record { parts = fit.0; number = fit.1; legal = λ part inside. legal t (before n) part (at.ready n d less) (at.seen n d less) inside };
        works = works;
      }

  pub some_parts : (olds : List T) (d : T) → 0 < length olds → AreAt is_ready home sees o numbers before olds → 0 < o.parts
  some_parts olds d some at =
      subst (λ (x : Options). 0 < x.parts) (at.home_of 0 d some).0 (fits (get_or olds 0 d) (at.ready 0 d some)).0

  -- what select_parts guarantees of one member
  abbrev AnsweredBy : List (List Datum) → ℕ → ℕ → T → T → Type 0
  AnsweredBy lists workers n old new =
      (length lists ≡ (home old).options.parts)
      × Did is_ready home sees (λ h v u. Works h (part_walk h Answers q) (is_share workers n) (answers_of lists) v h.options.parts u) old new

  pub parts_joined : (lists : List (List Datum)) (olds news : List T) → 0 < length olds → AreAt is_ready home sees o numbers before olds
      → EachAnswers is_ready home sees q (length olds) lists 0 olds news
      → (now : ℕ → Views) × AreAt is_ready home sees o numbers now news
      × (((n : ℕ) → n < length olds → ArePlaced o (now n))
      → FindTogether o numbers Answers q (length olds) before now (flat_map (λ list. list) lists))
  parts_joined lists [] news some at each = absurd (omega (arith, some))
  parts_joined lists (d ∷ ds) news some at each =
      let olds = d ∷ ds in
      let workers = length olds in
      let here = each_first (AnsweredBy lists workers) olds news each in
      let views = chosen workers (λ part. []) (λ n u. sees (get_or news n d) u × Works (home (get_or olds n d)) (part_walk (home (get_or olds n d)) Answers q) (is_share workers n) (answers_of lists) (before n) (home (get_or olds n d)).options.parts u)
      (λ n less. let did = (here n d d less).1.2 (before n) (at.seen n d less) in (did.0, (did.1, did.2))) in
      let long : length lists ≡ o.parts = (here 0 d d some).0 ∙ ap (λ (x : Options). x.parts) (at.home_of 0 d some).0 in (
        views.0,
        still_at olds news d views.0 (each_long (AnsweredBy lists workers) 0 olds news each) at (λ n less. ((here n d d less).1.0, (here n d d less).1.1, (views.1 n less).0)),
        λ placed.
            subst (λ (found : List Datum). FindTogether o numbers Answers q workers before views.0 found)
            (ap (gained_below (answers_of lists)) (sym long) ∙ lists_below lists)
            (found_together o numbers Answers q workers (λ n. answers_of lists) before views.0 some (some_parts olds d some at) placed
            (λ n less. worked_of olds d Answers workers n (answers_of lists) (views.0 n) less at (views.1 n less).1)),
      )

  -- what count_parts and delete_parts guarantee of one member
  abbrev CountedBy : Purpose → ℕ → ℕ → ℕ → T → T → Type 0
  CountedBy purpose workers n count old new =
      Did is_ready home sees (λ h. Tallied h (part_walk h purpose q) (is_share workers n) false count) old new

  -- what a worker saw at the end, and what it gained
  record Tally (purpose : Purpose) (workers n count : ℕ) (old new : T) (t : Views × (ℕ → List Datum)) : Type 0 where
    seen : sees new t.0
    works : Works (home old) (part_walk (home old) purpose q) (is_share workers n) t.1 (before n) (home old).options.parts t.0
    number : count ≡ min (number_gained (is_share workers n) t.1 (home old).options.parts) most_counted

  pub counts_joined : (purpose : Purpose) (count : ℕ) (olds news : List T) → 0 < length olds → AreAt is_ready home sees o numbers before olds
      → EachTallied is_ready home sees q purpose (length olds) false count 0 olds news
      → (now : ℕ → Views) × (found : List Datum) × AreAt is_ready home sees o numbers now news
      × (count ≡ min (length found) most_counted)
      × (((n : ℕ) → n < length olds → ArePlaced o (now n))
      → FindTogether o numbers purpose q (length olds) before now found)
  counts_joined purpose count [] news some at each = absurd (omega (arith, some))
  counts_joined purpose count (d ∷ ds) news some at each =
      let olds = d ∷ ds in
      let workers = length olds in
      let adds = adding (CountedBy purpose workers) each.0 0 olds news each.2 in
      let here = adding_first (CountedBy purpose workers) each.0 olds news adds in
      let tallies = chosen workers ((λ part. []), (λ part. [])) (λ n t. Tally purpose workers n (adds.counts n) (get_or olds n d) (get_or news n d) t)
      (λ n less.
      let did = (here n d d less).2 (before n) (at.seen n d less) in
      ((did.0, did.2.0), record { seen = did.1; works = did.2.1; number = did.2.2 })) in
      let now = λ (n : ℕ). (tallies.0 n).0 in
      let gained = λ (n : ℕ). (tallies.0 n).1 in
      let parts = some_parts olds d some at in
      let capped = total_capped most_counted adds.counts (λ n. number_gained (is_share workers n) (gained n) o.parts) workers
      (λ n less. subst (λ (x : Options). adds.counts n ≡ min (number_gained (is_share workers n) (gained n) x.parts) most_counted) (at.home_of n d less).0 (tallies.1 n less).number) in
      let whole = total_gained workers gained (λ part. mod_below part workers some) o.parts in (
        now,
        gained_below (λ part. gained (part % workers) part) o.parts,
        still_at olds news d now adds.long at (λ n less. ((here n d d less).0, (here n d d less).1, (tallies.1 n less).seen)),
        each.1 ∙ ap (λ (k : ℕ). min k most_counted) adds.sum ∙ capped ∙ ap (λ (k : ℕ). min k most_counted) whole,
        λ placed.
            found_together o numbers purpose q workers gained before now some parts placed
            (λ n less. worked_of olds d purpose workers n (gained n) (now n) less at (tallies.1 n less).works),
      )
