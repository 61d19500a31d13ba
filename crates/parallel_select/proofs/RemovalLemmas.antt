-- What the members of a selection delete together is gone.
use Rattle.std.proofs.Common.{zero, suc, ◌≡◌, ℕ, ◌+◌, ◌<◌, ◌⊎◌, inl, inr, refl, ap, sym, subst, ◌∙◌, arith, List, [], ◌∷◌, ◌++◌, length}
use Rattle.std.specs.Prelude.{Bool, true, false, not, if◌then◌else◌, IsTrue, IsFalse, ◌%◌, All, Contains, None, Some, filter, get_or, map, slice_get, take, min}
use Rattle.std.proofs.lemmas.List.{take_more}
use Rattle.std.proofs.lemmas.List.Elements.{All-cons, All-head, All-nil, All-tail}
use Rattle.std.proofs.lemmas.Nat.{mod_below}
use Rattle.std.proofs.lemmas.Option.{slice_get_within, get_or_from_slice_get}
use Rattle.term_core.specs.Datum.{Datum}
use Rattle.term_core.specs.KeyHash.{key_hash}
use Rattle.mcode.specs.Answer.{answer_of}
use Rattle.part_core.specs.Acts.{Entry, History, next_in}
use Rattle.part_core.specs.Acts.Purpose.{Deletes}
use Rattle.part_core.specs.Content.{content}
use Rattle.part_core.specs.Covers.{covers}
use Rattle.part_core.specs.Legal.{IsLegal}
use Rattle.part_core.specs.Replies.{most_counted}
use Rattle.part_core.specs.Settings.{is_object, key_of}
use Rattle.part_core.specs.Visits.{is_true}
use Rattle.part_core.proofs.KeyLemmas.{by_test}
use Rattle.tables.specs.declared.options.Options.{Options}
use Rattle.tables.specs.Options.{settings_of}
use Rattle.tables.specs.Turns.{Home, Views}
use Rattle.walk_core.specs.Moments.{IsMoment, Mark, AreLegal, ArePlaced, answers_at}
use Rattle.walk_core.specs.Once.{IsVisitAt, content_at}
use Rattle.walk_core.specs.Walk.{Walk, IsWalk}
use Rattle.walk_core.proofs.OnceLemmas.{moment_takes, takes_nothing}
use Rattle.walk_core.proofs.StayedLemmas.{content_has}
use Rattle.walk_core.proofs.StepLemmas.{visit_entry}
use Rattle.walk_query.specs.declared.query.Query.{Query}
use Rattle.parallel_select.specs.Joined.{PartWalks, IsPartMoment, IsPartVisit, IsUnanswered, AreAt, FindTogether, RemoveTogether, TakeTheAnswers, part_answers_at, part_content_at, place_of, shared_walks}
use Rattle.parallel_select.specs.Workers.{EachTallied}
use Rattle.parallel_select.proofs.JoinLemmas.{counts_joined, some_parts}
use Rattle.parallel_select.proofs.WalkLemmas.{part_is_walk}

-- if the query returns true for no object, none is removed
none_taken : (test : Datum → Bool) (ts : List Datum) → All (λ t. test t ≡ false) ts → filter (λ t. not (test t)) ts ≡ ts
none_taken test [] none = refl
none_taken test (t ∷ ts) none =
    ap (λ (b : Bool). if not b then t ∷ filter (λ u. not (test u)) ts else filter (λ u. not (test u)) ts) (All-head (λ u. test u ≡ false) t ts none)
    ∙ ap (λ us. t ∷ us) (none_taken test ts (All-tail (λ u. test u ≡ false) t ts none))

none_true : (test : Datum → Bool) (ts : List Datum) → filter test ts ≡ [] → All (λ t. test t ≡ false) ts
none_true test [] none = All-nil (λ t. test t ≡ false)
none_true test (t ∷ ts) none = of (none_true test ts) (test t) refl
  where
    some_there : (us : List Datum) → t ∷ us ≡ [] → ⊥
    some_there us is = omega (arith, ap length is)

    of : (filter test ts ≡ [] → All (λ u. test u ≡ false) ts) → (b : Bool) → test t ≡ b → All (λ u. test u ≡ false) (t ∷ ts)
    of rest true is = absurd (some_there (filter test ts) (sym (ap (λ (c : Bool). if c then t ∷ filter test ts else filter test ts) is) ∙ none))
    of rest false is =
        All-cons (λ u. test u ≡ false) t ts is (rest (sym (ap (λ (c : Bool). if c then t ∷ filter test ts else filter test ts) is) ∙ none))

-- a key among the marks has a moment there
marked : (P : Mark → Type 0) (marks : List Mark) (k : Datum) → All P marks → Contains (map (λ (m : Mark). m.key) marks) k → (moment : ℕ) × Contains marks (record { key = k; moment = moment }) × P (record { key = k; moment = moment })
marked P [] k all (n, within, is) = absurd (omega (arith, within))
marked P (m ∷ marks) k all (zero, within, is) =
    subst (λ (j : Datum). (moment : ℕ) × Contains (m ∷ marks) (record { key = j; moment = moment }) × P (record { key = j; moment = moment })) is
    (m.moment, (0, omega arith, refl), All-head P m marks all)
marked P (m ∷ marks) k all (suc n, within, is) =
    let later = marked P marks k (All-tail P m marks all) (n, omega (arith, within), is) in
    (later.0, (suc later.1.0, omega (arith, later.1.1), later.1.2), later.2)

module _ {A : Type 0} (o : Options) (numbers : ℕ → ℕ) (q : Query A) (workers : ℕ) (before now : ℕ → Views) (found : List Datum)
    (f : FindTogether o numbers Deletes q workers before now found)
    (some : 0 < o.parts) (walk : (part : ℕ) → part < o.parts → IsWalk ((shared_walks o numbers Deletes q workers f.call now).walk part)) where
  abbrev ws : PartWalks
  ws = shared_walks o numbers Deletes q workers f.call now

  abbrev Took : Datum → ℕ → Type 0
  Took k place =
      (Contains f.answers.marks (record { key = k; moment = place })
      × (part_content_at o ws k (place + 1) ≡ filter (λ t. not (is_true q.code t)) (part_content_at o ws k place))
      × (part_answers_at o ws k place ≡ filter (is_true q.code) (part_content_at o ws k place)))
      ⊎ (part_content_at o ws k (place + 1) ≡ part_content_at o ws k place)

  inside : (k : Datum) → place_of o k < o.parts
  inside k = mod_below (key_hash k) o.parts some

  legal : (part : ℕ) → part < o.parts → AreLegal o (ws.now part)
  legal part within other below = ((f.within part within).1 other below).2

  -- no object of the key is answered true
  unanswered : (k : Datum) (place : ℕ) → ((t : Datum) → IsTrue (is_object (settings_of o) t) → key_of (settings_of o) t ≡ k → answer_of q.code t ≡ None) → All (λ t. is_true q.code t ≡ false) (part_content_at o ws k place)
  unanswered k place none n d within =
      let t = get_or (part_content_at o ws k place) n d in
      let is = (content_has (ws.walk (place_of o k)) (ws.now (place_of o k)) k place (walk (place_of o k) (inside k)) (legal (place_of o k) (inside k))).objects n d within in
      let silent = none t is.0 is.1 in
      rw silent refl

  taken : (k : Datum) (place : ℕ) → IsPartMoment o ws k place → part_content_at o ws k (place + 1) ≡ filter (λ t. not (is_true q.code t)) (part_content_at o ws k place)
  taken k place m = moment_takes (ws.walk (place_of o k)) (ws.call (place_of o k) ∷ []) (ws.now (place_of o k)) k place refl m

  at_moment : (k : Datum) (place : ℕ) → IsPartMoment o ws k place → Contains (map (λ (m : Mark). m.key) f.answers.marks) k ⊎ IsUnanswered o q.code ws k → Took k place
  at_moment k place m (inl among) =
      let there = marked (λ (l : Mark). IsPartMoment o ws l.key l.moment) f.answers.marks k f.answers.moments among in
      inl (subst (λ (n : ℕ). Contains f.answers.marks (record { key = k; moment = n })) (f.answers.once k there.0 place there.2 m) there.1, taken k place m, refl)
  at_moment k place m (inr (inl (other, is, none))) =
      let here = subst (λ (n : ℕ). part_answers_at o ws k n ≡ []) (f.answers.once k other place is m) none in
      inr (taken k place m ∙ none_taken (is_true q.code) (part_content_at o ws k place) (none_true (is_true q.code) (part_content_at o ws k place) here))
  at_moment k place m (inr (inr none)) =
      inr (taken k place m ∙ none_taken (is_true q.code) (part_content_at o ws k place) (unanswered k place none))

  pub taken_together : TakeTheAnswers o q.code ws f.answers.marks
  taken_together k place v =
      by_test (covers (settings_of o) v.scope (next_in v.said) k) _
      (λ covered. let m = moment covered in at_moment k place m (f.answers.silent k))
      (λ other. inr (ap (content (settings_of o) k) (one_more v.stands)
      ∙ takes_nothing (settings_of o) (take place log) w.number Deletes q.code v.scope v.wanted v.said k (λ same. other)))
    where
      w : Walk
      w = ws.walk (place_of o k)

      log : History
      log = ws.now (place_of o k) (place_of o k)

      moment : covers (settings_of o) v.scope (next_in v.said) k ≡ true → IsPartMoment o ws k place
      moment covered = record {
        call = v.call;
        made = v.made;
        within = v.within;
        entry = visit_entry w v.scope v.wanted v.said;
        stands = v.stands;
        visit = record { scope = v.scope; wanted = v.wanted; said = v.said; made = refl; covered = covered };
      }

      one_more : slice_get log place ≡ Some (visit_entry w v.scope v.wanted v.said) → take (place + 1) log ≡ take place log ++ visit_entry w v.scope v.wanted v.said ∷ []
      one_more stands =
          take_more log place (visit_entry w v.scope v.wanted v.said) (slice_get_within log place (visit_entry w v.scope v.wanted v.said) stands)
          ∙ ap (λ (d : Entry). take place log ++ d ∷ []) (get_or_from_slice_get log place (visit_entry w v.scope v.wanted v.said) (visit_entry w v.scope v.wanted v.said) stands)

module _ {T A : Type 0} (is_ready : T → Type 0) (home : T → Home) (sees : T → Views → Type 0)
    (fits : (s : T) → is_ready s → (0 < (home s).options.parts) × ((home s).number < (home s).options.sessions))
    (legal : (s : T) (v : Views) (part : ℕ) → is_ready s → sees s v → part < (home s).options.parts → IsLegal (settings_of (home s).options) (v part))
    (o : Options) (numbers : ℕ → ℕ) (q : Query A) (before : ℕ → Views) where
  -- the walk of each part is one of the member's table
  member_walks : (olds : List T) (d : T) → 0 < length olds → AreAt is_ready home sees o numbers before olds → (call : ℕ → _) (now : ℕ → Views) (part : ℕ) → part < o.parts → IsWalk ((shared_walks o numbers Deletes q (length olds) call now).walk part)
  member_walks olds d some at call now part inside =
      let n = part % length olds in
      let less = mod_below part (length olds) some in
      let t = get_or olds n d in
      let fit = fits t (at.ready n d less) in
      let is = at.home_of n d less in
      subst (λ (x : Options). IsWalk ((shared_walks x numbers Deletes q (length olds) call now).walk part)) is.0
      (subst (λ (m : ℕ). IsWalk ((shared_walks (home t).options (λ _. m) Deletes q (length olds) call now).walk part)) is.1
      (part_is_walk (home t) Deletes q part fit (subst (λ (x : Options). part < x.parts) (sym is.0) inside)))

  pub removals_joined : (count : ℕ) (olds news : List T) → 0 < length olds → AreAt is_ready home sees o numbers before olds
      → EachTallied is_ready home sees q Deletes (length olds) false count 0 olds news
      → (now : ℕ → Views) × (found : List Datum) × AreAt is_ready home sees o numbers now news
      × (count ≡ min (length found) most_counted)
      × (((n : ℕ) → n < length olds → ArePlaced o (now n))
      → RemoveTogether o numbers q (length olds) before now found)
  removals_joined count [] news some at each = absurd (omega (arith, some))
  removals_joined count (d ∷ ds) news some at each =
      let olds = d ∷ ds in
      let joined = counts_joined is_ready home sees fits legal o numbers q before Deletes count olds news some at each in (
        joined.0,
        joined.1,
        joined.2,
        joined.3,
        λ placed.
            let f = joined.4 placed in
            record {
              find = f;
              take = taken_together o numbers q (length olds) before joined.0 joined.1 f (some_parts is_ready home sees fits legal o numbers q before olds d some at) (member_walks olds d some at f.call joined.0);
            },
      )
