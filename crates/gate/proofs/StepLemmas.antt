-- Each step preserves the gate's rule.
use Rattle.std.proofs.Common.{◌≡◌, ◌≢◌, ℕ, zero, suc, ◌==◌, ◌≤◌, ◌⊎◌, inl, inr, ◌++◌, List, [], ◌∷◌, set, refl, ap, sym, subst, ◌∙◌, arith, ⊎_elim, ne_eqb, MatchBool}
use Rattle.std.specs.Prelude.{slice_set, slice_index}
use mathlib.Core.Option.{none, some, some-ne-none, some-injective}
use lib.ListN.{get_elem?}
use prog.Atomic.{either}
use Rattle.std.proofs.lemmas.List.{append-nil}
use Rattle.atomic_table.specs.Table.{State, Me, Step, keeps, takes, gives, stepped, Allows, Splits, Joins, opening, Final, Seen}
use Rattle.atomic_table.proofs.Lists.{at_set, set_again, exchanged}
use Rattle.part_core.specs.declared.settings.Settings.{Settings}
use Rattle.part_core.specs.Acts.{History}
use Rattle.gate.specs.declared.view.Role.{Role}
use Rattle.gate.specs.declared.view.Role.TheVariants.{Session, Holder, Note}
use Rattle.gate.specs.declared.view.View.{View}
use Rattle.gate.specs.Views.{own, IsLeft}
use Rattle.gate.specs.Rule.{Has, Holds, number_of, opener, seer, holder, Fits, AreFit, AreApart, OneHolds, IsHome, IsOut, IsKept, Keeps}
use Rattle.gate.specs.Steps.{IsTaken, IsHeld, Takes, PutsBack, Compares, note_of, told_of, empty_note, opener_after, first_view}
use Rattle.gate.proofs.HistoryLemmas.{own_kept, own_rest, goes_on_more, both_begin}
use Rattle.gate.proofs.SeatLemmas.{fit_set, apart_set, nobody_set, one_set, one_kept, fit_more, apart_more, nobody_more, one_more}

-- a session's number is that of its view
session_has : (r : Role) (n k : ℕ) → r ≡ Session n → number_of r ≡ k → Has r k
session_has r n k is h = subst (λ (x : Role). number_of x ≡ k → Has x k) (sym is) (λ g. g) h

holder_has : (r : Role) (n k : ℕ) → r ≡ Holder n → number_of r ≡ k → Has r k
holder_has r n k is h = subst (λ (x : Role). number_of x ≡ k → Has x k) (sym is) (λ g. g) h

session_frees : (r : Role) (n : ℕ) → r ≡ Session n → ¬ (Holds r)
session_frees r n is holds = subst Holds is holds

note_frees : (r : Role) → r ≡ Note → ¬ (Holds r)
note_frees r is holds = subst Holds is holds

only_first : (v w : View) (i : ℕ) → get_elem? (v ∷ []) i ≡ some w → (i ≡ 0) × (v ≡ w)
only_first v w zero e = (refl, some-injective v w e)
only_first v w (suc i) e = absurd (some-ne-none w (sym e))

-- an attempt to take the part never leaves the word 0
pub tried : (k : ℕ) → either (k == 0) 1 k ≢ 0
tried k = exchanged k 0 1 (λ (x : ℕ). x ≢ 0) (λ same one. absurd (omega (arith, one))) (λ apart. apart)

pub waited : (k : ℕ) → ◌≢◌ {A = ℕ} 2 0
waited k e = absurd (omega (arith, e))

module _ {P : Type 0} (settings : P → Settings) (IsAfter : P → History → Type 0) (o : Settings) where
  abbrev Holding : State P View → Type 0
  Holding = Keeps settings IsAfter o

  abbrev with_views : State P View → List View → State P View
  with_views s views = record { words = s.words; homes = s.homes; views = views }

  abbrev Place : State P View → History → Type 0
  Place s log = IsHome settings IsAfter o s log ⊎ IsOut settings IsAfter o s log

  -- ---- a view that holds nothing changes, or is added

  place_set : (s : State P View) (log : History) (id : ℕ) (v w : View) → get_elem? s.views id ≡ some v → ¬ (Holds v.role) → ¬ (Holds w.role)
      → Place s log → Place (with_views s (set s.views id w)) log
  place_set s log id v w at before now (inl h) = inl (record { part = h.part; word = h.word; slot = h.slot; settled = h.settled; after = h.after; nobody = nobody_set s.views id v w at now (λ i u apart e. h.nobody i u e) })
  place_set s log id v w at before now (inr h) = inr (record { found = h.found; word = h.word; out = h.out; slot = h.slot; one = one_kept s.views id v w at log h.one before now })

  kept_set : (s : State P View) (log : History) (id : ℕ) (v w : View) → get_elem? s.views id ≡ some v → ¬ (Holds v.role) → ¬ (Holds w.role)
      → Fits o log w → ((n : ℕ) → Has w.role n → Has v.role n)
      → IsKept settings IsAfter o s log → IsKept settings IsAfter o (with_views s (set s.views id w)) log
  kept_set s log id v w at before now fits numbers kept = record {
    fit = fit_set s.views id v w at o log (λ i u apart e. kept.fit i u e) fits;
    apart = apart_set s.views id v w at kept.apart numbers;
    place = place_set s log id v w at before now kept.place;
  }

  place_more : (s : State P View) (log : History) (w : View) → ¬ (Holds w.role) → Place s log → Place (with_views s (s.views ++ w ∷ [])) log
  place_more s log w now (inl h) = inl (record { part = h.part; word = h.word; slot = h.slot; settled = h.settled; after = h.after; nobody = nobody_more s.views w h.nobody now })
  place_more s log w now (inr h) = inr (record { found = h.found; word = h.word; out = h.out; slot = h.slot; one = one_more s.views w log h.one now })

  kept_more : (s : State P View) (log : History) (w : View) → ¬ (Holds w.role) → Fits o log w
      → ((i : ℕ) (u : View) (n : ℕ) → get_elem? s.views i ≡ some u → Has u.role n → ¬ (Has w.role n))
      → IsKept settings IsAfter o s log → IsKept settings IsAfter o (with_views s (s.views ++ w ∷ [])) log
  kept_more s log w now fits new kept = record {
    fit = fit_more s.views w o log kept.fit fits;
    apart = apart_more s.views w kept.apart new;
    place = place_more s log w now kept.place;
  }

  -- ---- the part is taken out

  pub take_keeps : (slots id : ℕ) (v : View) (n : ℕ) (st : Step P) (f : ℕ → ℕ) → v.role ≡ Session n → ((k : ℕ) → f k ≢ 0)
      → Allows Holding slots id (v, []) 0 f (Takes settings IsAfter st (v, []))
  take_keeps slots id v n st f is never s kept count at small = of kept.1.place
    where
      log : History
      log = kept.0

      fit : Fits o log v
      fit = kept.1.fit id v at

      rest : History
      rest = fit.seen.0

      grown : log ≡ v.seen ++ rest
      grown = fit.seen.1

      has : (k : ℕ) → number_of v.role ≡ k → Has v.role k
      has k h = session_has v.role n k is h

      w : View
      w = holder v (v.seen ++ rest)

      others : own (number_of v.role) rest ≡ []
      others = own_rest (number_of v.role) v.seen rest (sym (ap (own (number_of v.role)) grown) ∙ fit.whole (number_of v.role) (has (number_of v.role) refl))

      fits : Fits o log w
      fits = record { knows = λ k h. fit.knows k (has k h); seen = ([], grown ∙ sym (append-nil (v.seen ++ rest))); told = fit.told; whole = λ k h. ap (own k) grown }

      found : ℕ
      found = slice_index s.words 0

      of : Place s log → (w : View) × (a : _) × Rattle.atomic_table.specs.Table.Valid s.homes [] a × Holding (stepped s 0 (f found) id [] w a)
          × Takes settings IsAfter st (v, []) found (w, Rattle.atomic_table.specs.Table.carried_after [] a)
      of (inl h) = (
        w,
        takes 0 h.part,
        ap (λ (hs : List _). get_elem? hs 0) h.slot,
        (
          log,
          record {
            fit = fit_set s.views id v w at o log (λ i u apart e. kept.1.fit i u e) fits;
            apart = apart_set s.views id v w at kept.1.apart has;
            place = inr (record {
              found = f found;
              word = ap (λ (ws : List ℕ). slice_set ws 0 (f found)) h.word;
              out = never found;
              slot = ap (λ (hs : List _). slice_set hs 0 none) h.slot;
              one = one_set s.views id v w at log h.nobody tt (sym grown);
            });
          },
        ),
        (let zero_found : found ≡ 0 = ap (λ (ws : List ℕ). slice_index ws 0) h.word in
            let me : Me P View = (v, []) in
            let now : Me P View = (w, (0, h.part) ∷ []) in
            subst (λ (k : ℕ). MatchBool (k == 0) (IsTaken settings IsAfter me now) (now ≡ me)) (sym zero_found)
            (record {
              part = h.part;
              between = rest;
              others = others;
              view = refl;
              settled = h.settled ∙ sym (fit.knows (number_of v.role) (has (number_of v.role) refl));
              after = subst (IsAfter h.part) grown h.after;
            })),
      )
      of (inr h) =
          let again = set_again s.views id v at in (
            v,
            keeps,
            tt,
            (
              log,
              record {
                fit = subst (AreFit o log) (sym again) kept.1.fit;
                apart = subst AreApart (sym again) kept.1.apart;
                place = inr (record {
                  found = f found;
                  word = ap (λ (ws : List ℕ). slice_set ws 0 (f found)) h.word;
                  out = never found;
                  slot = h.slot;
                  one = subst (OneHolds log) (sym again) h.one;
                });
              },
            ),
            (let out_found : found ≡ h.found = ap (λ (ws : List ℕ). slice_index ws 0) h.word in
                let me : Me P View = (v, []) in
                subst (λ (k : ℕ). MatchBool (k == 0) (IsTaken settings IsAfter me me) (me ≡ me)) (sym out_found)
                (subst (λ b. MatchBool b (IsTaken settings IsAfter me me) (me ≡ me)) (sym (ne_eqb h.found 0 h.out)) refl)),
          )

  pub take_as : (slots id : ℕ) (me : Me P View) (n : ℕ) (st : Step P) (f : ℕ → ℕ) → me.0.role ≡ Session n → me.1 ≡ [] → ((k : ℕ) → f k ≢ 0)
      → Allows Holding slots id me 0 f (Takes settings IsAfter st me)
  take_as slots id me n st f is empty never =
      subst (λ (c : List (ℕ × P)). Allows Holding slots id (me.0, c) 0 f (Takes settings IsAfter st (me.0, c))) (sym empty) (take_keeps slots id me.0 n st f is never)

  -- ---- the part is put back

  pub put_keeps : (slots id : ℕ) (v : View) (n : ℕ) (p : P) (more : History) (st : Step P) → v.role ≡ Holder n → ((k : ℕ) → n ≢ k → own k more ≡ [])
      → settings p ≡ v.settings → IsAfter p (v.seen ++ more)
      → Allows Holding slots id (v, (0, p) ∷ []) 0 (λ _. 0) (PutsBack more st (v, (0, p) ∷ []))
  put_keeps slots id v n p more st is alone settled after s kept count at small = of kept.1.place
    where
      log : History
      log = kept.0

      fit : Fits o log v
      fit = kept.1.fit id v at

      holds : Holds v.role
      holds = subst Holds (sym is) tt

      has : (k : ℕ) → number_of v.role ≡ k → Has v.role k
      has k h = holder_has v.role n k is h

      w : View
      w = seer v (v.seen ++ more)

      of : Place s log → (w : View) × (a : _) × Rattle.atomic_table.specs.Table.Valid s.homes ((0, p) ∷ []) a × Holding (stepped s 0 0 id ((0, p) ∷ []) w a)
          × PutsBack more st (v, (0, p) ∷ []) (slice_index s.words 0) (w, Rattle.atomic_table.specs.Table.carried_after ((0, p) ∷ []) a)
      of (inl h) = absurd (h.nobody id v at holds)
      of (inr h) =
          let here : id ≡ h.one.seat = h.one.only id v at holds in
          let same_view : h.one.view ≡ v = some-injective h.one.view v (sym h.one.there ∙ ap (get_elem? s.views) (sym here) ∙ at) in
          let same : v.seen ≡ log = ap (λ (u : View). u.seen) (sym same_view) ∙ h.one.seen in
          let longer : v.seen ++ more ≡ log ++ more = ap (λ (es : History). es ++ more) same in (
            w,
            gives,
            tt,
            (
              log ++ more,
              record {
                fit = fit_set s.views id v w at o (log ++ more)
                    (λ i u apart e.
                    let f = kept.1.fit i u e in
                    record {
                      knows = f.knows;
                      seen = goes_on_more u.seen log more f.seen;
                      told = goes_on_more u.told log more f.told;
                      whole = λ k mine. own_kept k log more (alone k (λ (me : n ≡ k). apart (kept.1.apart i id u v k e at mine (has k (ap number_of is ∙ me))))) ∙ f.whole k mine;
                    })
                    (record {
                      knows = λ k h. fit.knows k (has k h);
                      seen = ([], sym longer ∙ sym (append-nil (v.seen ++ more)));
                      told = goes_on_more v.told log more fit.told;
                      whole = λ k h. ap (own k) (sym longer);
                    });
                apart = apart_set s.views id v w at kept.1.apart has;
                place = inl (record {
                  part = p;
                  word = ap (λ (ws : List ℕ). slice_set ws 0 0) h.word;
                  slot = ap (λ (hs : List _). slice_set hs 0 (some p)) h.slot;
                  settled = settled ∙ fit.knows (number_of v.role) (has (number_of v.role) refl);
                  after = subst (IsAfter p) longer after;
                  nobody = nobody_set s.views id v w at (λ z. z) (λ i u apart e holding. apart (h.one.only i u e holding ∙ sym here));
                });
              },
            ),
            refl,
          )

  pub put_as : (slots id : ℕ) (me : Me P View) (n : ℕ) (more : History) (st : Step P) → me.0.role ≡ Holder n → ((k : ℕ) → n ≢ k → own k more ≡ [])
      → IsHeld settings IsAfter me (me.0.seen ++ more) → Allows Holding slots id me 0 (λ _. 0) (PutsBack more st me)
  put_as slots id me n more st is alone held =
      subst (λ (c : List (ℕ × P)). Allows Holding slots id (me.0, c) 0 (λ _. 0) (PutsBack more st (me.0, c))) (sym held.slots)
      (put_keeps slots id me.0 n held.part more st is alone held.settled held.after)

  -- ---- a look at the word

  words_again : (s : State P View) (log : History) → Place s log → slice_set s.words 0 (slice_index s.words 0) ≡ s.words
  words_again s log (inl h) = subst (λ (ws : List ℕ). slice_set ws 0 (slice_index ws 0) ≡ ws) (sym h.word) refl
  words_again s log (inr h) = subst (λ (ws : List ℕ). slice_set ws 0 (slice_index ws 0) ≡ ws) (sym h.word) refl

  pub look_keeps : (slots id : ℕ) (v : View) (st : Step P) → Allows Holding slots id (v, []) 0 (λ n. n) (Compares st (v, []))
  look_keeps slots id v st s kept count at small =
      let log = kept.0 in
      let fit = kept.1.fit id v at in
      let words = words_again s log kept.1.place in
      let again = set_again s.views id v at in (
        v,
        keeps,
        tt,
        (
          log,
          subst (λ (z : List ℕ × List View). IsKept settings IsAfter o (record { words = z.0; homes = s.homes; views = z.1 }) log)
              (λ i. (sym words i, sym again i)) kept.1,
        ),
        (refl, both_begin v.seen v.told fit.seen.0 fit.told.0 (sym fit.seen.1 ∙ fit.told.1)),
      )

  pub look_as : (slots id : ℕ) (me : Me P View) (st : Step P) → me.1 ≡ [] → Allows Holding slots id me 0 (λ n. n) (Compares st me)
  look_as slots id me st empty =
      subst (λ (c : List (ℕ × P)). Allows Holding slots id (me.0, c) 0 (λ n. n) (Compares st (me.0, c))) (sym empty) (look_keeps slots id me.0 st)

  -- ---- seats are made and joined

  pub pass_splits : (id k : ℕ) (known : Settings) → Splits Holding id (opener known k) (opener_after (opener known k)) (first_view (opener known k))
  pass_splits id k known s kept at =
      let log = kept.0 in
      let v = opener known k in
      let fit = kept.1.fit id v at in
      let left = opener_after v in
      let right = first_view v in
      let s' = with_views s (set s.views id left) in (
        log,
        kept_more s' log right (λ z. z)
            (record { knows = λ n h. fit.knows n (omega (arith, h)); seen = (log, refl); told = (log, refl); whole = λ n h. fit.whole n (omega (arith, h)) })
            (λ i u n e hu hw. ⊎_elim
            (λ (x : (i ≡ id) × (left ≡ u)). let later : suc k ≤ n = subst (λ (y : View). Has y.role n) (sym x.1) hu in absurd (omega (arith, later, hw)))
            (λ (x : (i ≢ id) × (get_elem? s.views i ≡ some u)). absurd (x.0 (kept.1.apart i id u v n x.1 at hu (omega (arith, hw)))))
            (at_set s.views id i left u e))
            (kept_set s log id v left at (λ z. z) (λ z. z)
            (record { knows = λ n h. fit.knows n (omega (arith, h)); seen = fit.seen; told = fit.told; whole = λ n h. fit.whole n (omega (arith, h)) })
            (λ n h. omega (arith, h)) kept.1),
      )

  pub pass_splits_as : (id k : ℕ) (v : View) → v ≡ opener v.settings k → Splits Holding id v (opener_after v) (first_view v)
  pass_splits_as id k v is = subst (λ (u : View). Splits Holding id u (opener_after u) (first_view u)) (sym is) (pass_splits id k v.settings)

  pub note_splits : (id : ℕ) (v : View) → Splits Holding id v v (note_of v)
  note_splits id v s kept at =
      let log = kept.0 in
      let fit = kept.1.fit id v at in (
        log,
        subst (λ (views : List View). IsKept settings IsAfter o (with_views s (views ++ note_of v ∷ [])) log) (sym (set_again s.views id v at))
            (kept_more s log (note_of v) (λ z. z) (record { knows = λ n none. absurd none; seen = fit.seen; told = (log, refl); whole = λ n none. absurd none }) (λ i u n e hu none. none) kept.1),
      )

  pub note_joins : (id : ℕ) (v : View) (n other : ℕ) (w : View) → v.role ≡ Session n → w.role ≡ Note
      → Joins Holding id v other w (told_of v w) empty_note
  note_joins id v n other w is note s kept at apart there =
      let log = kept.0 in
      let fit = kept.1.fit id v at in
      let both = told_of v w in
      let there' : get_elem? s.views other ≡ some w = ⊎_elim
      (λ (x : (other ≡ id) × (both ≡ w)). absurd (apart x.0))
      (λ (x : (other ≢ id) × (get_elem? s.views other ≡ some w)). x.1)
      (at_set s.views id other both w there) in
      let told = kept.1.fit other w there' in
      let s' = with_views s (set s.views id both) in (
        log,
        kept_set s' log other w empty_note there (note_frees w.role note) (λ z. z)
            (record { knows = λ k none. absurd none; seen = (log, refl); told = (log, refl); whole = λ k none. absurd none })
            (λ k none. absurd none)
            (kept_set s log id v both at (session_frees v.role n is) (session_frees v.role n is)
            (record { knows = fit.knows; seen = fit.seen; told = told.seen; whole = fit.whole }) (λ k h. h) kept.1),
      )

  -- ---- the beginning and the end

  pub begins : (p : P) → settings p ≡ o → IsAfter p [] → Holding (opening (0 ∷ []) (p ∷ []) (opener o 0))
  begins p settled after = (
    [],
    record {
      fit = λ i v e. subst (Fits o []) (only_first (opener o 0) v i e).1 (record { knows = λ n h. refl; seen = ([], refl); told = ([], refl); whole = λ n h. refl });
      apart = λ i j v w n a b hv hw. (only_first (opener o 0) v i a).0 ∙ sym (only_first (opener o 0) w j b).0;
      place = inl (record { part = p; word = refl; slot = refl; settled = settled; after = after; nobody = λ i v e holds. subst (λ (u : View). Holds u.role) (sym (only_first (opener o 0) v i e).1) holds });
    },
  )

  pub closes : (id : ℕ) (v : View) (n : ℕ) (ws : List ℕ) (xs : List P) (p : P) → v.role ≡ Session n → Final (Seen Holding id v) ws xs
      → get_elem? ws 0 ≡ some 0 → get_elem? xs 0 ≡ some p → (settings p ≡ v.settings) × IsLeft IsAfter n v.seen p
  closes id v n ws xs p is last word slot = of kept.place
    where
      s : State P View
      s = last.0

      log : History
      log = last.1.0.0

      kept : IsKept settings IsAfter o s log
      kept = last.1.0.1

      fit : Fits o log v
      fit = kept.fit id v last.1.1

      has : Has v.role n
      has = session_has v.role n n is (ap number_of is)

      of : Place s log → (settings p ≡ v.settings) × IsLeft IsAfter n v.seen p
      of (inl h) =
          let same : h.part ≡ p = some-injective h.part p (sym (last.4 0 h.part (ap (λ (hs : List _). get_elem? hs 0) h.slot)) ∙ slot) in (
            ap settings (sym same) ∙ h.settled ∙ sym (fit.knows n has),
            record { log = log; goes_on = fit.seen; whole = fit.whole n has; after = subst (λ (q : P). IsAfter q log) same h.after },
          )
      of (inr h) =
          let found : some h.found ≡ some 0 = ap (λ (us : List ℕ). get_elem? us 0) (sym h.word ∙ last.2) ∙ word in
          absurd (h.out (some-injective h.found 0 found))
