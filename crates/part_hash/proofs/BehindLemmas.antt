-- The rows after that of a key.
use Rattle.std.proofs.Common.{◌≡◌, ℕ, ◌<◌, ◌+◌, List, [], ◌∷◌, ◌++◌, refl, ap, sym, subst, ◌∙◌, arith}
use Rattle.std.specs.Prelude.{true, false, nat_le, Some, All}
use Rattle.std.specs.Map.{values_of}
use Rattle.std.proofs.lemmas.Bool.{true≢false, le-leb, leb-true}
use Rattle.std.proofs.lemmas.List.{map-append}
use Rattle.std.proofs.lemmas.List.Elements.{All-head, All-tail}
use Rattle.slab.specs.Slab.{get}
use Rattle.term_core.specs.Datum.{Datum}
use Rattle.term_operand.specs.Order.{is_same}
use Rattle.part_core.specs.declared.settings.Settings.{Settings}
use Rattle.part_core.specs.Settings.{class_at, is_ordered}
use Rattle.part_core.specs.Replies.{rows_past}
use Rattle.part_core.specs.Rows.{Row, has_row}
use Rattle.part_core.specs.Visits.{in_class, walk_order}
use Rattle.part_core.proofs.KeyLemmas.{by_test}
use Rattle.part_hash.specs.declared.store.Store.{Store}
use Rattle.part_hash.specs.Places.{Kept, Standing}
use Rattle.part_hash.specs.Standing.{IsRising, Stands}
use Rattle.part_hash.specs.Classes.{made_from}
use Rattle.part_engine.specs.Sets.{rows_from}
use Rattle.part_hash.proofs.StandLemmas.{some_is}
use Rattle.part_engine.proofs.WalkLemmas.{walk_after}

-- rows with the first of a key
pub record IsSplit (k : Datum) (list : List Standing) : Type 0 where
  pub before : List Standing
  pub it : Standing
  pub after : List Standing
  pub whole : list ≡ before ++ it ∷ after
  pub first : has_row (values_of before) k ≡ false
  pub there : is_same k it.1.0 ≡ true

pub split : (k : Datum) (list : List Standing) → has_row (values_of list) k ≡ true → IsSplit k list
split k [] there = absurd (true≢false (sym there))
split k (e ∷ list) there =
    by_test (is_same k e.1.0) _
    (λ here. record { before = []; it = e; after = list; whole = refl; first = refl; there = here })
    (λ other. let rest = split k list (rw other at there) in
    record { before = e ∷ rest.before; it = rest.it; after = rest.after; whole = ap (λ es. e ∷ es) rest.whole; first = rw other rest.first; there = rest.there })

-- the rows made after it
all_after : (from : ℕ) (list : List Standing) → All (λ f. from < f.0.made) list → made_from (from + 1) list ≡ values_of list
all_after from [] later = refl
all_after from (e ∷ list) later =
    let head : from < e.0.made = All-head (λ (f : Standing). from < f.0.made) e list later in
    let is : nat_le (from + 1) e.0.made ≡ true = le-leb (from + 1) e.0.made (omega (arith, head)) in
    rw is (ap (λ rs. e.1 ∷ rs) (all_after from list (All-tail (λ (f : Standing). from < f.0.made) e list later)))

after_it : (before : List Standing) (it : Standing) (after : List Standing) → IsRising (before ++ it ∷ after) → made_from (it.0.made + 1) (before ++ it ∷ after) ≡ values_of after
after_it [] it after rising =
    by_test (nat_le (it.0.made + 1) it.0.made) _
    (λ past. absurd (omega (arith, leb-true _ _ past)))
    (λ own. rw own (all_after it.0.made after rising.0))
after_it (e ∷ before) it after rising =
    by_test (nat_le (it.0.made + 1) e.0.made) _
    (λ past. absurd (omega (arith, leb-true _ _ past, last_of before rising.0)))
    (λ own. rw own (after_it before it after rising.1))
  where
    last_of : (es : List Standing) → All (λ f. e.0.made < f.0.made) (es ++ it ∷ after) → e.0.made < it.0.made
    last_of [] later = All-head (λ (f : Standing). e.0.made < f.0.made) it after later
    last_of (f ∷ es) later = last_of es (All-tail (λ (f : Standing). e.0.made < f.0.made) f (es ++ it ∷ after) later)

-- what a walk has after the row of a key, before which `made` rows were created
pub behind : {A : Type 0} {o : Settings} {store : Store A} {rows : List Row} (base : ℕ) (k : Datum) (at made : ℕ) (row : Row) (s : Stands o store rows) → is_ordered o.kind ≡ false → class_at o base k < base → get store.rows at ≡ Some (row, made) → row.0 ≡ k → (made < store.made) × (rows_past k (walk_order o base rows) ≡ in_class o base (class_at o base k) (made_from (made + 1) s.list) ++ rows_from o base (class_at o base k + 1) rows)
behind {A} {o} {store} {rows} base k at made row s kind below here own =
    let there : has_row rows k ≡ true = ap (has_row rows) (sym own) ∙ s.found.those at (row, made) here in
    let sp : IsSplit k s.list = split k s.list (ap (λ rs. has_row rs k) (sym s.are) ∙ there) in
    let stood : get store.rows sp.it.0.at ≡ Some (sp.it.1, sp.it.0.made) = it_of (λ (e : Standing). get store.rows e.0.at ≡ Some (e.1, e.0.made)) sp.before sp.it sp.after (subst (All (λ (e : Standing). get store.rows e.0.at ≡ Some (e.1, e.0.made))) sp.whole s.placed.stands) in
    let same : at ≡ sp.it.0.at = s.found.once at sp.it.0.at (row, made) (sp.it.1, sp.it.0.made) here stood (ap (λ (j : Datum). is_same j sp.it.1.0) own ∙ sp.there) in
    let number : made ≡ sp.it.0.made = ap (λ (t : Kept). t.1) (some_is (sym here ∙ ap (get store.rows) same ∙ stood)) in (
      subst (λ n. n < store.made) (sym number) (it_of (λ (e : Standing). e.0.made < store.made) sp.before sp.it sp.after (subst (All (λ (e : Standing). e.0.made < store.made)) sp.whole s.placed.below)),
      walk_after o base k rows (values_of sp.before) sp.it.1 (values_of sp.after) kind below (s.are ∙ ap values_of sp.whole ∙ map-append (λ (e : Standing). e.1) sp.before (sp.it ∷ sp.after)) sp.first sp.there
          ∙ ap (λ rs. in_class o base (class_at o base k) rs ++ rows_from o base (class_at o base k + 1) rows) (sym (ap (λ n. made_from (n + 1) s.list) number ∙ ap (made_from (sp.it.0.made + 1)) sp.whole ∙ after_it sp.before sp.it sp.after (subst IsRising sp.whole s.placed.rising))),
    )
  where
    it_of : (K : Standing → Type 0) (before : List Standing) (it : Standing) (after : List Standing) → All K (before ++ it ∷ after) → K it
    it_of K [] it after all = All-head K it after all
    it_of K (e ∷ before) it after all = it_of K before it after (All-tail K e (before ++ it ∷ after) all)

-- from the beginning on all are walked
pub all_from : (list : List Standing) → made_from 0 list ≡ values_of list
all_from [] = refl
all_from (e ∷ list) =
    let is : nat_le 0 e.0.made ≡ true = le-leb 0 e.0.made (omega arith) in
    rw is (ap (λ rs. e.1 ∷ rs) (all_from list))
