-- Rows that stand, and what the index and the slab find of them.
use Rattle.std.proofs.Common.{◌≡◌, ℕ, List, [], ◌∷◌, refl, ap, sym, ◌∙◌, arith, eq-eqb}
use Rattle.std.specs.Prelude.{true, false, ◌==◌, Option, Some, None, IsTrue, All, is_some, unwrap_or}
use Rattle.std.specs.Map.{lookup, values_of}
use Rattle.std.specs.Option.{option_map, option_map_or}
use Rattle.std.proofs.lemmas.Bool.{true≢false, eqb-true}
use Rattle.std.proofs.lemmas.List.Elements.{All-head, All-tail, All-weaker}
use Rattle.slab.specs.Slab.{Slab, get}
use Rattle.term_core.specs.Datum.{Datum}
use Rattle.term_operand.specs.Order.{is_same}
use Rattle.hash_index.specs.declared.cell.Cell.{Cell}
use Rattle.hash_index.specs.Index.{Has}
use Rattle.part_core.specs.Rows.{Row, has_row, objects_at}
use Rattle.part_core.proofs.KeyLemmas.{by_test, same_is, same_from}
use Rattle.part_hash.specs.Mixed.{mixed}
use Rattle.part_hash.specs.Places.{Kept, Standing, if_made, row_in, row_of}
use Rattle.part_hash.specs.Standing.{AreAt, AreFound}

pub None≢Some : {X : Type 0} {x : X} → ◌≡◌ {A = Option X} None (Some x) → ⊥
None≢Some e = cc

pub some_is : {X : Type 0} {x y : X} → Some x ≡ Some y → x ≡ y
some_is e = cc

pub all_none : {X : Type 0} (P : X → Type 0) → All P []
all_none P = λ k d below. absurd (omega (arith, below))

-- a row at a key of the slab, with how many were made before it
pub made_there : (found : Option Kept) (row : Row) → option_map (λ (s : Kept). s.0) found ≡ Some row → (made : ℕ) × (found ≡ Some (row, made))
made_there None row is = absurd (None≢Some is)
made_there (Some s) row is = (s.1, ap (λ (r : Row). Some (r, s.1)) (some_is is))

-- a row is at its place
pub at_place : (slab : Slab Kept) (e : Standing) → get slab e.0.at ≡ Some (e.1, e.0.made) → row_of slab e.0 ≡ Some e.1
at_place slab e there =
    let own : (e.0.made == e.0.made) ≡ true = eq-eqb e.0.made e.0.made refl in
    ap (if_made e.0.made) there ∙ rw own refl

-- the first row of a key is at a place
pub first_at : (slab : Slab Kept) (k : Datum) (list : List Standing) → AreAt slab list → has_row (values_of list) k ≡ true → (at : ℕ) × (made : ℕ) × (get slab at ≡ Some ((k, objects_at (values_of list) k), made))
first_at slab k [] at there = absurd (true≢false (sym there))
first_at slab k (e ∷ list) at there =
    by_test (is_same k e.1.0) _
    (λ here. (e.0.at, e.0.made, All-head (λ (f : Standing). get slab f.0.at ≡ Some (f.1, f.0.made)) e list at ∙ own here))
    (λ other. rw other (first_at slab k list (All-tail (λ (f : Standing). get slab f.0.at ≡ Some (f.1, f.0.made)) e list at) (rw other at there)))
  where
    own : is_same k e.1.0 ≡ true → ◌≡◌ {A = Option Kept} (Some (e.1, e.0.made)) (Some ((k, objects_at (values_of (e ∷ list)) k), e.0.made))
    own here = rw here (ap (λ (j : Datum). Some ((j, e.1.1), e.0.made)) (sym (same_is k e.1.0 here)))

-- what a row that is at a key of the slab holds is what its key has
pub own_objects : (slab : Slab Kept) (index : List Cell × ℕ) (seed : ℕ) (rows : List Row) (list : List Standing) (at : ℕ) (s : Kept) → rows ≡ values_of list → AreAt slab list → AreFound slab index seed rows → get slab at ≡ Some s → (has_row rows s.0.0 ≡ true) × (s.0 ≡ (s.0.0, objects_at rows s.0.0))
own_objects slab index seed rows list at s are stands found there =
    let has : has_row rows s.0.0 ≡ true = found.those at s there in
    let first = first_at slab s.0.0 list stands (ap (λ (rs : List Row). has_row rs s.0.0) (sym are) ∙ has) in
    let same : at ≡ first.0 = found.once at first.0 s ((s.0.0, objects_at (values_of list) s.0.0), first.1) there first.2 (same_from s.0.0 s.0.0 refl) in
    let it : s ≡ ((s.0.0, objects_at (values_of list) s.0.0), first.1) = some_is (sym there ∙ ap (get slab) same ∙ first.2) in
    (has, ap (λ (t : Kept). t.0) it ∙ ap (λ (rs : List Row). (s.0.0, objects_at rs s.0.0)) (sym are))

-- where no row under the mixed hash has the key, no row has
pub none_found : (slab : Slab Kept) (index : List Cell × ℕ) (seed : ℕ) (rows : List Row) (list : List Standing) (k : Datum) → rows ≡ values_of list → AreAt slab list → AreFound slab index seed rows → ((at : ℕ) → Has index (mixed seed k) at → option_map_or (λ (s : Kept). is_same k s.0.0) (get slab at) false ≡ false) → has_row rows k ≡ false
none_found slab index seed rows list k are stands found none =
    by_test (has_row rows k) _
    (λ has. let first = first_at slab k list stands (ap (λ (rs : List Row). has_row rs k) (sym are) ∙ has) in
    let fails = none first.0 (found.known first.0 ((k, objects_at (values_of list) k), first.1) first.2) in
    absurd (true≢false (sym (same_from k k refl) ∙ sym (ap (λ (s : Option Kept). option_map_or (λ (t : Kept). is_same k t.0.0) s false) first.2) ∙ fails)))
    (λ fails. fails)

-- a row of the key is found
pub row_found : (slab : Slab Kept) (index : List Cell × ℕ) (seed : ℕ) (rows : List Row) (list : List Standing) (k : Datum) (at : ℕ) → rows ≡ values_of list → AreAt slab list → AreFound slab index seed rows → option_map_or (λ (s : Kept). is_same k s.0.0) (get slab at) false ≡ true → (has_row rows k ≡ true) × (row_in slab at ≡ Some (k, objects_at rows k))
row_found slab index seed rows list k at are stands found holds = of (get slab at) refl holds
  where
    of : (it : Option Kept) → get slab at ≡ it → option_map_or (λ (s : Kept). is_same k s.0.0) it false ≡ true → (has_row rows k ≡ true) × (row_in slab at ≡ Some (k, objects_at rows k))
    of None is same = absurd (true≢false (sym same))
    of (Some s) is same =
        let key : k ≡ s.0.0 = same_is k s.0.0 same in
        let own = own_objects slab index seed rows list at s are stands found is in
        (ap (has_row rows) key ∙ own.0, ap (option_map (λ (t : Kept). t.0)) is ∙ ap (λ (r : Row). Some r) own.1 ∙ ap (λ (j : Datum). Some (j, objects_at rows j)) (sym key))

-- a place is that of a key's row where the row has the key
abbrev pub IsOwn : ℕ → Datum → Standing → Type 0
IsOwn at key e = (e.0.at == at) ≡ is_same key e.1.0

pub all_own : (slab : Slab Kept) (index : List Cell × ℕ) (seed : ℕ) (rows : List Row) (list : List Standing) (at : ℕ) (s : Kept) → AreAt slab list → AreFound slab index seed rows → get slab at ≡ Some s → All (IsOwn at s.0.0) list
all_own slab index seed rows list at s stands found there =
    All-weaker (λ (e : Standing). get slab e.0.at ≡ Some (e.1, e.0.made)) (IsOwn at s.0.0) own list stands
  where
    own : (e : Standing) → get slab e.0.at ≡ Some (e.1, e.0.made) → IsOwn at s.0.0 e
    own e here = by_test (e.0.at == at) _
        (λ same. let it : Some s ≡ Some (e.1, e.0.made) = sym there ∙ ap (get slab) (sym (eqb-true e.0.at at same)) ∙ here in
        same ∙ sym (same_from s.0.0 e.1.0 (ap (λ (t : Kept). t.0.0) (some_is it))))
        (λ other. by_test (is_same s.0.0 e.1.0) _
        (λ key. let same : at ≡ e.0.at = found.once at e.0.at s (e.1, e.0.made) there here key in
        absurd (true≢false (sym (eq-eqb _ _ (sym same)) ∙ other)))
        (λ apart. other ∙ sym apart))

-- what is held of a key is what its row holds
pub held_there : (rows : List Row) (k : Datum) → has_row rows k ≡ true → Some (objects_at rows k) ≡ lookup (is_same k) rows
held_there rows k there = of (lookup (is_same k) rows) there
  where
    of : (found : Option (List Datum)) → IsTrue (is_some found) → Some (unwrap_or found []) ≡ found
    of None h = cc
    of (Some os) h = refl

pub held_none : (rows : List Row) (k : Datum) → has_row rows k ≡ false → None ≡ lookup (is_same k) rows
held_none rows k none = of (lookup (is_same k) rows) none
  where
    of : (found : Option (List Datum)) → is_some found ≡ false → None ≡ found
    of None h = refl
    of (Some os) h = cc
