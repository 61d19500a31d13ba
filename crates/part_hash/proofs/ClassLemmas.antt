-- The rows of a class, found in several slots.
use Rattle.std.proofs.Common.{◌≡◌, ℕ, ◌<◌, ◌≤◌, ◌+◌, ◌*◌, ◌/◌, ◌%◌, zero, suc, List, [], ◌∷◌, ◌++◌, refl, ap, sym, subst, ◌∙◌, length, get_or, take, append_assoc, arith, eq-eqb, ◌⊎◌, inl, inr}
use Rattle.std.specs.Prelude.{Bool, true, false, ◌==◌, ◌&&◌, if◌then◌else◌, Option, Some, None, All, filter, flat_map, map}
use Rattle.std.specs.List.{range_with_len}
use Rattle.std.specs.List.Sorted.{IsNonDecreasingBy}
use Rattle.std.specs.Map.{values_of}
use Rattle.std.specs.Option.{option_to_list}
use Rattle.std.proofs.lemmas.List.{append-nil, take_more}
use Rattle.std.proofs.lemmas.Bool.{true≢false, eqb-true}
use Rattle.std.proofs.lemmas.List.Elements.{All-head, All-tail, All-filter, All-map, filter-append, filter_map-append, filter_agree}
use Rattle.std.proofs.Math.Nat.{le_of_mul-le-mul_right}
use Rattle.slab.specs.Slab.{Slab, get}
use Rattle.term_core.specs.Datum.{Datum}
use Rattle.term_core.specs.KeyHash.{key_hash}
use Rattle.part_core.specs.declared.settings.Settings.{Settings}
use Rattle.part_core.specs.Settings.{class_at}
use Rattle.part_core.specs.Rows.{Row}
use Rattle.part_core.specs.Visits.{in_class}
use Rattle.part_core.proofs.KeyLemmas.{by_test}
use Rattle.part_rows.specs.declared.place.Place.{Place}
use Rattle.part_hash.specs.declared.store.Store.{Store}
use Rattle.part_hash.specs.Places.{Kept, Standing, passes, places_where, row_of, rows_of, slot_at}
use Rattle.part_hash.specs.Slots.{listing_at}
use Rattle.part_hash.specs.Standing.{AreAt, IsRising, Stands}
use Rattle.part_hash.specs.Classes.{class_of_slots, slot_of_class, step_of}
use Rattle.part_hash.proofs.PlaceLemmas.{passed_there, rows_there}
use Rattle.part_hash.proofs.StandLemmas.{at_place}
use Rattle.part_hash.proofs.TurnLemmas.{turn_of, slot_comes, turn_within, slot_there, spread_is, step_some}
use Rattle.part_hash.proofs.SortLemmas.{is_made, Rise, same_places}

-- ---- the rows at places

pub rows_where : (slab : Slab Kept) (q : Datum → Bool) (list : List Standing) → AreAt slab list → rows_of slab (places_where q list) ≡ filter (λ (r : Row). q r.0) (values_of list)
rows_where slab q [] at = refl
rows_where slab q (e ∷ list) at =
    let here : row_of slab e.0 ≡ Some e.1 = at_place slab e (All-head (λ (f : Standing). get slab f.0.at ≡ Some (f.1, f.0.made)) e list at) in
    let rest : rows_of slab (places_where q list) ≡ filter (λ (r : Row). q r.0) (values_of list) = rows_where slab q list (All-tail (λ (f : Standing). get slab f.0.at ≡ Some (f.1, f.0.made)) e list at) in
    by_test (q e.1.0) _ (λ passed. rw (passed, here) (ap (λ rs. e.1 ∷ rs) rest)) (λ failed. rw failed rest)

-- where a class is a slot
pub rows_in_slot : {A : Type 0} {o : Settings} {store : Store A} {rows : List Row} (class : ℕ) (s : Stands o store rows) → 0 < o.parts → class < length store.slots.items → rows_of store.rows (listing_at store.slots.items class).0 ≡ in_class o (length store.slots.items) class rows
rows_in_slot {A} {o} {store} {rows} class s parts below =
    rows_there store.rows (listing_at store.slots.items class).0 ∙ ap (rows_of store.rows) (s.listed class below).there
    ∙ rows_where store.rows (λ k. slot_at o (length store.slots.items) k == class) s.list s.placed.stands
    ∙ filter_agree (λ (r : Row). slot_at o (length store.slots.items) r.0 == class) (λ (r : Row). class_at o (length store.slots.items) r.0 == class) (λ r. ap (λ d. ((key_hash r.0 / d) % length store.slots.items) == class) (spread_is o parts)) (values_of s.list)
    ∙ ap (in_class o (length store.slots.items) class) (sym s.are)

-- ---- one slot after the other

filter_flat : (t : Place → Bool) (f : ℕ → List Place) (ns : List ℕ) → filter t (flat_map f ns) ≡ flat_map (λ n. filter t (f n)) ns
filter_flat t f [] = refl
filter_flat t f (n ∷ ns) = filter-append t (f n) (flat_map f ns) ∙ ap (λ ps. filter t (f n) ++ ps) (filter_flat t f ns)

flat_agree : (f g : ℕ → List Place) (n a : ℕ) → ((i : ℕ) → a ≤ i → i < a + n → f i ≡ g i) → flat_map f (range_with_len a n) ≡ flat_map g (range_with_len a n)
flat_agree f g zero a same = refl
flat_agree f g (suc n) a same =
    ap (λ ps. ps ++ flat_map f (range_with_len (a + 1) n)) (same a (omega arith) (omega arith))
    ∙ ap (λ ps. g a ++ ps) (flat_agree f g n (a + 1) (λ i low high. same i (omega (arith, low)) (omega (arith, high))))

abbrev nothing : List Place
nothing = []

flat_none : (n a : ℕ) → flat_map (λ (i : ℕ). nothing) (range_with_len a n) ≡ nothing
flat_none zero a = refl
flat_none (suc n) a = flat_none n (a + 1)

flat_once : (p : Place) (turn n a : ℕ) → a ≤ turn → turn < a + n → flat_map (λ i. if turn == i then p ∷ [] else []) (range_with_len a n) ≡ p ∷ []
flat_once p turn zero a low high = absurd (omega (arith, low, high))
flat_once p turn (suc n) a low high =
    by_test (turn == a) _
    (λ here. rw here (ap (λ ps. p ∷ ps) (flat_agree (λ i. if turn == i then p ∷ [] else []) (λ i. []) n (a + 1) (λ i past below. let later : (turn == i) ≡ false = by_test (turn == i) _ (λ same. absurd (omega (arith, past, eqb-true turn a here, eqb-true turn i same))) (λ fails. fails) in rw later refl) ∙ flat_none n (a + 1))))
    (λ other. rw other (flat_once p turn n (a + 1) (omega (arith, low, (λ (e : turn ≡ a). true≢false (sym (eq-eqb _ _ e) ∙ other)))) (omega (arith, high))))

-- ---- one number

-- the rows with a number
abbrev numbered : ℕ → List Standing → List Standing
numbered n list = filter (λ e. is_made n e.0) list

numbered_places : (n : ℕ) (q : Datum → Bool) (list : List Standing) → filter (is_made n) (places_where q list) ≡ places_where q (numbered n list)
numbered_places n q [] = refl
numbered_places n q (e ∷ list) =
    by_test (q e.1.0) _
    (λ passed. by_test (is_made n e.0) _
    (λ own. rw (passed, own, passed) (ap (λ ps. e.0 ∷ ps) (numbered_places n q list)))
    (λ other. rw (passed, other) (numbered_places n q list)))
    (λ failed. by_test (is_made n e.0) _
    (λ own. rw (failed, own, failed) (numbered_places n q list))
    (λ other. rw (failed, other) (numbered_places n q list)))

none_numbered : (m n : ℕ) (list : List Standing) → m ≡ n → All (λ f. m < f.0.made) list → numbered n list ≡ []
none_numbered m n [] is later = refl
none_numbered m n (e ∷ list) is later =
    let head : m < e.0.made = All-head (λ (f : Standing). m < f.0.made) e list later in
    let other : is_made n e.0 ≡ false = by_test (is_made n e.0) _ (λ same. absurd (omega (arith, head, is, eqb-true e.0.made n same))) (λ fails. fails) in
    rw other (none_numbered m n list is (All-tail (λ (f : Standing). m < f.0.made) e list later))

-- no two rows have a number
one_numbered : (n : ℕ) (list : List Standing) → IsRising list → (numbered n list ≡ []) ⊎ ((e : Standing) × (numbered n list ≡ e ∷ []))
one_numbered n [] rising = inl refl
one_numbered n (e ∷ list) rising =
    by_test (is_made n e.0) _
    (λ own. inr (e, rw own (ap (λ es. e ∷ es) (none_numbered e.0.made n list (eqb-true e.0.made n own) rising.0))))
    (λ other. rw other (one_numbered n list rising.1))

-- ---- the places of a class

-- of a slot, those whose rows pass
passed_in_slot : (slab : Slab Kept) (p q : Datum → Bool) (list : List Standing) → AreAt slab list → filter (passes q slab) (places_where p list) ≡ places_where (λ k. p k && q k) list
passed_in_slot slab p q [] at = refl
passed_in_slot slab p q (e ∷ list) at =
    let here : row_of slab e.0 ≡ Some e.1 = at_place slab e (All-head (λ (f : Standing). get slab f.0.at ≡ Some (f.1, f.0.made)) e list at) in
    let rest : filter (passes q slab) (places_where p list) ≡ places_where (λ k. p k && q k) list = passed_in_slot slab p q list (All-tail (λ (f : Standing). get slab f.0.at ≡ Some (f.1, f.0.made)) e list at) in
    by_test (p e.1.0) _
    (λ one. by_test (q e.1.0) _ (λ two. rw (one, here, two) (ap (λ ps. e.0 ∷ ps) rest)) (λ none. rw (one, here, none) rest))
    (λ none. rw none rest)

-- a slot comes at one turn alone
same_turn : (count base class turn other : ℕ) → 0 < base → slot_of_class count base class turn ≡ slot_of_class count base class other → turn ≡ other
same_turn count base class turn other some same =
    let step : ℕ = step_of count base in
    let equal : turn * step ≡ other * step = omega (arith, same) in
    let low : turn ≤ other = le_of_mul-le-mul_right {m = turn} {n = other} {k = step} (omega (arith, equal)) (step_some count base some) in
    let high : other ≤ turn = le_of_mul-le-mul_right {m = other} {n = turn} {k = step} (omega (arith, equal)) (step_some count base some) in
    omega (arith, low, high)

abbrev is_of : Settings → ℕ → ℕ → Datum → Bool
is_of o base class k = class_at o base k == class

abbrev found_in : Settings → ℕ → ℕ → ℕ → ℕ → Datum → Bool
found_in o count base class n k =
    (slot_at o count k == slot_of_class count base class n) && is_of o base class k

-- a row of the class is found at one turn
one_found : (o : Settings) (count base class : ℕ) → 0 < o.parts → 0 < base → 0 < count → (e : Standing) → flat_map (λ n. places_where (found_in o count base class n) (e ∷ [])) (range_with_len 0 (count / step_of count base)) ≡ places_where (is_of o base class) (e ∷ [])
one_found o count base class parts based some e = by_test (is_of o base class e.1.0) _
    (λ own. flat_agree (λ n. places_where (found_in o count base class n) (e ∷ [])) (λ n. if turn_of o count base e.1.0 == n then e.0 ∷ [] else []) (count / step_of count base) 0 (λ n low high. here own n)
    ∙ flat_once e.0 (turn_of o count base e.1.0) (count / step_of count base) 0 (omega arith) (omega (arith, turn_within o count base e.1.0 some based))
    ∙ found own)
    (λ other. flat_agree (λ n. places_where (found_in o count base class n) (e ∷ [])) (λ n. nothing) (count / step_of count base) 0 (λ n low high. none other (slot_at o count e.1.0 == slot_of_class count base class n))
    ∙ flat_none (count / step_of count base) 0 ∙ missed other)
  where
    found : is_of o base class e.1.0 ≡ true → e.0 ∷ [] ≡ places_where (is_of o base class) (e ∷ [])
    found own = rw own refl

    missed : is_of o base class e.1.0 ≡ false → [] ≡ places_where (is_of o base class) (e ∷ [])
    missed other = rw other refl

    none : is_of o base class e.1.0 ≡ false → (b : Bool) → map (λ (f : Standing). f.0) (if (b && is_of o base class e.1.0) then e ∷ [] else []) ≡ nothing
    none other true = rw other refl
    none other false = refl

    here : is_of o base class e.1.0 ≡ true → (n : ℕ) → places_where (found_in o count base class n) (e ∷ []) ≡ (if turn_of o count base e.1.0 == n then e.0 ∷ [] else [])
    here own n = by_test (turn_of o count base e.1.0 == n) _
        (λ same. let hit : (slot_at o count e.1.0 == slot_of_class count base class n) ≡ true = eq-eqb _ _ (slot_comes o count base class e.1.0 parts (eqb-true _ _ own) ∙ ap (slot_of_class count base class) (eqb-true (turn_of o count base e.1.0) n same)) in rw (same, hit, own) refl)
        (λ apart. let miss : (slot_at o count e.1.0 == slot_of_class count base class n) ≡ false = by_test (slot_at o count e.1.0 == slot_of_class count base class n) _ (λ hit. absurd (true≢false (sym (eq-eqb _ _ (same_turn count base class (turn_of o count base e.1.0) n based (sym (slot_comes o count base class e.1.0 parts (eqb-true _ _ own)) ∙ eqb-true _ _ hit))) ∙ apart))) (λ fails. fails) in rw (apart, miss) refl)

few_found : (o : Settings) (count base class : ℕ) → 0 < o.parts → 0 < base → 0 < count → (list : List Standing) → (list ≡ []) ⊎ ((e : Standing) × (list ≡ e ∷ [])) → flat_map (λ n. places_where (found_in o count base class n) list) (range_with_len 0 (count / step_of count base)) ≡ places_where (is_of o base class) list
few_found o count base class parts based some list (inl is) =
    subst (λ (es : List Standing). flat_map (λ n. places_where (found_in o count base class n) es) (range_with_len 0 (count / step_of count base)) ≡ places_where (is_of o base class) es) (sym is) (flat_none (count / step_of count base) 0)
few_found o count base class parts based some list (inr one) =
    subst (λ (es : List Standing). flat_map (λ n. places_where (found_in o count base class n) es) (range_with_len 0 (count / step_of count base)) ≡ places_where (is_of o base class) es) (sym one.1) (one_found o count base class parts based some one.0)

rise_where : (q : Datum → Bool) (list : List Standing) → IsRising list → Rise (places_where q list)
rise_where q [] rising = tt
rise_where q (e ∷ list) rising =
    by_test (q e.1.0) _
    (λ passed. rw passed (All-map (λ (p : Place). e.0.made < p.made) (λ (f : Standing). f.0) (filter (λ (f : Standing). q f.1.0) list) (All-filter (λ (f : Standing). q f.1.0) (λ (f : Standing). e.0.made < f.0.made) list rising.0), rise_where q list rising.1))
    (λ failed. rw failed (rise_where q list rising.1))

-- at each number the slots have the places of the class
each_found : {A : Type 0} {o : Settings} {store : Store A} {rows : List Row} (base class n : ℕ) (s : Stands o store rows) → 0 < o.parts → 0 < base → 0 < length store.slots.items → filter (is_made n) (class_of_slots o base class store.rows store.slots.items) ≡ filter (is_made n) (places_where (is_of o base class) s.list)
each_found {A} {o} {store} {rows} base class n s parts based some =
    let count : ℕ = length store.slots.items in
    ap (filter (is_made n)) (flat_agree (λ i. filter (passes (is_of o base class) store.rows) (listing_at store.slots.items (slot_of_class count base class i)).0) (λ i. places_where (found_in o count base class i) s.list) (count / step_of count base) 0
    (λ i low high. passed_there store.rows (λ (r : Row). is_of o base class r.0) (listing_at store.slots.items (slot_of_class count base class i)).0 ∙ ap (filter (passes (is_of o base class) store.rows)) (s.listed (slot_of_class count base class i) (slot_there count base class i based (omega (arith, high)))).there ∙ passed_in_slot store.rows (λ k. slot_at o count k == slot_of_class count base class i) (is_of o base class) s.list s.placed.stands))
    ∙ filter_flat (is_made n) (λ i. places_where (found_in o count base class i) s.list) (range_with_len 0 (count / step_of count base))
    ∙ flat_agree (λ i. filter (is_made n) (places_where (found_in o count base class i) s.list)) (λ i. places_where (found_in o count base class i) (numbered n s.list)) (count / step_of count base) 0 (λ i low high. numbered_places n (found_in o count base class i) s.list)
    ∙ few_found o count base class parts based some (numbered n s.list) (one_numbered n s.list s.placed.rising)
    ∙ sym (numbered_places n (is_of o base class) s.list)

-- places in the order in which their rows were made, with those of the slots at each number, are those of the class
pub rows_of_class : {A : Type 0} {o : Settings} {store : Store A} {rows : List Row} (base class : ℕ) (s : Stands o store rows) → 0 < o.parts → 0 < base → 0 < length store.slots.items → (ps : List Place) → IsNonDecreasingBy (λ (p : Place). p.made) ps → ((n : ℕ) → filter (is_made n) ps ≡ filter (is_made n) (class_of_slots o base class store.rows store.slots.items)) → rows_of store.rows ps ≡ in_class o base class rows
rows_of_class {A} {o} {store} {rows} base class s parts based some ps up same =
    ap (rows_of store.rows) (same_places ps (places_where (is_of o base class) s.list) up (rise_where (is_of o base class) s.list s.placed.rising) (λ n. same n ∙ each_found base class n s parts based some))
    ∙ rows_where store.rows (is_of o base class) s.list s.placed.stands
    ∙ ap (in_class o base class) (sym s.are)

-- ---- loops

single : (slab : Slab Kept) (p : Place) → rows_of slab (p ∷ []) ≡ option_to_list (row_of slab p)
single slab p = of (row_of slab p) refl
  where
    of : (found : Option Row) → row_of slab p ≡ found → rows_of slab (p ∷ []) ≡ option_to_list (row_of slab p)
    of None is = rw is refl
    of (Some r) is = rw is refl

pub rows_more : (slab : Slab Kept) (ps : List Place) (i : ℕ) (p : Place) (before after initial : List Row) → i < length ps → p ≡ get_or ps i p → before ≡ initial ++ rows_of slab (take i ps) → after ≡ before ++ option_to_list (row_of slab p) → after ≡ initial ++ rows_of slab (take (i + 1) ps)
rows_more slab ps i p before after initial within is so_far more =
    more ∙ ap (λ rs. rs ++ option_to_list (row_of slab p)) so_far
    ∙ append_assoc initial (rows_of slab (take i ps)) (option_to_list (row_of slab p))
    ∙ ap (λ rs. initial ++ rs) (ap (λ rs. rows_of slab (take i ps) ++ rs) (sym (single slab p)) ∙ sym (filter_map-append (row_of slab) (take i ps) (p ∷ [])))
    ∙ ap (λ q. initial ++ rows_of slab (take i ps ++ q ∷ [])) is
    ∙ ap (λ qs. initial ++ rows_of slab qs) (sym (take_more ps i p within))

flat_next : (f : ℕ → List Place) (n a : ℕ) → flat_map f (range_with_len a (suc n)) ≡ flat_map f (range_with_len a n) ++ f (a + n)
flat_next f zero a = append-nil (f a) ∙ ap f (omega arith)
flat_next f (suc n) a =
    ap (λ ps. f a ++ ps) (flat_next f n (a + 1))
    ∙ sym (append_assoc (f a) (flat_map f (range_with_len (a + 1) n)) (f (a + 1 + n)))
    ∙ ap (λ i. (f a ++ flat_map f (range_with_len (a + 1) n)) ++ f i) (omega arith)

pub flat_more : (f : ℕ → List Place) (n : ℕ) → flat_map f (range_with_len 0 (n + 1)) ≡ flat_map f (range_with_len 0 n) ++ f n
flat_more f n =
    let one : n + 1 ≡ suc n = omega arith in
    let same : 0 + n ≡ n = omega arith in
    ap (λ m. flat_map f (range_with_len 0 m)) one ∙ flat_next f n 0 ∙ ap (λ m. flat_map f (range_with_len 0 n) ++ f m) same
