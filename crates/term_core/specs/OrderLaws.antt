-- The order of terms is total: each term has a row of marks, comparing these rows is comparing terms, and the order of
-- rows is total.
use Rattle.std.proofs.Common.{◌≡◌, ◌≢◌, ℕ, ◌<◌, ℤ, pos, negsuc, ◌<ℤ◌, List, [], ◌∷◌, refl, ap, sym, ◌∙◌, subst, arith, inl, inr, ◌⊎◌}
use Rattle.std.specs.declared.cmp.Ordering.{Ordering}
use Rattle.std.specs.declared.cmp.Ordering.TheVariants.{Less, Equal, Greater}
use Rattle.std.specs.Prelude.{IsTrue, true}
use Rattle.std.specs.Ordering.{nat_cmp, int_cmp, ordering_then, MatchOrdering, on, eq_by_cmp, is_eq}
use Rattle.std.specs.Cmp.{IsTotalOrder, nat_cmp_is, int_cmp_is}
use Rattle.std.specs.Cmp.Lexicographic.{slice_cmp}
use Rattle.std.proofs.lemmas.Int.{ints}
use Rattle.std.proofs.lemmas.Cmp.{ranked, int_ranked, on_total, lists_total, int_cmp_total, by_ranked, tied_itself}
use Rattle.term_core.specs.Datum.{Datum, Items, Entries, item_count, entry_count, entry_keys, entry_values}
use Rattle.term_core.specs.Datum.Datum.{integer, atom, tuple, map, nil, cons, binary}
use Rattle.term_core.specs.Datum.Items.{no_items, item}
use Rattle.term_core.specs.Datum.Entries.{no_entries, entry}
use Rattle.term_core.specs.Order.{rank, AreBelow, IsBelow, ItemsBelow, KeysBelow, ValuesBelow, datum_cmp, items_cmp, keys_cmp, values_cmp}

-- the marks of characters or bytes, with -1 after them
abbrev text_marks : List ℕ → List ℤ → List ℤ
text_marks [] rest = negsuc 0 ∷ rest
text_marks (c ∷ cs) rest = pos c ∷ text_marks cs rest

abbrev mutual
  marks : Datum → List ℤ → List ℤ
  marks (integer z) rest = pos 0 ∷ z ∷ rest
  marks (atom cs) rest = pos 1 ∷ text_marks cs rest
  marks (tuple ds) rest = pos 2 ∷ pos (item_count ds) ∷ item_marks ds rest
  marks (map es) rest = pos 3 ∷ pos (entry_count es) ∷ key_marks es (value_marks es rest)
  marks nil rest = pos 4 ∷ rest
  marks (cons head tail) rest = pos 5 ∷ marks head (marks tail rest)
  marks (binary bs) rest = pos 6 ∷ text_marks bs rest

  item_marks : Items → List ℤ → List ℤ
  item_marks no_items rest = rest
  item_marks (item d ds) rest = marks d (item_marks ds rest)

  key_marks : Entries → List ℤ → List ℤ
  key_marks no_entries rest = rest
  key_marks (entry k v es) rest = marks k (key_marks es rest)

  value_marks : Entries → List ℤ → List ℤ
  value_marks no_entries rest = rest
  value_marks (entry k v es) rest = marks v (value_marks es rest)

match_map : (o : Ordering) {P Q R P' Q' R' : Type 0} → (P → P') → (Q → Q') → (R → R') → MatchOrdering o P Q R → MatchOrdering o P' Q' R'
match_map Less f g h m = f m
match_map Equal f g h m = g m
match_map Greater f g h m = h m

then_assoc : (a b c : Ordering) → ordering_then a (ordering_then b c) ≡ ordering_then (ordering_then a b) c
then_assoc Less b c = refl
then_assoc Equal b c = refl
then_assoc Greater b c = refl

then_equal : (a : Ordering) → ordering_then a Equal ≡ a
then_equal Less = refl
then_equal Equal = refl
then_equal Greater = refl

pos_lt : {m n : ℕ} → m < n → pos m <ℤ pos n
pos_lt h = omega (arith, ints)

pos_cmp : (m n : ℕ) → int_cmp (pos m) (pos n) ≡ nat_cmp m n
pos_cmp m n = sym (int_cmp_is (pos m) (pos n) (nat_cmp m n) (match_map (nat_cmp m n) pos_lt (ap pos) pos_lt (ranked m n (nat_cmp m n) refl)))

text_cmp : (a b : List ℕ) (xs ys : List ℤ) → slice_cmp int_cmp (text_marks a xs) (text_marks b ys) ≡ ordering_then (slice_cmp nat_cmp a b) (slice_cmp int_cmp xs ys)
text_cmp [] [] xs ys = refl
text_cmp [] (b ∷ bs) xs ys = refl
text_cmp (a ∷ more) [] xs ys = refl
text_cmp (a ∷ more) (b ∷ bs) xs ys =
    rw (pos_cmp a b, text_cmp more bs xs ys) (then_assoc (nat_cmp a b) (slice_cmp nat_cmp more bs) (slice_cmp int_cmp xs ys))

-- comparing two counts first, and then what is compared where they agree
counted : (m n : ℕ) (r s t : Ordering) → (m ≡ n → r ≡ ordering_then s t) → ordering_then (int_cmp (pos m) (pos n)) r ≡ ordering_then (ordering_then (nat_cmp m n) s) t
counted m n r s t e =
    rw (pos_cmp m n) (by_ranked (m < n) (m ≡ n) (n < m) {G = ordering_then (nat_cmp m n) r ≡ ordering_then (ordering_then (nat_cmp m n) s) t} (nat_cmp m n) (ranked m n (nat_cmp m n) refl) (λ o _. rw o) (λ o h. rw o (e h)) (λ o _. rw o))

mutual
  unfolding datum_cmp

  row_cmp : (a b : Datum) (xs ys : List ℤ) → slice_cmp int_cmp (marks a xs) (marks b ys) ≡ ordering_then (datum_cmp a b) (slice_cmp int_cmp xs ys)
  row_cmp (integer a) (integer b) xs ys = refl
  row_cmp (atom a) (atom b) xs ys = text_cmp a b xs ys
  row_cmp (tuple a) (tuple b) xs ys =
      counted (item_count a) (item_count b) _ (items_cmp a b) (slice_cmp int_cmp xs ys) (item_row_cmp a b xs ys)
  row_cmp (map a) (map b) xs ys =
      counted (entry_count a) (entry_count b) _ (ordering_then (keys_cmp a b) (values_cmp a b)) (slice_cmp int_cmp xs ys)
      (λ e. key_row_cmp a b (value_marks a xs) (value_marks b ys) e ∙ ap (ordering_then (keys_cmp a b)) (value_row_cmp a b xs ys e) ∙ then_assoc (keys_cmp a b) (values_cmp a b) (slice_cmp int_cmp xs ys))
  row_cmp nil nil xs ys = refl
  row_cmp (cons a d) (cons b e) xs ys =
      row_cmp a b (marks d xs) (marks e ys) ∙ ap (ordering_then (datum_cmp a b)) (row_cmp d e xs ys) ∙ then_assoc (datum_cmp a b) (datum_cmp d e) (slice_cmp int_cmp xs ys)
  row_cmp (binary a) (binary b) xs ys = text_cmp a b xs ys
  row_cmp a b xs ys = refl

  item_row_cmp : (a b : Items) (xs ys : List ℤ) → item_count a ≡ item_count b → slice_cmp int_cmp (item_marks a xs) (item_marks b ys) ≡ ordering_then (items_cmp a b) (slice_cmp int_cmp xs ys)
  item_row_cmp no_items no_items xs ys e = refl
  item_row_cmp no_items (item b bs) xs ys e = absurd (omega arith)
  item_row_cmp (item a ds) no_items xs ys e = absurd (omega arith)
  item_row_cmp (item a ds) (item b es) xs ys e =
      row_cmp a b (item_marks ds xs) (item_marks es ys) ∙ ap (ordering_then (datum_cmp a b)) (item_row_cmp ds es xs ys (omega arith)) ∙ then_assoc (datum_cmp a b) (items_cmp ds es) (slice_cmp int_cmp xs ys)

  key_row_cmp : (a b : Entries) (xs ys : List ℤ) → entry_count a ≡ entry_count b → slice_cmp int_cmp (key_marks a xs) (key_marks b ys) ≡ ordering_then (keys_cmp a b) (slice_cmp int_cmp xs ys)
  key_row_cmp no_entries no_entries xs ys e = refl
  key_row_cmp no_entries (entry b w bs) xs ys e = absurd (omega arith)
  key_row_cmp (entry a v ds) no_entries xs ys e = absurd (omega arith)
  key_row_cmp (entry a v ds) (entry b w es) xs ys e =
      row_cmp a b (key_marks ds xs) (key_marks es ys) ∙ ap (ordering_then (datum_cmp a b)) (key_row_cmp ds es xs ys (omega arith)) ∙ then_assoc (datum_cmp a b) (keys_cmp ds es) (slice_cmp int_cmp xs ys)

  value_row_cmp : (a b : Entries) (xs ys : List ℤ) → entry_count a ≡ entry_count b → slice_cmp int_cmp (value_marks a xs) (value_marks b ys) ≡ ordering_then (values_cmp a b) (slice_cmp int_cmp xs ys)
  value_row_cmp no_entries no_entries xs ys e = refl
  value_row_cmp no_entries (entry b w bs) xs ys e = absurd (omega arith)
  value_row_cmp (entry a v ds) no_entries xs ys e = absurd (omega arith)
  value_row_cmp (entry k a ds) (entry l b es) xs ys e =
      row_cmp a b (value_marks ds xs) (value_marks es ys) ∙ ap (ordering_then (datum_cmp a b)) (value_row_cmp ds es xs ys (omega arith)) ∙ then_assoc (datum_cmp a b) (values_cmp ds es) (slice_cmp int_cmp xs ys)

datum_cmp_on : (a b : Datum) → on (λ d. marks d []) (slice_cmp int_cmp) a b ≡ datum_cmp a b
datum_cmp_on a b = row_cmp a b [] [] ∙ then_equal (datum_cmp a b)

pub datum_cmp_total : IsTotalOrder datum_cmp
datum_cmp_total = subst IsTotalOrder (λ i a b. datum_cmp_on a b i) (on_total (λ d. marks d []) (lists_total int_cmp_total))

-- equal terms are equal in the order
pub datum_cmp-same : {a b : Datum} → a ≡ b → datum_cmp a b ≡ Equal
datum_cmp-same {a} {b} e = ap (datum_cmp a) (sym e) ∙ tied_itself datum_cmp_total a

-- what a result of a comparison says: the first fact at Less, the second at Equal, the third at Greater
record Says (o : Ordering) (P E Q : Type 0) : Type 0 where
  pub fact : MatchOrdering o P E Q

numbers_say : (m n : ℕ) → Says (nat_cmp m n) (m < n) (m ≡ n) (n < m)
numbers_say m n = record { fact = ranked m n (nat_cmp m n) refl }

-- what one comparison followed by another says
then_say : (o p : Ordering) {P E Q F P' E' Q' : Type 0} → (E → F) → Says o P E Q → (E → Says p P' E' Q') → Says (ordering_then o p) (P ⊎ (E × P')) (E × E') (Q ⊎ (F × Q'))
then_say Less p back m n = record { fact = inl m.fact }
then_say Equal Less back m n = record { fact = inr (m.fact, (n m.fact).fact) }
then_say Equal Equal back m n = record { fact = (m.fact, (n m.fact).fact) }
then_say Equal Greater back m n = record { fact = inr (back m.fact, (n m.fact).fact) }
then_say Greater p back m n = record { fact = inl m.fact }

equal_says : (o : Ordering) {P E E' Q : Type 0} → (E → E') → Says o P E Q → Says o P E' Q
equal_says Less f m = record { fact = m.fact }
equal_says Equal f m = record { fact = f m.fact }
equal_says Greater f m = record { fact = m.fact }

same_cell : {X : Type 0} {x y : X} {xs ys : List X} → (x ≡ y) × (xs ≡ ys) → x ∷ xs ≡ y ∷ ys
same_cell {X} {x} {y} {xs} {ys} e = let first : x ≡ y = e.0 in let rest : xs ≡ ys = e.1 in cc

text_says : (a b : List ℕ) → Says (slice_cmp nat_cmp a b) (AreBelow a b) (a ≡ b) (AreBelow b a)
text_says [] [] = record { fact = refl }
text_says [] (b ∷ es) = record { fact = tt }
text_says (a ∷ ds) [] = record { fact = tt }
text_says (a ∷ ds) (b ∷ es) =
    equal_says (ordering_then (nat_cmp a b) (slice_cmp nat_cmp ds es)) same_cell
    (then_say (nat_cmp a b) (slice_cmp nat_cmp ds es) sym (numbers_say a b) (λ _. text_says ds es))

same_entries : (a b : Entries) → entry_keys a ≡ entry_keys b → entry_values a ≡ entry_values b → a ≡ b
same_entries no_entries no_entries p q = refl
same_entries no_entries (entry l w es) p q = cc
same_entries (entry k v ds) no_entries p q = cc
same_entries (entry k v ds) (entry l w es) p q =
    let tails : ds ≡ es = same_entries ds es (cc) (cc) in cc

same_cons : {a b d e : Datum} → (a ≡ b) × (d ≡ e) → cons a d ≡ cons b e
same_cons {a} {b} {d} {e} h = let head : a ≡ b = h.0 in let tail : d ≡ e = h.1 in cc

same_item : {a b : Datum} {ds es : Items} → (a ≡ b) × (ds ≡ es) → item a ds ≡ item b es
same_item {a} {b} {ds} {es} h = let first : a ≡ b = h.0 in let rest : ds ≡ es = h.1 in cc

mutual
  unfolding datum_cmp IsBelow

  says : (a b : Datum) → Says (datum_cmp a b) (IsBelow a b) (a ≡ b) (IsBelow b a)
  says (integer a) (integer b) =
      equal_says (int_cmp a b) (ap integer) (record { fact = int_ranked a b (int_cmp a b) refl })
  says (atom a) (atom b) = equal_says (slice_cmp nat_cmp a b) (ap atom) (text_says a b)
  says (tuple a) (tuple b) =
      equal_says (datum_cmp (tuple a) (tuple b)) (λ e. ap tuple e.1)
      (then_say (nat_cmp (item_count a) (item_count b)) (items_cmp a b) sym (numbers_say (item_count a) (item_count b)) (items_say a b))
  says (map a) (map b) =
      equal_says (datum_cmp (map a) (map b)) (λ e. ap map (same_entries a b e.1.0 e.1.1))
      (then_say (nat_cmp (entry_count a) (entry_count b)) (ordering_then (keys_cmp a b) (values_cmp a b)) sym (numbers_say (entry_count a) (entry_count b))
      (λ e. then_say (keys_cmp a b) (values_cmp a b) sym (keys_say a b e) (λ _. values_say a b e)))
  says nil nil = record { fact = refl }
  says (cons a d) (cons b e) =
      equal_says (datum_cmp (cons a d) (cons b e)) same_cons
      (then_say (datum_cmp a b) (datum_cmp d e) sym (says a b) (λ _. says d e))
  says (binary a) (binary b) = equal_says (slice_cmp nat_cmp a b) (ap binary) (text_says a b)
  says a b = record { fact = ranked (rank a) (rank b) (nat_cmp (rank a) (rank b)) refl }

  items_say : (a b : Items) → item_count a ≡ item_count b → Says (items_cmp a b) (ItemsBelow a b) (a ≡ b) (ItemsBelow b a)
  items_say no_items no_items e = record { fact = refl }
  items_say no_items (item b es) e = absurd (omega arith)
  items_say (item a ds) no_items e = absurd (omega arith)
  items_say (item a ds) (item b es) e =
      equal_says (ordering_then (datum_cmp a b) (items_cmp ds es)) same_item
      (then_say (datum_cmp a b) (items_cmp ds es) sym (says a b) (λ _. items_say ds es (omega arith)))

  keys_say : (a b : Entries) → entry_count a ≡ entry_count b → Says (keys_cmp a b) (KeysBelow a b) (entry_keys a ≡ entry_keys b) (KeysBelow b a)
  keys_say no_entries no_entries e = record { fact = refl }
  keys_say no_entries (entry b w es) e = absurd (omega arith)
  keys_say (entry a v ds) no_entries e = absurd (omega arith)
  keys_say (entry a v ds) (entry b w es) e =
      equal_says (ordering_then (datum_cmp a b) (keys_cmp ds es)) same_cell
      (then_say (datum_cmp a b) (keys_cmp ds es) sym (says a b) (λ _. keys_say ds es (omega arith)))

  values_say : (a b : Entries) → entry_count a ≡ entry_count b → Says (values_cmp a b) (ValuesBelow a b) (entry_values a ≡ entry_values b) (ValuesBelow b a)
  values_say no_entries no_entries e = record { fact = refl }
  values_say no_entries (entry b w es) e = absurd (omega arith)
  values_say (entry a v ds) no_entries e = absurd (omega arith)
  values_say (entry k a ds) (entry l b es) e =
      equal_says (ordering_then (datum_cmp a b) (values_cmp ds es)) same_cell
      (then_say (datum_cmp a b) (values_cmp ds es) sym (says a b) (λ _. values_say ds es (omega arith)))

-- what the comparison says of two terms
pub datum_cmp-says : (a b : Datum) → MatchOrdering (datum_cmp a b) (IsBelow a b) (a ≡ b) (IsBelow b a)
datum_cmp-says a b = (says a b).fact

-- a comparison is Less if it says so itself, or if the terms are equal and a second comparison is Less
then_less : (a b : Datum) (o : Ordering) {P Q : Type 0} → (P → datum_cmp a b ≡ Less) → (Q → o ≡ Less) → P ⊎ ((a ≡ b) × Q) → ordering_then (datum_cmp a b) o ≡ Less
then_less a b o f g (inl h) = rw (f h)
then_less a b o f g (inr h) = rw (datum_cmp-same h.0) (g h.1)

counts_less : (m n : ℕ) (o : Ordering) {Q : Type 0} → (m ≡ n → Q → o ≡ Less) → (m < n) ⊎ ((m ≡ n) × Q) → ordering_then (nat_cmp m n) o ≡ Less
counts_less m n o g (inl h) = rw (sym (nat_cmp_is m n Less h))
counts_less m n o g (inr h) = rw (sym (nat_cmp_is m n Equal h.0)) (g h.0 h.1)

text_less : (a b : List ℕ) → AreBelow a b → slice_cmp nat_cmp a b ≡ Less
text_less [] [] h = absurd h
text_less [] (b ∷ es) h = refl
text_less (a ∷ ds) [] h = absurd h
text_less (a ∷ ds) (b ∷ es) h = counts_less a b (slice_cmp nat_cmp ds es) (λ _ k. text_less ds es k) h

keys_equal : (a b : Entries) → entry_keys a ≡ entry_keys b → keys_cmp a b ≡ Equal
unfolding datum_cmp
keys_equal no_entries no_entries e = refl
keys_equal no_entries (entry b w es) e = refl
keys_equal (entry a v ds) no_entries e = refl
keys_equal (entry a v ds) (entry b w es) e =
    let same : a ≡ b = cc in let rest : entry_keys ds ≡ entry_keys es = cc in rw (datum_cmp-same same) (keys_equal ds es rest)

entries_less : (a b : Entries) → (KeysBelow a b → keys_cmp a b ≡ Less) → (ValuesBelow a b → values_cmp a b ≡ Less) → KeysBelow a b ⊎ ((entry_keys a ≡ entry_keys b) × ValuesBelow a b) → ordering_then (keys_cmp a b) (values_cmp a b) ≡ Less
entries_less a b keys values (inl h) = rw (keys h)
entries_less a b keys values (inr h) = rw (keys_equal a b h.0) (values h.1)

mutual
  unfolding datum_cmp IsBelow

  -- a term that is below another compares as Less
  pub IsBelow-less : (a b : Datum) → IsBelow a b → datum_cmp a b ≡ Less
  IsBelow-less (integer a) (integer b) h = sym (int_cmp_is a b Less h)
  IsBelow-less (atom a) (atom b) h = text_less a b h
  IsBelow-less (tuple a) (tuple b) h = counts_less (item_count a) (item_count b) (items_cmp a b) (items_less a b) h
  IsBelow-less (map a) (map b) h =
      counts_less (entry_count a) (entry_count b) (ordering_then (keys_cmp a b) (values_cmp a b)) (λ _. entries_less a b (keys_less a b) (values_less a b)) h
  IsBelow-less (cons a d) (cons b e) h = then_less a b (datum_cmp d e) (IsBelow-less a b) (IsBelow-less d e) h
  IsBelow-less (binary a) (binary b) h = text_less a b h
  IsBelow-less a b h = sym (nat_cmp_is (rank a) (rank b) Less h)

  items_less : (a b : Items) → item_count a ≡ item_count b → ItemsBelow a b → items_cmp a b ≡ Less
  items_less no_items b e h = absurd h
  items_less (item a ds) no_items e h = absurd h
  items_less (item a ds) (item b es) e h = then_less a b (items_cmp ds es) (IsBelow-less a b) (items_less ds es (omega arith)) h

  keys_less : (a b : Entries) → KeysBelow a b → keys_cmp a b ≡ Less
  keys_less no_entries b h = absurd h
  keys_less (entry a v ds) no_entries h = absurd h
  keys_less (entry a v ds) (entry b w es) h = then_less a b (keys_cmp ds es) (IsBelow-less a b) (keys_less ds es) h

  values_less : (a b : Entries) → ValuesBelow a b → values_cmp a b ≡ Less
  values_less no_entries b h = absurd h
  values_less (entry k a ds) no_entries h = absurd h
  values_less (entry k a ds) (entry l b es) h = then_less a b (values_cmp ds es) (IsBelow-less a b) (values_less ds es) h

-- terms of two kinds compare as their kinds do
pub datum_cmp-kinds : (a b : Datum) → nat_cmp (rank a) (rank b) ≢ Equal → nat_cmp (rank a) (rank b) ≡ datum_cmp a b
unfolding datum_cmp
datum_cmp-kinds (integer a) (integer b) h = absurd (h refl)
datum_cmp-kinds (atom a) (atom b) h = absurd (h refl)
datum_cmp-kinds (tuple a) (tuple b) h = absurd (h refl)
datum_cmp-kinds (map a) (map b) h = absurd (h refl)
datum_cmp-kinds nil nil h = absurd (h refl)
datum_cmp-kinds (cons a d) (cons b e) h = absurd (h refl)
datum_cmp-kinds (binary a) (binary b) h = absurd (h refl)
datum_cmp-kinds a b h = refl

-- terms that compare as Equal are the same term
pub datum_cmp-equal : (a b : Datum) → datum_cmp a b ≡ Equal → a ≡ b
datum_cmp-equal a b e = rw e at (datum_cmp-says a b)

equal-from : (o : Ordering) → is_eq o ≡ true → o ≡ Equal
equal-from Less h = cc
equal-from Equal h = refl
equal-from Greater h = cc

pub datum_eq-same : (a b : Datum) → IsTrue (eq_by_cmp datum_cmp a b) → a ≡ b
datum_eq-same a b h = datum_cmp-equal a b (equal-from (datum_cmp a b) h)
