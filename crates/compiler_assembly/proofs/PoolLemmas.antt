-- Constants, each once: the position of a term among them, and what appending others leaves as it was.
use Rattle.std.specs.Prelude.{ℕ, zero, suc, ◌≡◌, ◌+◌, ◌<◌, ◌≤◌, drop, cond, Bool, true, false, Option, Some, None, option_map, Result, Ok, Err, OnOk, IfOk, List, [], ◌∷◌, ◌++◌, length, slice_get, ◌-◌, take}
use Rattle.std.proofs.Common.{arith, get_or, refl, sym, ap, subst, ◌∙◌}
use Rattle.std.proofs.Math.Seq.{take-append_seam}
use Rattle.std.proofs.lemmas.List.{length-append, drop_all}
use Rattle.std.proofs.lemmas.Option.{same_Some}
use Rattle.std.specs.Ordering.{is_eq}
use Rattle.std.specs.declared.cmp.Ordering.{Ordering}
use Rattle.std.specs.declared.cmp.Ordering.TheVariants.{Less, Equal, Greater}
use Rattle.term_operand.specs.Order.{is_same}
use Rattle.term_core.specs.Datum.{Datum}
use Rattle.term_core.specs.Order.{datum_cmp}
use Rattle.term_core.specs.OrderLaws.{datum_cmp-equal, datum_cmp-same}
use Rattle.mcode.specs.declared.fault.Fault.{Fault}
use Rattle.compiler_assembly.specs.Assembled.{number_of, with_term}
use Rattle.compiler_assembly.specs.Pool.{place_of, place_from, few, IsFront, IsPool}

-- terms that are the same are equal
pub same_is : (c d : Datum) → is_same c d ≡ true → c ≡ d
same_is c d h = by (datum_cmp c d) refl h
  where
    by : (o : Ordering) → datum_cmp c d ≡ o → is_eq o ≡ true → c ≡ d
    by Less e h = absurd (cc)
    by Equal e h = datum_cmp-equal c d e
    by Greater e h = absurd (cc)

-- a term is the same as itself
pub same_itself : (d : Datum) → is_same d d ≡ true
same_itself d = ap is_eq (datum_cmp-same {a = d} {b = d} refl)

-- the predecessor of a number that is a successor
suc_some : (o : Option ℕ) (n : ℕ) → option_map suc o ≡ Some n → (m : ℕ) × (o ≡ Some m) × (n ≡ suc m)
suc_some None n h = absurd (cc)
suc_some (Some m) n h = let e : suc m ≡ n = cc in (m, refl, sym e)

suc_none : (o : Option ℕ) → option_map suc o ≡ None → o ≡ None
suc_none None h = refl
suc_none (Some m) h = absurd (cc)

-- a term that has a position is there
pub place_there : (cs : List Datum) (d : Datum) (n : ℕ) → place_of cs d ≡ Some n → slice_get cs n ≡ Some d
place_there [] d n h = absurd (cc)
place_there (c ∷ cs) d n h = by (is_same c d) refl h (place_there cs d)
  where
    by : (b : Bool) → is_same c d ≡ b → cond b (Some 0) (option_map suc (place_of cs d)) ≡ Some n → ((m : ℕ) → place_of cs d ≡ Some m → slice_get cs m ≡ Some d) → slice_get (c ∷ cs) n ≡ Some d
    by true e h again =
        let zero_is : 0 ≡ n = cc in
        subst (λ m. slice_get (c ∷ cs) m ≡ Some d) zero_is (ap Some (same_is c d e))
    by false e h again =
        let more = suc_some (place_of cs d) n h in
        subst (λ m. slice_get (c ∷ cs) m ≡ Some d) (sym more.2) (again more.0 more.1)

pub place_number : (cs : List Datum) (d : Datum) (n : ℕ) → place_of cs d ≡ Some n → number_of cs d ≡ n
place_number [] d n h = absurd (cc)
place_number (c ∷ cs) d n h = by (is_same c d) h (place_number cs d)
  where
    by : (b : Bool) → cond b (Some 0) (option_map suc (place_of cs d)) ≡ Some n → ((m : ℕ) → place_of cs d ≡ Some m → number_of cs d ≡ m) → cond b 0 (suc (number_of cs d)) ≡ n
    by true h again = cc
    by false h again =
        let more = suc_some (place_of cs d) n h in
        ap suc (again more.0 more.1) ∙ sym more.2

-- adding a term that has a position changes nothing
pub with_place : (cs : List Datum) (d : Datum) (n : ℕ) → place_of cs d ≡ Some n → with_term cs d ≡ cs
with_place [] d n h = absurd (cc)
with_place (c ∷ cs) d n h = by (is_same c d) h (with_place cs d)
  where
    by : (b : Bool) → cond b (Some 0) (option_map suc (place_of cs d)) ≡ Some n → ((m : ℕ) → place_of cs d ≡ Some m → with_term cs d ≡ cs) → cond b (c ∷ cs) (c ∷ with_term cs d) ≡ c ∷ cs
    by true h again = refl
    by false h again = let more = suc_some (place_of cs d) n h in ap (λ xs. c ∷ xs) (again more.0 more.1)

-- a term that has no position is appended
pub with_none : (cs : List Datum) (d : Datum) → place_of cs d ≡ None → with_term cs d ≡ cs ++ d ∷ []
with_none [] d h = refl
with_none (c ∷ cs) d h = by (is_same c d) h (with_none cs d)
  where
    by : (b : Bool) → cond b (Some 0) (option_map suc (place_of cs d)) ≡ None → (place_of cs d ≡ None → with_term cs d ≡ cs ++ d ∷ []) → cond b (c ∷ cs) (c ∷ with_term cs d) ≡ c ∷ (cs ++ d ∷ [])
    by true h again = absurd (cc)
    by false h again = ap (λ xs. c ∷ xs) (again (suc_none (place_of cs d) h))

-- appending constants doesn't change a position
pub place_front : (cs rest : List Datum) (d : Datum) (n : ℕ) → place_of cs d ≡ Some n → place_of (cs ++ rest) d ≡ Some n
place_front [] rest d n h = absurd (cc)
place_front (c ∷ cs) rest d n h = by (is_same c d) h (place_front cs rest d)
  where
    by : (b : Bool) → cond b (Some 0) (option_map suc (place_of cs d)) ≡ Some n → ((m : ℕ) → place_of cs d ≡ Some m → place_of (cs ++ rest) d ≡ Some m) → cond b (Some 0) (option_map suc (place_of (cs ++ rest) d)) ≡ Some n
    by true h again = h
    by false h again =
        let more = suc_some (place_of cs d) n h in
        ap (option_map suc) (again more.0 more.1) ∙ ap Some (sym more.2)

pub place_later : (cs ds : List Datum) (d : Datum) (n : ℕ) → IsFront cs ds → place_of cs d ≡ Some n → place_of ds d ≡ Some n
place_later cs ds d n front h = subst (λ es. place_of es d ≡ Some n) (sym front.all) (place_front cs front.rest d n h)

-- the position of a term after another one was appended
pub place_push : (cs : List Datum) (key d : Datum) → place_of cs key ≡ None → place_of (cs ++ key ∷ []) d ≡ cond (is_same key d) (Some (length cs)) (place_of cs d)
place_push [] key d h = refl
place_push (c ∷ cs) key d h = by (is_same c key) refl h (place_push cs key d)
  where
    after : (b : Bool) (k : Bool) → is_same c d ≡ b → is_same key d ≡ k → (is_same c key ≡ false) → place_of (cs ++ key ∷ []) d ≡ cond k (Some (length cs)) (place_of cs d) → cond b (Some 0) (option_map suc (place_of (cs ++ key ∷ []) d)) ≡ cond k (Some (suc (length cs))) (cond b (Some 0) (option_map suc (place_of cs d)))
    after true true e k apart rest =
        let one : c ≡ d = same_is c d e in
        let two : key ≡ d = same_is key d k in
        let same : is_same c key ≡ true = subst (λ x. is_same c x ≡ true) (one ∙ sym two) (same_itself c) in
        absurd (cc)
    after true false e k apart rest = refl
    after false true e k apart rest = ap (option_map suc) rest
    after false false e k apart rest = ap (option_map suc) rest

    by : (b : Bool) → is_same c key ≡ b → cond b (Some 0) (option_map suc (place_of cs key)) ≡ None → (place_of cs key ≡ None → place_of (cs ++ key ∷ []) d ≡ cond (is_same key d) (Some (length cs)) (place_of cs d)) → place_of (c ∷ cs ++ key ∷ []) d ≡ cond (is_same key d) (Some (suc (length cs))) (place_of (c ∷ cs) d)
    by true e h again = absurd (cc)
    by false e h again =
        after (is_same c d) (is_same key d) refl refl e (again (suc_none (place_of cs key) h))

-- the position of a term that was appended
pub place_last : (cs : List Datum) (d : Datum) → place_of cs d ≡ None → place_of (cs ++ d ∷ []) d ≡ Some (length cs)
place_last cs d h = place_push cs d d h ∙ ap (λ b. cond b (Some (length cs)) (place_of cs d)) (same_itself d)

-- a position is the number of the term, also after constants are appended
pub number_later : (cs ds : List Datum) (d : Datum) (n : ℕ) → place_of cs d ≡ Some n → IsFront cs ds → n ≡ number_of ds d
number_later cs ds d n h front = sym (place_number ds d n (place_later cs ds d n front h))

-- if there are more than a few constants, one more is found after it is entered
pub pool_more : (found found' : Datum → Option ℕ) (cs : List Datum) (key : Datum) (n : ℕ) → IsPool found cs → few < length cs → place_of cs key ≡ None → n ≡ length cs → suc (length cs) ≤ 65535 → ((d : Datum) → found' d ≡ cond (is_same key d) (Some n) (found d)) → IsPool found' (cs ++ key ∷ [])
pool_more found found' cs key n pool many new is small entered = record {
  numbers = λ more d. entered d ∙ ap (λ m. cond (is_same key d) (Some m) (found d)) is ∙ ap (cond (is_same key d) (Some (length cs))) (pool.numbers many d) ∙ sym (place_push cs key d new);
  count = omega (arith, length-append cs (key ∷ []), small);
}

-- the constants are found as before if look-ups are as before
pub pool_same : (found found' : Datum → Option ℕ) (cs : List Datum) → IsPool found cs → ((d : Datum) → found' d ≡ found d) → IsPool found' cs
pool_same found found' cs pool same = record { numbers = λ more d. same d ∙ pool.numbers more d; count = pool.count }

-- the position from n on is that of the n-th term, or one after it
pub place_step : (xs : List Datum) (n m : ℕ) (x d : Datum) → n < length xs → x ≡ get_or xs n x → place_from (drop n xs) m d ≡ cond (is_same x d) (Some m) (place_from (drop (n + 1) xs) (m + 1) d)
place_step xs n m x d inside is =
    rw (one n, one m) (go xs n x inside is)
  where
    one : (k : ℕ) → k + 1 ≡ suc k
    one k = omega arith

    go : (ys : List Datum) (k : ℕ) (y : Datum) → k < length ys → y ≡ get_or ys k y → place_from (drop k ys) m d ≡ cond (is_same y d) (Some m) (place_from (drop (suc k) ys) (suc m) d)
    go [] k y inside is = absurd (omega (arith, inside))
    go (z ∷ zs) zero y inside is = ap (λ c. cond (is_same c d) (Some m) (place_from zs (suc m) d)) (sym is)
    go (z ∷ zs) (suc k) y inside is = go zs k y (omega (arith, inside)) is

place_shift : (cs : List Datum) (n : ℕ) (d : Datum) → place_from cs (suc n) d ≡ option_map suc (place_from cs n d)
place_shift [] n d = refl
place_shift (c ∷ cs) n d = by (is_same c d) (place_shift cs (suc n) d)
  where
    by : (b : Bool) → place_from cs (suc (suc n)) d ≡ option_map suc (place_from cs (suc n) d) → cond b (Some (suc n)) (place_from cs (suc (suc n)) d) ≡ option_map suc (cond b (Some n) (place_from cs (suc n) d))
    by true more = refl
    by false more = more

-- the position of a term among all
pub place_first : (cs : List Datum) (d : Datum) → place_from cs 0 d ≡ place_of cs d
place_first [] d = refl
place_first (c ∷ cs) d = ap (cond (is_same c d) (Some 0)) (place_shift cs 0 d ∙ ap (option_map suc) (place_first cs d))

-- adding a constant that was there changes nothing
pub found_terms : (cs : List Datum) (d : Datum) (n : ℕ) → Some n ≡ place_of cs d → cs ≡ with_term cs d
found_terms cs d n h = sym (with_place cs d n (sym h))

-- what is known after a constant was added
pub record IsLast (cs cs' : List Datum) (d : Datum) (n : ℕ) : Type 0 where
  pub terms : cs' ≡ with_term cs d
  pub place : place_of cs' d ≡ Some n

pub last_of : (cs cs' : List Datum) (d : Datum) (n : ℕ) → place_of cs d ≡ None → cs' ≡ cs ++ d ∷ [] → n ≡ length cs → IsLast cs cs' d n
last_of cs cs' d n new all is = record {
  terms = all ∙ sym (with_none cs d new);
  place = ap (λ es. place_of es d) all ∙ place_last cs d new ∙ ap Some (sym is);
}

-- this is known if the constant was appended
pub added : (cs cs' : List Datum) (d : Datum) (r : Result ℕ Fault) → place_of cs d ≡ None → OnOk r (cs' ≡ cs ++ d ∷ []) → IfOk r (λ n. n ≡ length cs) → IfOk r (λ n. IsLast cs cs' d n)
added cs cs' d (Ok n) new all is = last_of cs cs' d n new all is
added cs cs' d (Err fault) new all is = tt

pub added_terms : (cs cs' : List Datum) (d : Datum) (r : Result ℕ Fault) → IfOk r (λ n. IsLast cs cs' d n) → OnOk r (cs' ≡ with_term cs d)
added_terms cs cs' d (Ok n) last = last.terms
added_terms cs cs' d (Err fault) last = tt

-- the constants before the last one
pub before_last : (cs : List Datum) (d : Datum) → take (length (cs ++ d ∷ []) - 1) (cs ++ d ∷ []) ≡ cs
before_last cs d = rw (length-append cs (d ∷ [])) (rw (one_less (length cs)) (taken cs))
  where
    one_less : (n : ℕ) → n + 1 - 1 ≡ n
    one_less n = omega arith

    taken : (xs : List Datum) → take (length xs) (xs ++ d ∷ []) ≡ xs
    taken [] = refl
    taken (x ∷ xs) = ap (λ ys. x ∷ ys) (taken xs)

-- a new constant is one more
pub with_longer : (cs : List Datum) (d : Datum) → place_of cs d ≡ None → length (with_term cs d) ≡ suc (length cs)
with_longer cs d new = ap length (with_none cs d new) ∙ omega (arith, length-append cs (d ∷ []))

-- the term that is looked at has this number if it is the one searched for
pub place_found : (xs : List Datum) (n : ℕ) (x d : Datum) → n < length xs → x ≡ get_or xs n x → is_same x d ≡ true → place_from (drop n xs) n d ≡ place_from xs 0 d → Some n ≡ place_of xs d
place_found xs n x d inside is same left =
    sym (place_step xs n n x d inside is ∙ ap (λ b. cond b (Some n) (place_from (drop (n + 1) xs) (n + 1) d)) same) ∙ left ∙ place_first xs d

-- the term has no number if none is left to look at
pub place_nowhere : (xs : List Datum) (n : ℕ) (d : Datum) → length xs ≤ n → place_from (drop n xs) n d ≡ place_from xs 0 d → None ≡ place_of xs d
place_nowhere xs n d past left =
    sym (ap (λ ys. place_from ys n d) (drop_all n xs past)) ∙ left ∙ place_first xs d

-- the last of a list comes after the others
last_split : (xs : List Datum) (n : ℕ) (x : Datum) → length xs ≡ n + 1 → x ≡ get_or xs n x → (xs ≡ take n xs ++ x ∷ []) × (length (take n xs) ≡ n) × (slice_get xs n ≡ Some x)
last_split [] n x size is = absurd (omega (arith, size))
last_split (y ∷ []) zero x size is = (ap (λ z. z ∷ []) (sym is), refl, ap Some (sym is))
last_split (y ∷ z ∷ zs) zero x size is = absurd (omega (arith, size))
last_split (y ∷ ys) (suc n) x size is =
    let rest = last_split ys n x (omega (arith, size)) is in
    (ap (λ zs. y ∷ zs) rest.0, ap suc rest.1, rest.2)

-- one more constant is found, the last of all
pub pool_last : (found found' : Datum → Option ℕ) (cs : List Datum) (n : ℕ) (x : Datum) → length cs ≡ n + 1 → length cs ≤ 65535 → few < n → x ≡ get_or cs n x → IsPool found (take n cs) → ((d : Datum) → slice_get cs n ≡ Some d → place_of (take n cs) d ≡ None) → ((d : Datum) → found' d ≡ cond (is_same x d) (Some n) (found d)) → IsPool found' cs
pool_last found found' cs n x size small many is pool new entered =
    let split = last_split cs n x size is in
    subst (IsPool found') (sym split.0)
    (pool_more found found' (take n cs) x n pool (omega (arith, many, split.1)) (new x split.2) (sym split.1) (omega (arith, split.1, size, small)) entered)

-- the last of a list is new if it is none of those before it
pub new_last : (front : List Datum) (x d : Datum) (n : ℕ) (xs : List Datum) → xs ≡ front ++ x ∷ [] → n ≡ length front → place_of front x ≡ None → slice_get xs n ≡ Some d → place_of (take n xs) d ≡ None
new_last front x d n xs all is new at =
    let there = ap (λ m. slice_get (front ++ x ∷ []) m) (sym is) ∙ ap (λ ys. slice_get ys n) (sym all) ∙ at in
    ap (λ ys. place_of (take n ys) d) all ∙ ap (λ m. place_of (take m (front ++ x ∷ [])) d) is
    ∙ ap (λ ys. place_of ys d) (take-append_seam front (x ∷ [])) ∙ ap (place_of front) (sym (seam front there)) ∙ new
  where
    seam : (ys : List Datum) → slice_get (ys ++ x ∷ []) (length ys) ≡ Some d → x ≡ d
    seam [] h = same_Some x d h
    seam (y ∷ ys) h = seam ys h
