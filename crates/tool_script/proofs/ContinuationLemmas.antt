-- The continuations in memory are the walks of a script.
use Rattle.std.proofs.Common.{◌≡◌, ◌≢◌, ◌⊎◌, ℕ, zero, suc, ◌+◌, ◌<◌, ◌==◌, List, [], ◌∷◌, ◌++◌, inl, inr, refl, ap, sym, subst, ◌∙◌, Option, Some, None, arith, length, get_or, set, option_map}
use Rattle.std.specs.Prelude.{Bool, true, false, if◌then◌else◌}
use Rattle.std.specs.Ordering.{is_eq, nat_cmp}
use Rattle.std.specs.BTreeMap.{Updates}
use Rattle.std.proofs.Math.Seq.{get_or-append_seam}
use Rattle.std.proofs.lemmas.List.{get_or-set_other, length-append, length-set}
use Rattle.std.proofs.lemmas.Bool.{cases_eq, eqb-true, and_parts}
use Rattle.std.proofs.lemmas.Option.{none-some, same_Some}
use Rattle.term_core.proofs.RowLemmas.{nat_cmp-equal}
use Rattle.term_text.proofs.Keys.{is_eq-equal}
use Rattle.part_core.proofs.KeyLemmas.{by_test}
use Rattle.tables.specs.declared.options.Options.{Options}
use Rattle.walks.specs.declared.continuation.Continuation.{Continuation}
use Rattle.tool_script.specs.Held.{Held, held_by}
use Rattle.tool_script.specs.declared.continuations.Continuations.{Continuations}
use Rattle.tool_script.specs.Continuations.{held_of, IsPlace, AreHeld, AreDropped, IsMore, IsSet, is_own, own_by, walk_at}

-- ---- tables that are opened and closed

place_opened : {A : Type 0} (n : ℕ) (o : Options) (c : Option (Continuation A)) (held : Option Held) → o.name ≡ n → IsPlace None n c held → IsPlace (Some o) (n + 1) c held
place_opened n o None None named is = tt
place_opened n o None (Some held) named is = (omega (arith, is.0), λ same. absurd (omega (arith, is.0, named, same)))
place_opened n o (Some c) None named is = absurd is
place_opened n o (Some c) (Some held) named is =
    record { earlier = omega (arith, is.earlier); table = is.table; own = λ same. absurd (omega (arith, is.earlier, named, same)) }

place_closed : {A : Type 0} (n : ℕ) (o : Option Options) (c : Option (Continuation A)) (held : Option Held) → IsPlace o n c held → IsPlace None n c held
place_closed n o None None is = tt
place_closed n o None (Some held) is = (is.0, tt)
place_closed n o (Some c) None is = absurd is
place_closed n o (Some c) (Some held) is = record { earlier = is.earlier; table = is.table; own = tt }

dropped_place : {A : Type 0} (n : ℕ) (o : Option Options) (c : Option (Continuation A)) (held : Option Held) → IsPlace o n c held → IsPlace {A = A} None n None held
dropped_place n o c None is = tt
dropped_place n o None (Some held) is = (is.0, tt)
dropped_place n o (Some c) (Some held) is = (subst (λ k. k < n) (sym is.table) is.earlier, tt)

-- ---- places of a list

none_at : (walks : List (Option Held)) (i : ℕ) → get_or (set walks i None) i None ≡ None
none_at [] i = refl
none_at (h ∷ walks) zero = refl
none_at (h ∷ walks) (suc i) = none_at walks i

all_but_last : (walks : List (Option Held)) (held : Option Held) (i : ℕ) → i ≢ length walks → get_or (walks ++ held ∷ []) i None ≡ get_or walks i None
all_but_last [] held zero apart = absurd (apart refl)
all_but_last [] held (suc i) apart = refl
all_but_last (h ∷ walks) held zero apart = refl
all_but_last (h ∷ walks) held (suc i) apart = all_but_last walks held i (λ e. apart (ap suc e))

-- ---- walks by their numbers

module _ {A : Type 0} where
  -- no walk belongs to a table that is just opened
  pub held_opened : (n : ℕ) (o : Options) (cs : Continuations A) (walks : List (Option Held)) → o.name ≡ n → AreHeld None n cs walks → AreHeld (Some o) (n + 1) cs walks
  held_opened n o cs walks named are =
      record { next = are.next; places = λ i. place_opened n o (walk_at cs i) (get_or walks i None) named (are.places i) }

  pub held_closed : (n : ℕ) (o : Option Options) (cs : Continuations A) (walks : List (Option Held)) → AreHeld o n cs walks → AreHeld None n cs walks
  held_closed n o cs walks are =
      record { next = are.next; places = λ i. place_closed n o (walk_at cs i) (get_or walks i None) (are.places i) }

  -- when a table is closed, all continuations may be dropped
  pub held_dropped : (n : ℕ) (o : Option Options) (cs new : Continuations A) (walks : List (Option Held)) → AreHeld o n cs walks → AreDropped cs new → AreHeld None n new walks
  held_dropped n o cs new walks are gone =
      record {
        next = gone.0 ∙ are.next;
        places = λ i. subst (λ c. IsPlace None n c (get_or walks i None)) (sym (gone.1 i)) (dropped_place n o (walk_at cs i) (get_or walks i None) (are.places i));
      }

  -- one more continuation and its walk
  pub held_more : (o : Option Options) (n : ℕ) (cs new : Continuations A) (walks : List (Option Held)) (c : Continuation A) (held : Option Held) → AreHeld o n cs walks → IsMore cs c new → IsPlace o n (Some c) held → AreHeld o n new (walks ++ held ∷ [])
  held_more o n cs new walks c held are more is =
      record { next = more.next ∙ ap (λ m. m + 1) are.next ∙ sym (length-append walks (held ∷ [])); places = λ i. at i (cases_eq i cs.next) }
    where
      at : (i : ℕ) → (i ≡ cs.next) ⊎ (i ≢ cs.next) → IsPlace o n (walk_at new i) (get_or (walks ++ held ∷ []) i None)
      at i (inl here) =
          let last = ap (λ k. get_or (walks ++ held ∷ []) k None) (here ∙ are.next) ∙ get_or-append_seam walks held [] None in
          subst (λ x. IsPlace o n x (get_or (walks ++ held ∷ []) i None)) (sym (ap (walk_at new) here ∙ more.there)) (subst (IsPlace o n (Some c)) (sym last) is)
      at i (inr there) =
          let before = all_but_last walks held i (λ e. there (e ∙ sym are.next)) in
          subst (λ x. IsPlace o n x (get_or (walks ++ held ∷ []) i None)) (sym (more.others i there)) (subst (IsPlace o n (walk_at cs i)) (sym before) (are.places i))

  -- the continuation of a number is spent, and its walk with it
  pub held_spent : (o : Option Options) (n : ℕ) (cs new : Continuations A) (walks : List (Option Held)) (i : ℕ) → AreHeld o n cs walks → IsSet cs i None new → AreHeld o n new (set walks i None)
  held_spent o n cs new walks i are spent =
      record { next = spent.next ∙ are.next ∙ sym (length-set walks i None); places = λ k. at k (cases_eq k i) }
    where
      at : (k : ℕ) → (k ≡ i) ⊎ (k ≢ i) → IsPlace o n (walk_at new k) (get_or (set walks i None) k None)
      at k (inl here) =
          let none = ap (λ j. get_or (set walks i None) j None) here ∙ none_at walks i in
          subst (λ x. IsPlace o n x (get_or (set walks i None) k None)) (sym (ap (walk_at new) here ∙ spent.there)) (subst (λ h. IsPlace {A = A} o n None h) (sym none) tt)
      at k (inr there) =
          subst (λ x. IsPlace o n x (get_or (set walks i None) k None)) (sym (spent.others k there)) (subst (IsPlace o n (walk_at cs k)) (sym (get_or-set_other walks i k None None there)) (are.places k))

-- ---- one entry of the map

key_apart : (i k : ℕ) → k ≢ i → is_eq (nat_cmp i k) ≡ false
key_apart i k apart = by (is_eq (nat_cmp i k)) refl
  where
    by : (b : Bool) → is_eq (nat_cmp i k) ≡ b → b ≡ false
    by true same = absurd (apart (sym (nat_cmp-equal i k (is_eq-equal (nat_cmp i k) same))))
    by false other = refl

module _ {A : Type 0} where
  pub set_by : (old new : Continuations A) (i : ℕ) (c : Option (Continuation A)) → Updates nat_cmp old.open new.open i c → new.next ≡ old.next → IsSet old i c new
  set_by old new i c is next = record { there = is.1; others = λ k apart. is.2 k (key_apart i k apart); next = next }

  pub more_by : (old new : Continuations A) (c : Continuation A) → Updates nat_cmp old.open new.open old.next (Some c) → new.next ≡ old.next + 1 → IsMore old c new
  more_by old new c is next = record { there = is.1; others = λ k apart. is.2 k (key_apart old.next k apart); next = next }

-- ---- a session's own

mapped : {X Y : Type 0} (f : X → Y) (b : Bool) (x : X) → (if b then Some (f x) else None) ≡ option_map f (if b then Some x else None)
mapped f true x = refl
mapped f false x = refl

-- for the open table, a session's walk is the one that its continuation means
pub own_is : {A : Type 0} (o : Options) (count n : ℕ) (c : Option (Continuation A)) (held : Option Held) → IsPlace (Some o) count c held → held_by o.name n held ≡ option_map (held_of o) (own_by o.name n c)
own_is o count n None None is = refl
own_is o count n None (Some held) is =
    by_test (held.table == o.name) (held_by o.name n (Some held) ≡ None)
    (λ here. absurd (is.1 (sym (eqb-true held.table o.name here))))
    (λ there. rw there refl)
own_is o count n (Some c) None is = absurd is
own_is o count n (Some c) (Some held) is =
    by_test (c.table == o.name) (held_by o.name n (Some held) ≡ option_map (held_of o) (own_by o.name n (Some c)))
    (λ here. let whole = (is.own (sym (eqb-true c.table o.name here))).0 in
    subst (λ (h : Held). held_by o.name n (Some h) ≡ option_map (held_of o) (own_by o.name n (Some c))) (sym whole) (mapped (held_of o) (is_own o.name n c) c))
    (λ there. rw (is.table, there) refl)

-- a session's own continuation
pub record Own {A : Type 0} (table n : ℕ) (place : Option (Continuation A)) (c : Continuation A) : Type 0 where
  pub there : place ≡ Some c
  pub table_is : c.table ≡ table
  pub session_is : c.session ≡ n

pub own_there : {A : Type 0} (table n : ℕ) (place : Option (Continuation A)) (c : Continuation A) → own_by table n place ≡ Some c → Own table n place c
own_there table n None c e = absurd (none-some c e)
own_there table n (Some d) c e = by (is_own table n d) refl e
  where
    by : (b : Bool) → is_own table n d ≡ b → (if b then Some d else None) ≡ Some c → Own table n (Some d) c
    by true holds e =
        let parts = and_parts (d.table == table) (d.session == n) holds in
        let same = same_Some d c e in
        record { there = e; table_is = subst (λ x. x.table ≡ table) same (eqb-true d.table table parts.0); session_is = subst (λ x. x.session ≡ n) same (eqb-true d.session n parts.1) }
    by false fails e = absurd (none-some c e)
